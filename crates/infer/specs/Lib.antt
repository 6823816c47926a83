-- signatures, of the crates below
pub use Rattle.infer_sig.specs.Signature
pub use Rattle.infer_sig.specs.Headers
pub use Rattle.infer_sig.specs.App
pub use Rattle.infer_sig.specs.Archive
pub use Rattle.infer_sig.specs.Audio
pub use Rattle.infer_sig.specs.Book
pub use Rattle.infer_sig.specs.Font
pub use Rattle.infer_sig.specs.Image
pub use Rattle.infer_sig.specs.Odf
pub use Rattle.infer_sig.specs.Text
pub use Rattle.infer_sig.specs.Video
pub use Rattle.infer_sig.specs.Laws as FixedLaws
pub use Rattle.infer_sig.specs.Open as FixedOpen
pub use Rattle.infer_deep.specs.Find
pub use Rattle.infer_deep.specs.Numbers
pub use Rattle.infer_deep.specs.Places
pub use Rattle.infer_deep.specs.Joined
pub use Rattle.infer_deep.specs.Signatures
pub use Rattle.infer_deep.specs.Windows
pub use Rattle.infer_deep.specs.Frames
pub use Rattle.infer_deep.specs.Brands
pub use Rattle.infer_deep.specs.Office
pub use Rattle.infer_deep.specs.ClassId
pub use Rattle.infer_deep.specs.Text as MarkupText
pub use Rattle.infer_deep.specs.Laws as DeepLaws
pub mod Buffer
pub mod Triple
pub mod BuiltIn
pub mod Row
pub mod First
pub mod Questions
pub mod Caller
pub mod Rows
pub mod Table
pub mod Matchers
pub mod Watched
pub mod Fault
pub mod Reading
pub mod Leads
pub mod Walks
pub mod Groups
pub mod Decided
pub mod Evidence
pub mod Laws
pub mod Samples
pub mod Listed
pub mod Arrivals
