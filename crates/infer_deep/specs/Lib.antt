-- where a text stands, of the crate below
pub use Rattle.memchr.specs.Find
pub mod Numbers
pub mod Places
pub mod Open
pub mod Blocks
pub mod Joined
pub mod Signatures
pub mod Windows
pub mod Frames
pub mod Brands
pub mod Office
pub mod ClassId
pub mod Text
pub mod Laws
