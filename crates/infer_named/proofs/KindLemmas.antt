-- Bytes have one kind.
use Rattle.std.proofs.Common.{◌≡◌, ℕ, List, refl}
use Rattle.infer_named.specs.Bytes.{IsKind}
use Rattle.infer_named.specs.declared.bytes.Kind.{Kind}
use Rattle.infer_named.specs.declared.bytes.Kind.TheVariants.{Binary, Empty, Marked, Text}

pub one_kind : (b : List ℕ) (k l : Kind) → IsKind b k → IsKind b l → k ≡ l
one_kind b Empty Empty h g = refl
one_kind b Empty Text h g = absurd (g.0 h)
one_kind b Empty Binary h g = absurd (g.0 h)
one_kind b Empty Marked h g = absurd (g.0 h)
one_kind b Text Empty h g = absurd (h.0 g)
one_kind b Text Text h g = refl
one_kind b Text Binary h g = absurd (g.1 h.1)
one_kind b Text Marked h g = absurd (g.1 h.1)
one_kind b Binary Empty h g = absurd (h.0 g)
one_kind b Binary Text h g = absurd (h.1 g.1)
one_kind b Binary Binary h g = refl
one_kind b Binary Marked h g = absurd (g.2 h.2)
one_kind b Marked Empty h g = absurd (h.0 g)
one_kind b Marked Text h g = absurd (h.1 g.1)
one_kind b Marked Binary h g = absurd (h.2 g.2)
one_kind b Marked Marked h g = refl
