-- Different reasons have different words: a reason is found by its words.
use Rattle.std.proofs.Common.{◌≡◌, ℕ, List, [], ◌∷◌, Option, None, Some, refl, sym, ap, ◌∙◌, if◌then◌else◌}
use Rattle.std.specs.Str.{bytes_eq}
use Rattle.infer_notation.specs.Reasons.{reason_text}
use Rattle.infer_notation.specs.declared.reason.Reason.{Reason}
use Rattle.infer_notation.specs.declared.reason.Reason.TheVariants.{Fields, Extension, MimeType, Class, Parent, OpenQuote, Empty, OpenSet, Byte, Digits, Length, Place, Bytes, Overlap, Past, Range, Binary, Relation, Item, End}

found_among : List Reason → List ℕ → Option Reason
found_among [] words = None
found_among (r ∷ rs) words = if bytes_eq (reason_text r) words then Some r else found_among rs words

found : List ℕ → Option Reason
found words = found_among (Fields ∷ Extension ∷ MimeType ∷ Class ∷ Parent ∷ OpenQuote ∷ Empty ∷ OpenSet ∷ Byte ∷ Digits ∷ Length ∷ Place ∷ Bytes ∷ Overlap ∷ Past ∷ Range ∷ Binary ∷ Relation ∷ Item ∷ End ∷ []) words

found_by_its : (r : Reason) → found (reason_text r) ≡ Some r
unfolding found found_among
found_by_its Fields = refl
found_by_its _ = refl

pub texts_apart : (a b : Reason) → reason_text a ≡ reason_text b → a ≡ b
texts_apart a b same = let both : Some a ≡ Some b = sym (found_by_its a) ∙ ap found same ∙ found_by_its b in cc
