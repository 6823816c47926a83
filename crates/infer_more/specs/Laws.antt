-- Laws of further rows and of the wider answer.
use Rattle.std.specs.Prelude.{◌≡◌, ◌<◌, ◌≤◌, ◌⊎◌, ◌||◌, ℕ, Bool, true, IfSome, IsTrue, List, [], ◌++◌, Option, None, Some, All, MatchOption, if◌then◌else◌, length, nat_le, nat_lt, not, option_map, slice_get}
use Rattle.std.specs.List.{HoldsAt, list_all, list_any}
use Rattle.infer_formats.specs.Relation as relation
use Rattle.infer_formats.specs.Relation.{first_key, first_key_with, json_lines, json_text, root, root_with}
use Rattle.infer_sig.specs.Signature as fixed
use Rattle.infer_sig.specs.Signature.{at_least, Part, text, any_text, byte}
use Rattle.infer.specs.Buffer.{IsBuffer}
use Rattle.infer.specs.First.{IsFirstOf, NoneHas}
use Rattle.infer.specs.Laws.{IsNotLater}
use Rattle.infer.specs.Leads.{is_white}
use Rattle.infer.specs.Row.{Accepts, shows}
use Rattle.infer.specs.Triple.{Triple}
use Rattle.infer.specs.Table as built_in
use Rattle.infer.specs.declared.table.rows.TheConstants.{ROW_COUNT}
use Rattle.infer_more.specs.Line as text_line
use Rattle.infer_more.specs.Text.{IsTypesAnswer, rows_of}
use Rattle.infer_more.specs.Index.{is_plain, is_settled}
use Rattle.infer_more.specs.Outline.{lines, outline}
use Rattle.infer_more.specs.Row.{Further}
use Rattle.infer_notation.specs.Alternative.{Accepted, Alternative, Fits, related}
use Rattle.infer_more.specs.Table.{further}
use Rattle.infer_more.specs.Wider.{IsWider, Widens, parent_at, shown}

-- more bytes never take back that a buffer fits the alternative: it is none of the texts
abbrev pub is_lasting : Alternative → Bool
is_lasting (related r) = relation.is_lasting r
is_lasting other = true

-- and so each of a signature
abbrev pub lasts : List Alternative → Bool
lasts signature = list_all is_lasting signature

-- what such a signature accepts, it accepts however the buffer goes on
abbrev pub AllLast : Type 0
AllLast = (signature : List Alternative) → IsTrue (lasts signature) → (b more : List ℕ) → Accepted signature b → Accepted signature (b ++ more)

-- a buffer fits the alternative, and with more bytes after it no longer
abbrev pub IsLost : Alternative → Type 0
IsLost a = (b more : List ℕ) × IsBuffer (b ++ more) × Fits a b × (¬ Fits a (b ++ more))

-- so it is of each other alternative
abbrev pub OthersAreLost : Type 0
OthersAreLost = (a : Alternative) → IsTrue (not (is_lasting a)) → IsLost a

-- the signature of the first row that widens an answer does not last
abbrev pub MayBeLost : Option ℕ → Type 0
MayBeLost found = MatchOption found ⊥ (λ i. HoldsAt (λ r. IsTrue (not (lasts r.signature))) further i)

-- as long as the built-in answer stays, bytes after a buffer never make its first further row a later one, unless that
-- is one of the texts
abbrev pub IsSteady : Type 0
IsSteady =
    (parent : Option ℕ) (short more : List ℕ) (before after : Option ℕ) → IsFirstOf (Widens parent short) further before
    → IsFirstOf (Widens parent (short ++ more)) further after → IsNotLater after before ⊎ MayBeLost before

-- no further row but that of plain text accepts a buffer of white space, and none the empty one
pub record NoneIsBlank : Type 0 where
  pub white : (b : List ℕ) → All (λ x. IsTrue (is_white x)) b → NoneHas (λ r. Accepted r.signature b × IsTrue (not (list_any is_plain r.signature))) further
  pub empty : NoneHas (λ r. Accepted r.signature []) further

-- the part asks for a byte that is no white space
abbrev pub is_dark_part : Part → Bool
is_dark_part (text p t) = list_any (λ x. not (is_white x)) t
is_dark_part (any_text p ts) = is_settled (λ x. not (is_white x)) p (any_text p ts)
is_dark_part (byte p set) = is_settled (λ x. not (is_white x)) p (byte p set)

-- some part of each alternative does
abbrev pub is_dark_alternative : fixed.Alternative → Bool
is_dark_alternative (at_least n parts) = list_any is_dark_part parts

-- it has a byte that is no white space, since it asks for one, or as JSON and the root of markup
abbrev pub is_dark_relation : Alternative → Bool
is_dark_relation (related json_lines) = true
is_dark_relation (related json_text) = true
is_dark_relation (related (first_key k)) = true
is_dark_relation (related (first_key_with k v)) = true
is_dark_relation (related (root name)) = true
is_dark_relation (related (root_with name t)) = true
is_dark_relation a = list_all is_dark_alternative (lines a)

-- the signature is one of plain text, or each of its alternatives has
abbrev pub is_dark : Further → Bool
is_dark r = list_any is_plain r.signature || list_all is_dark_relation r.signature

-- and each asks for a byte or more
abbrev pub is_some_alternative : fixed.Alternative → Bool
is_some_alternative (at_least n parts) = nat_le 1 n

abbrev pub is_filled : Further → Bool
is_filled r = list_all is_some_alternative (outline r.signature)

-- what a built-in row shows is what the row of that number shows among all
abbrev pub ShowsBuiltIn : Type 0
ShowsBuiltIn = (i : ℕ) → i < ROW_COUNT → slice_get shown i ≡ option_map shows (slice_get built_in.table i)

-- the number of the built-in answer, by that of the wider answer: a further row's parent, and otherwise the same
abbrev pub built_in_by : Option ℕ → Option ℕ
built_in_by None = None
built_in_by (Some i) = if nat_lt i ROW_COUNT then Some i else parent_at i

-- the wider answer alone tells the built-in one
abbrev pub AllAreBelow : Type 0
AllAreBelow = (b : List ℕ) (o : Option ℕ) → IsWider b o → IsFirstOf (Accepts b) built_in.table (built_in_by o)

-- the MIME type and the extension of every row, built-in or further, have at most n bytes
abbrev pub TextsFit : ℕ → Type 0
TextsFit n = (i : ℕ) → IfSome (slice_get shown i) (λ t. (length t.mime_type ≤ n) × (length t.extension ≤ n))

-- so those of an answer with types of a text have fewer than 256
abbrev pub OwnTextsFit : Type 0
OwnTextsFit =
    (text : List ℕ) (rows : List text_line.Row) (b : List ℕ) (t : Option Triple) → rows_of text ≡ Some rows → IsTypesAnswer rows b t
    → IfSome t (λ t. (length t.mime_type < 256) × (length t.extension < 256))
