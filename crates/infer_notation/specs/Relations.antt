-- Relations as a text writes them, as in `root: rss or RDF with "http://purl.org/rss/1.0/"`: a name, and what it takes.
use Rattle.std.specs.Prelude.{◌≡◌, ◌+◌, ◌*◌, ◌↔◌, ◌==◌, ◌&&◌, ℕ, Bool, true, false, IsTrue, List, [], ◌∷◌, ◌++◌, Option, None, Some, codes, drop, length, map, nat_le, nat_lt, option_map, take, if◌then◌else◌}
use Rattle.std.specs.List.{slice_split}
use Rattle.std.specs.Str.{bytes_eq}
use denote.Ref.{Bor}
use Rattle.infer_formats.specs.Relation.{Relation, class_id, directory_tag, directory_tag_and_make, first_entry_ends_in, first_entry_has_extra, first_entry_is, first_key, first_key_with, header, names, of_text, program, relation_listed, root, root_with, text_first, text_first_with, text_first_with_all}
use Rattle.infer_notation.specs.Alternative.{Accepted, Alternative, related}
use Rattle.infer_notation.specs.Grammar.{tokens_of}
use Rattle.infer_notation.specs.Texts.{text_before, text_in}
use Rattle.infer_notation.specs.Tokens.{Token, bare, is_word, separator, quoted, set, token_listed}
use Rattle.infer_notation.specs.Words.{◌>>=◌, byte_of, byte_with, number_of}
use Rattle.infer_notation.specs.declared.relations.Group.{Group}
use Rattle.infer_formats.specs.declared.token.Token as declared
use Rattle.infer_formats.specs.declared.relation.OfText.{OfText}
use Rattle.infer_formats.specs.declared.relation.Takes.{Takes}
use Rattle.infer_formats.specs.declared.relation.Takes.TheVariants.{Begins, ClassId, Entry, FirstKey, Header, Nothing, OneText, Program, Root, Tag}

-- what stands after a name, and the tokens there
abbrev pub rest_listed : Takes × Bor (List declared.Token) → Takes × List Token
rest_listed n = (n.0, map token_listed n.1.now)

-- both are the same
abbrev pub same_token : Token → Token → Bool
same_token (quoted s) (quoted t) = bytes_eq s t
same_token (set s) (set t) = bytes_eq s t
same_token (separator x) (separator y) = x == y
same_token (bare s) (bare t) = bytes_eq s t
same_token s t = false

-- they begin by these
abbrev pub begins_by : List Token → List Token → Bool
begins_by ts [] = true
begins_by [] (n ∷ ns) = false
begins_by (t ∷ ts) (n ∷ ns) = same_token t n && begins_by ts ns

-- the first name by which the tokens begin: what it takes, and what follows it
abbrev pub named_in : List (List Token × Takes) → List Token → Option (Takes × List Token)
named_in [] ts = None
named_in (n ∷ others) ts = if begins_by ts n.0 then Some (n.1, drop (length n.0) ts) else named_in others ts

abbrev pub is_or : Token → Bool
is_or t = is_word (codes "or") t

-- groups of tokens, of which none is empty and none has more than 24
abbrev pub short_groups : List (List Token) → Option (List (List Token))
short_groups [] = Some []
short_groups (g ∷ gs) = if nat_lt 0 (length g) && nat_le (length g) 24 then option_map (λ hs. g ∷ hs) (short_groups gs) else None

-- the groups of tokens between the words "or"
abbrev pub groups_of : List ℕ → Option (List (List Token))
groups_of t = tokens_of t >>= λ ts. short_groups (slice_split is_or ts)

-- the groups of what is left, if anything is
abbrev pub left_groups : Option (List ℕ) → Option (List (List Token))
left_groups None = Some []
left_groups (Some t) = groups_of t

abbrev pub left_length : Option (List ℕ) → ℕ
left_length None = 0
left_length (Some t) = length t + 1

abbrev pub group_listed : Group → List Token
group_listed g = map token_listed (take g.count g.tokens)

-- ---- what each relation takes

-- no token
abbrev pub alone : Relation → List Token → Option Relation
alone r [] = Some r
alone r (t ∷ ts) = None

-- the number that four hexadecimal digits write
abbrev pub tag_of : List ℕ → Option ℕ
tag_of (a ∷ b ∷ c ∷ d ∷ []) = byte_with a b >>= λ x. option_map (λ y. 256 * x + y) (byte_with c d)
tag_of other = None

-- after that nothing, or the make of the camera
abbrev pub after_tag : ℕ → List Token → Option Relation
after_tag n [] = Some (directory_tag n)
after_tag n (t ∷ u ∷ ts) =
    if is_word (codes "and") t && is_word (codes "make") u then option_map (λ make. directory_tag_and_make n make) (text_in ts) else None
after_tag n other = None

abbrev pub directory_of : List Token → Option Relation
directory_of (bare w ∷ ts) = tag_of w >>= λ n. after_tag n ts
directory_of other = None

-- a text
abbrev pub text_of : OfText → List Token → Option Relation
text_of which (quoted t ∷ []) = Some (of_text which t)
text_of which other = None

-- a word
abbrev pub program_of : List Token → Option Relation
program_of (bare w ∷ []) = Some (program w)
program_of other = None

-- the byte that a word writes
abbrev pub token_byte : Token → Option ℕ
token_byte (bare w) = byte_of w
token_byte other = None

-- `is "NAME"`
abbrev pub named_entry : List Token → Option Relation
named_entry (is ∷ quoted t ∷ []) = if is_word (codes "is") is then Some (first_entry_is t) else None
named_entry other = None

-- `ends in "END"`
abbrev pub ending_entry : List Token → Option Relation
ending_entry (ends ∷ within ∷ quoted t ∷ []) = if is_word (codes "ends") ends && is_word (codes "in") within then Some (first_entry_ends_in t) else None
ending_entry other = None

-- the two bytes of an id
abbrev pub extra_field : List Token → Option Relation
extra_field (bare v ∷ bare w ∷ []) = byte_of v >>= λ x. option_map (λ y. first_entry_has_extra (x ∷ y ∷ [])) (byte_of w)
extra_field other = None

-- `has extra FE CA`
abbrev pub extra_entry : List Token → Option Relation
extra_entry (has ∷ extra ∷ id) = if is_word (codes "has") has && is_word (codes "extra") extra then extra_field id else None
extra_entry other = None

-- the first of these that there is
abbrev pub or_else : Option Relation → Option Relation → Option Relation
or_else None other = other
or_else (Some r) other = Some r

abbrev pub entry_of : List Token → Option Relation
entry_of ts = or_else (named_entry ts) (or_else (ending_entry ts) (extra_entry ts))

-- bytes, each of them a word
abbrev pub bytes_in : List Token → Option (List ℕ)
bytes_in [] = Some []
bytes_in (t ∷ ts) = token_byte t >>= λ x. option_map (λ xs. x ∷ xs) (bytes_in ts)

-- 16 bytes
abbrev pub id_of : List Token → Option Relation
id_of ts = if length ts == 16 then option_map class_id (bytes_in ts) else None

-- `NAME` or `NAME with "TEXT"`
abbrev pub root_of : List Token → Option Relation
root_of (bare n ∷ []) = Some (root n)
root_of (bare n ∷ with ∷ quoted t ∷ []) = if is_word (codes "with") with then Some (root_with n t) else None
root_of other = None

-- `"KEY"` or `"KEY" is "VALUE"`
abbrev pub key_of : List Token → Option Relation
key_of (quoted k ∷ []) = Some (first_key k)
key_of (quoted k ∷ is ∷ quoted v ∷ []) = if is_word (codes "is") is then Some (first_key_with k v) else None
key_of other = None

-- what three texts ask for, and what may stand after them
abbrev pub beginning_with_all : List ℕ → List ℕ → List ℕ → Option (List Token) → Option Relation
beginning_with_all t u v None = Some (text_first_with_all t u v [])
beginning_with_all t u v (Some ts) = option_map (λ w. text_first_with_all t u v w) (text_in ts)

-- what two do
abbrev pub beginning_with_two : List ℕ → List ℕ → Option (List Token) → Option Relation
beginning_with_two t u None = Some (text_first_with t u)
beginning_with_two t u (Some ts) = text_before (codes "has") ts >>= λ p. beginning_with_all t u p.0 p.1

-- what one does
abbrev pub beginning_with : List ℕ → Option (List Token) → Option Relation
beginning_with t None = Some (text_first t)
beginning_with t (Some ts) = text_before (codes "has") ts >>= λ p. beginning_with_two t p.0 p.1

-- `TEXT`, or `TEXT has OTHER` with one to three others
abbrev pub beginning_of : List Token → Option Relation
beginning_of ts = text_before (codes "has") ts >>= λ p. beginning_with p.0 p.1

-- a number below 65536
abbrev pub short_number : List ℕ → Option ℕ
short_number w = number_of w >>= λ n. if nat_lt n 65536 then Some n else None

-- `LOW to HIGH at FAR`, in a header that begins with the text
abbrev pub number_at : List ℕ → List Token → Option Relation
number_at t (bare low ∷ to ∷ bare high ∷ at ∷ bare far ∷ []) =
    if is_word (codes "to") to && is_word (codes "at") at
    then (short_number low >>= λ l. short_number high >>= λ h. option_map (λ f. header t f l h) (short_number far)) else None
number_at t other = None

-- `TEXT with LOW to HIGH at FAR`
abbrev pub header_of : List Token → Option Relation
header_of ts = text_before (codes "with") ts >>= λ p. p.1 >>= number_at p.0

-- the relation that the tokens ask for after a name
abbrev pub item_of : Takes → List Token → Option Relation
item_of (Nothing r) ts = alone (relation_listed r) ts
item_of (OneText which) ts = text_of which ts
item_of Tag ts = directory_of ts
item_of Program ts = program_of ts
item_of Entry ts = entry_of ts
item_of FirstKey ts = key_of ts
item_of ClassId ts = id_of ts
item_of Root ts = root_of ts
item_of Begins ts = beginning_of ts
item_of Header ts = header_of ts

-- the relations that they ask for, each by itself
abbrev pub each_of : Takes → List Token → Option (List Alternative)
each_of takes [] = Some []
each_of takes (t ∷ ts) = item_of takes (t ∷ []) >>= λ r. option_map (λ others. related r ∷ others) (each_of takes ts)

-- programs, of which there is one at least
abbrev pub programs_of : List Token → Option (List Alternative)
programs_of [] = None
programs_of (t ∷ ts) = each_of Program (t ∷ ts)

-- the alternatives that they ask for: a relation, and a program by each word
abbrev pub items_of : Takes → List Token → Option (List Alternative)
items_of Program ts = programs_of ts
items_of takes ts = option_map (λ r. related r ∷ []) (item_of takes ts)

-- ---- signatures

abbrev pub items_in : Takes → List (List Token) → Option (List Alternative)
items_in takes [] = Some []
items_in takes (g ∷ gs) = items_of takes g >>= λ first. option_map (λ others. first ++ others) (items_in takes gs)

-- the first group begins by the relation's name, and each other one is a further alternative by that relation
abbrev pub relations_in : List (List Token) → Option (List Alternative)
relations_in [] = None
relations_in (g ∷ gs) = named_in names g >>= λ n. items_in n.0 (n.1 ∷ gs)

-- the alternatives that the text describes by a relation
abbrev pub relations_of : List ℕ → Option (List Alternative)
relations_of t = groups_of t >>= relations_in

-- what a buffer makes of alternatives, if there are any
abbrev pub IsSeen : Option (List Alternative) → List ℕ → Option Bool → Type 0
IsSeen items b None = items ≡ None
IsSeen items b (Some x) = (alternatives : List Alternative) × (items ≡ Some alternatives) × (IsTrue x ↔ Accepted alternatives b)
