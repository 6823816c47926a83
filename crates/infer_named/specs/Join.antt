-- What a name and bytes tell together. The bytes win: a name chooses only among what they leave open.
use Rattle.std.specs.Prelude.{◌&&◌, ◌||◌, ℕ, Bool, false, true, List, [], ◌∷◌, Option, None, Some, codes, if◌then◌else◌, nat_eq}
use Rattle.std.specs.List.{find, list_any, starts_with}
use Rattle.std.specs.Str.{bytes_eq}
use Rattle.infer.specs.Triple.{Triple}
use Rattle.infer_named.specs.Asks.{admits, is_text}
use Rattle.infer_named.specs.Bytes.{is_empty}
use Rattle.infer_named.specs.Key.{Key, NamedType, Origin, Reading, is_loose, known, own, row}
use Rattle.infer_named.specs.Texts.{free, tame}
use Rattle.infer_named.specs.declared.bytes.Kind.{Kind}
use Rattle.infer_named.specs.declared.join.Standing.{Standing}
use Rattle.infer_named.specs.declared.join.Standing.TheVariants.{Agree, BytesAlone, BytesRefine, Contradicts, NameAlone, NameRefines, Nothing}
use Rattle.infer_named.specs.declared.table.Usage.{Usage}
use Rattle.infer_named.specs.declared.table.Usage.TheVariants.{Loose, Plain, Strict}

-- a type that is told: that of the row which accepts the bytes, or one that the name has
pub data Told : Type 0 where
  of_bytes : Triple → Told
  of_name : NamedType → Told

-- its MIME type
abbrev pub mime_type_of : Told → List ℕ
mime_type_of (of_bytes t) = t.mime_type
mime_type_of (of_name t) = t.mime_type

-- the extension of its row, if it has one
abbrev pub row_extension : Origin → Option (List ℕ)
row_extension (row extension) = Some extension
row_extension known = None
row_extension own = None

abbrev pub extension_of : Told → Option (List ℕ)
extension_of (of_bytes t) = Some t.extension
extension_of (of_name t) = row_extension t.origin

-- whether nobody else names it
abbrev pub is_own : Origin → Bool
is_own (row extension) = false
is_own known = false
is_own own = true

abbrev pub is_own_name : Told → Bool
is_own_name (of_bytes t) = false
is_own_name (of_name t) = is_own t.origin

-- the type that a name with that key has first, whatever the bytes are
abbrev pub first_type : List Reading → Option Told
first_type [] = None
first_type (r ∷ readings) = Some (of_name r.named)

abbrev pub type_of_name : Option Key → Option Told
type_of_name None = None
type_of_name (Some k) = first_type k.readings

-- a standing, and the type that is told
pub record Answer : Type 0 where
  pub standing : Standing
  pub told : Option Told

abbrev pub answer : Standing → Option Told → Answer
answer standing told = record { standing = standing; told = told }

-- whether one of the rows, which are named by extension or by MIME type, is that with these
abbrev pub has_row : List (List ℕ) → (extension mime_type : List ℕ) → Bool
has_row rows extension mime_type = list_any (λ row. bytes_eq row extension || bytes_eq row mime_type) rows

-- whether the type is that of one of the rows
abbrev pub is_among : Triple → List (List ℕ) → Bool
is_among t rows = has_row rows t.extension t.mime_type

-- whether one of the reading's sets has the type
abbrev pub takes : Triple → Reading → Bool
takes t r = is_among t r.agrees || (is_among t r.begins || is_among t r.finer)

-- what the first of the reading's sets that has the type makes of the name, if one has it
abbrev pub standing_in : Triple → Reading → Option Standing
standing_in t r =
    if is_among t r.agrees then Some Agree else (if is_among t r.begins then Some NameRefines else (if is_among t r.finer then Some BytesRefine else None))

-- whether a reading has no leads
abbrev pub has_no_leads : List (List ℕ) → Bool
has_no_leads [] = true
has_no_leads (lead ∷ leads) = false

-- whether a lead begins with one of the texts, or there are none
abbrev pub begins_with : List ℕ → List (List ℕ) → Bool
begins_with lead [] = true
begins_with lead (text ∷ texts) = list_any (λ t. starts_with nat_eq lead t) (text ∷ texts)

abbrev pub fits : List ℕ → Reading → Bool
fits lead r = begins_with lead r.leads

-- the first reading that fits and has the type in a set, and the first that fits and admits bytes of the kind
abbrev pub reading_of : List Reading → Triple → List ℕ → Option Reading
reading_of readings t lead = find (λ r. fits lead r && takes t r) readings

abbrev pub reading_without : List Reading → Kind → List ℕ → Option Reading
reading_without readings kind lead = find (λ r. fits lead r && admits r.asks kind) readings

-- what a reading tells of a type that one of its sets has
abbrev pub told_by : Reading → Triple → Answer
told_by r t =
    if is_among t r.agrees then answer Agree (Some (of_bytes t))
    else (if is_among t r.begins then answer NameRefines (Some (of_name r.named)) else answer BytesRefine (Some (of_bytes t)))

-- whether one of the rows is plain text
abbrev pub has_plain_text : List (List ℕ) → Bool
has_plain_text rows = has_row rows (codes "txt") (codes "text/plain")

-- whether any plain text is of the reading's type: it asks for a text, of any beginning, and plain text agrees or may begin it
abbrev pub is_any_text : Reading → Bool
is_any_text r = is_text r.asks && (has_no_leads r.leads && (has_plain_text r.agrees || has_plain_text r.begins))

-- whether the type is a finer kind of any plain text: no program runs it, and no browser renders it
abbrev pub is_finer_text : Triple → List Reading → Bool
is_finer_text t readings = is_among t tame && list_any is_any_text readings

-- whether files of the type have such keys: any a loose one, and a plain one those that people name as they like
abbrev pub is_free : Usage → Triple → Bool
is_free Strict t = false
is_free Plain t = is_among t free
is_free Loose t = true

-- the bytes of a type that no reading has, by whether it is a finer text, and whether its files have such keys
abbrev pub untaken : (finer free : Bool) → Triple → Answer
untaken finer free t =
    if finer then answer BytesRefine (Some (of_bytes t)) else (if free then answer BytesAlone (Some (of_bytes t)) else answer Contradicts (Some (of_bytes t)))

-- with a type of the bytes: what the reading tells, if one has it
abbrev pub joined_with : Key → Triple → Option Reading → Answer
joined_with k t (Some r) = told_by r t
joined_with k t None = untaken (is_finer_text t k.readings) (is_free k.usage t) t

-- without one: the reading's type by the name alone, or else a contradiction, but nothing where there are no bytes
abbrev pub joined_without : (empty : Bool) → Option Reading → Answer
joined_without empty (Some r) = answer NameAlone (Some (of_name r.named))
joined_without empty None = if empty then answer Nothing None else answer Contradicts None

-- a name without a key: the bytes alone, or nothing
abbrev pub unnamed : Option Triple → Answer
unnamed (Some t) = answer BytesAlone (Some (of_bytes t))
unnamed None = answer Nothing None

-- a key of bytes without a type: nothing by a loose one
abbrev pub keyed : Key → Option Triple → Kind → List ℕ → Answer
keyed k (Some t) kind lead = joined_with k t (reading_of k.readings t lead)
keyed k None kind lead = if is_loose k.usage then answer Nothing None else joined_without (is_empty kind) (reading_without k.readings kind lead)

-- what the key of a name and the bytes tell: their type if they have one, their kind and their lead
abbrev pub join : Option Key → Option Triple → Kind → List ℕ → Answer
join None t kind lead = unnamed t
join (Some k) t kind lead = keyed k t kind lead
