-- Which further rows are tried or found, and that these are all that can widen an answer.
use Rattle.std.specs.Prelude.{◌≡◌, ◌⊎◌, ◌↔◌, ◌+◌, ◌-◌, ◌/◌, ◌%◌, ◌<◌, ◌≤◌, ◌==◌, ◌&&◌, ◌||◌, ℕ, suc, Bool, not, true, false, All, IsTrue, List, [], ◌∷◌, ◌++◌, Option, None, Some, if◌then◌else◌, length, nat_le, nat_lt, slice_get, slice_index}
use Rattle.std.specs.List.{list_all, list_any, range_with_len}
use Rattle.std.specs.Option.{option_map_or}
use denote.Ref.{Bor}
use Rattle.infer_deep.specs.ClassId.{HasClassId}
use Rattle.infer_formats.specs.FirstKey.{HasValue, IsFirstKey, has_no_quote}
use Rattle.infer_formats.specs.Json.{IsJson, IsJsonLines}
use Rattle.infer_formats.specs.Markup.{HasInTag, IsRootElement, IsXmlSpace}
use Rattle.infer_formats.specs.Script.{IsProgram}
use Rattle.infer_formats.specs.Text.{IsText}
use Rattle.infer_formats.specs.Tiff.{HasTag}
use Rattle.infer_formats.specs.Zip.{IsPackageWith, applications, IsOneOf}
use Rattle.infer_sig.specs.Signature as fixed
use Rattle.infer_sig.specs.Signature.{at_least, any_of, between, all_but, Part, text, any_text, byte, allows}
use Rattle.infer.specs.Buffer.{IsBuffer}
use Rattle.infer_more.specs.Outline.{lines}
use Rattle.infer_evidence.specs.Spans.{stretch}
use Rattle.infer_more.specs.Row.{Further}
use Rattle.infer_formats.specs.Relation as relation
use Rattle.infer_formats.specs.Relation.{class_id, directory_tag, directory_tag_and_make, first_key, first_key_with, json_lines, json_text, package_with, plain_text, program, root, root_with}
use Rattle.infer_notation.specs.Alternative.{Alternative, related}
use Rattle.infer_more.specs.Table.{further}
use Rattle.infer_more.specs.Wider.{WidensAt}
use Rattle.infer_more.specs.declared.index.Below as below
use Rattle.infer_more.specs.declared.index.Below.TheVariants.{ClassIds, Entries, Nothing, Packages, Programs, Roots, Tagged}
use Rattle.infer_more.specs.declared.index.Entry.{Entry}
use Rattle.infer_more.specs.declared.index.ByLead.{ByLead}
use Rattle.infer_more.specs.declared.index.Named.{Named}
use Rattle.infer_more.specs.declared.index.Parentless.{Parentless}
use Rattle.infer_more.specs.declared.index.Spot.{Spot}
use Rattle.infer_more.specs.declared.index.Texts.{Texts}
use Rattle.infer_more.specs.declared.index.ByName.{ByName}
use Rattle.infer_more.specs.declared.index.generated.TheConstants.{NAME_TEXTS}
use Rattle.infer_evidence.specs.declared.spans.Span.{Span}

-- the number is one of the list
abbrev pub is_listed : List ℕ → ℕ → Bool
is_listed rows i = list_any (λ row. row == i) rows

-- the buffer has the byte at the place
abbrev pub has_byte : List ℕ → ℕ → ℕ → Bool
has_byte b place x = nat_lt place (length b) && slice_index b place == x

-- what a function gives for each element, one after the other
abbrev pub all_of : {A : Type 0} → (A → List ℕ) → List A → List ℕ
all_of f [] = []
all_of f (x ∷ xs) = f x ++ all_of f xs

abbrev pub entry_row : Entry → ℕ
entry_row e = e.row

-- the rows ascend
abbrev pub ascends : {A : Type 0} → (A → ℕ) → List A → Bool
ascends row [] = true
ascends row (e ∷ entries) = list_all (λ f. nat_le (row e) (row f)) entries && ascends row entries

-- the entry's row, if the buffer has its byte
abbrev pub candidate : List ℕ → Entry → List ℕ
candidate b e = if has_byte b e.place e.byte then e.row ∷ [] else []

abbrev pub candidates : List ℕ → List Entry → List ℕ
candidates b entries = all_of (candidate b) entries

-- the entries that stand in span i: from where it begins up to where the next one does
abbrev pub entries_from : (ℕ → ℕ → List Entry) → Option ℕ → Option ℕ → List Entry
entries_from entries (Some start) (Some end) = entries start (end - start)
entries_from entries None end = []
entries_from entries (Some start) None = []

abbrev pub entries_by : (ℕ → ℕ → List Entry) → (ℕ → Option ℕ) → ℕ → List Entry
entries_by entries start i = entries_from entries (start i) (start (i + 1))

abbrev pub entries_at : Parentless → ℕ → List Entry
entries_at index = entries_by (stretch index.entries.now) (slice_get index.starts.now)

-- those that the buffer's own byte picks at a spot
abbrev pub picked : Parentless → List ℕ → Spot → List Entry
picked index b s = if nat_lt s.place (length b) then entries_at index (s.first + slice_index b s.place) else []

-- the rows of these that are tried of the buffer, and those of all spots
abbrev pub tried_at : Parentless → List ℕ → Spot → List ℕ
tried_at index b s = candidates b (picked index b s)

abbrev pub tried_parentless : Parentless → List ℕ → List ℕ
tried_parentless index b = all_of (tried_at index b) index.spots.now

-- the rows of texts
abbrev pub text_rows : Texts → List ℕ
text_rows t = t.lines ∷ t.json ∷ t.plain ∷ []

-- the rows without a parent that few bytes of the buffer leave
abbrev pub led_rows : ByLead → List ℕ → List ℕ
led_rows by_lead b = (tried_parentless by_lead.index b ++ candidates b by_lead.beside.now) ++ text_rows by_lead.index.texts

-- how the rows below built-in row i are found
abbrev pub below_at : List below.Below → ℕ → below.Below
below_at ways i = option_map_or (λ way. way) (slice_get ways i) Nothing

-- `after` is the least of `before` and of the numbers that have P
pub record IsLeast (P : ℕ → Type 0) (before after : ℕ) : Type 0 where
  pub below : after ≤ before
  pub is : after < before → P after
  pub least : (i : ℕ) → P i → after ≤ i

-- row i is one of those that are tried, and widens the answer
abbrev pub IsTried : Option ℕ → List ℕ → List ℕ → ℕ → Type 0
IsTried parent b rows i = IsTrue (is_listed rows i) × WidensAt parent b i

-- row i is that of an entry that has Q
abbrev pub IsRowOf : {A : Type 0} → (A → ℕ) → (A → Type 0) → List A → ℕ → Type 0
IsRowOf row Q [] i = ⊥
IsRowOf row Q (e ∷ entries) i = ((row e ≡ i) × Q e) ⊎ IsRowOf row Q entries i

-- the texts by which rows are found, in one
unfoldable pub name_texts : List ℕ
name_texts = NAME_TEXTS.now

abbrev pub name_at : Span → List ℕ
name_at span = stretch name_texts span.start span.count

abbrev pub named_row : Named → ℕ
named_row e = e.row

-- row i is listed with a name that has P
abbrev pub IsNamed : (List ℕ → Type 0) → List Named → ℕ → Type 0
IsNamed P names i = IsRowOf named_row (λ e. P (name_at e.name)) names i

-- what stands in bucket i
abbrev pub bucket_at : {A : Type 0} → List (Bor (List A)) → ℕ → List A
bucket_at buckets i = option_map_or (λ names. names.now) (slice_get buckets i) []

-- the bucket of a name: by some bits of its first byte
abbrev pub bucket_by : {A : Type 0} → (ℕ → ℕ) → List (Bor (List A)) → List ℕ → List A
bucket_by bits buckets [] = []
bucket_by bits buckets (x ∷ xs) = bucket_at buckets (bits x)

-- by the five bits above the lowest
abbrev pub bucket_of : List (Bor (List Named)) → List ℕ → List Named
bucket_of buckets name = bucket_by (λ x. (x / 2) % 32) buckets name

-- the rows of each bucket ascend
abbrev pub all_ascend : {A : Type 0} → (A → ℕ) → List (Bor (List A)) → Bool
all_ascend row buckets = list_all (λ some. ascends row some.now) buckets

-- row i is listed with the name of the script's program
abbrev pub IsOfProgram : List ℕ → List (Bor (List Named)) → ℕ → Type 0
IsOfProgram b lists i = (name : List ℕ) × IsProgram name b × IsNamed (λ other. other ≡ name) (bucket_of lists name) i

-- the text, if there is one, has P
abbrev pub HasText : (List ℕ → Type 0) → Option Span → Type 0
HasText P None = Unit {0}
HasText P (Some t) = P (name_at t)

-- row i is listed with that name, and a text that has P if it has one
abbrev pub IsNamedWith : (List ℕ → Type 0) → List ℕ → List Named → ℕ → Type 0
IsNamedWith P name names i = IsRowOf named_row (λ e. (name_at e.name ≡ name) × HasText P e.text) names i

-- row i is listed with the root element of the buffer, and what is asked in its tag
abbrev pub IsRooted : List ℕ → List (Bor (List Named)) → ℕ → Type 0
IsRooted b buckets i = (name rest : List ℕ) × IsRootElement name rest b × IsNamedWith (λ t. HasInTag t rest) name (bucket_of buckets name) i

-- row i is listed with the first key of the object that begins the buffer, and its value
abbrev pub IsKeyed : List ℕ → List Named → ℕ → Type 0
IsKeyed b keys i = (key rest : List ℕ) × IsFirstKey key rest b × IsNamedWith (λ t. HasValue t rest) key keys i

-- row i is found by the root element of the buffer, or by its first key
abbrev pub IsFoundByName : ByName → List ℕ → ℕ → Type 0
IsFoundByName names b i = IsRooted b names.roots.now i ⊎ IsKeyed b names.keys.now i

-- row i is found below the built-in row: it is tried and widens the answer, or found by a name
abbrev pub IsFoundBelow : below.Below → ℕ → List ℕ → ℕ → Type 0
IsFoundBelow Nothing parent b i = ⊥
IsFoundBelow (Entries entries) parent b i = IsTried (Some parent) b (candidates b entries.now) i
IsFoundBelow (ClassIds entries ids) parent b i = IsTried (Some parent) b (candidates b entries.now) i ⊎ IsNamed (λ id. HasClassId id b) ids.now i
IsFoundBelow (Programs entries lists) parent b i = IsTried (Some parent) b (candidates b entries.now) i ⊎ IsOfProgram b lists.now i
IsFoundBelow (Roots roots) parent b i = IsRooted b roots.now i
IsFoundBelow (Packages entries folders) parent b i =
    IsTried (Some parent) b (candidates b entries.now) i ⊎ IsNamed (λ folder. IsPackageWith folder b) folders.now i
IsFoundBelow (Tagged entries tag other tagged) parent b i =
    IsTried (Some parent) b (candidates b entries.now) i ⊎ ((HasTag tag b ⊎ HasTag other b) × IsTried (Some parent) b (candidates b tagged.now) i)

-- the rows that a list names
abbrev pub rows_in : {A : Type 0} → (A → ℕ) → List A → List ℕ
rows_in row xs = all_of (λ e. row e ∷ []) xs

abbrev pub rows_in_each : {A : Type 0} → (A → ℕ) → List (Bor (List A)) → List ℕ
rows_in_each row lists = all_of (λ list. rows_in row list.now) lists

-- and a way below a built-in row, but for those of entries whose bytes the buffer lacks
abbrev pub rows_of : below.Below → List ℕ → List ℕ
rows_of Nothing b = []
rows_of (Entries entries) b = candidates b entries.now
rows_of (ClassIds entries ids) b = candidates b entries.now ++ rows_in named_row ids.now
rows_of (Programs entries lists) b = candidates b entries.now ++ rows_in_each named_row lists.now
rows_of (Roots roots) b = rows_in_each named_row roots.now
rows_of (Packages entries folders) b = candidates b entries.now ++ rows_in named_row folders.now
rows_of (Tagged entries tag other tagged) b = candidates b entries.now ++ candidates b tagged.now

-- row i is that of the text that the buffer is
abbrev pub IsTextRow : Texts → List ℕ → ℕ → Type 0
IsTextRow t b i = ((t.lines ≡ i) × IsJsonLines b) ⊎ ((t.json ≡ i) × IsJson b) ⊎ ((t.plain ≡ i) × IsText b)

-- the first byte is white space, "<", "{" or the first of a byte order mark
abbrev pub MayHaveName : List ℕ → Type 0
MayHaveName b = (0 < length b) × (IsXmlSpace (slice_index b 0) ⊎ (slice_index b 0 ≡ 0x3C) ⊎ (slice_index b 0 ≡ 0x7B) ⊎ (slice_index b 0 ≡ 0xEF))

-- row i is found without a built-in answer
abbrev pub IsFoundParentless : Parentless → ByName → List ℕ → ℕ → Type 0
IsFoundParentless index names b i = IsTried None b (tried_parentless index b) i ⊎ IsFoundByName names b i ⊎ IsTextRow index.texts b i

-- the part settles the place, and allows there only bytes that pass the test
abbrev pub is_settled : (ℕ → Bool) → ℕ → Part → Bool
is_settled test place (text p t) = nat_le p place && option_map_or test (slice_get t (place - p)) false
is_settled test place (any_text p ts) = false
is_settled test place (byte p (any_of xs)) = p == place && list_all test xs
is_settled test place (byte p (between low high)) = p == place && list_all test (range_with_len low (suc high - low))
is_settled test place (byte p (all_but x)) = false

-- some part of the alternative does
abbrev pub is_tested : (ℕ → Bool) → ℕ → fixed.Alternative → Bool
is_tested test place (at_least n parts) = list_any (is_settled test place) parts

-- row i has an entry with that byte at the place
abbrev pub has_entry : ℕ → List Entry → ℕ → ℕ → Bool
has_entry i entries place x = list_any (λ e. e.row == i && (e.place == place && e.byte == x)) entries

-- at the place of some entry of row i the alternative allows only bytes that row i has an entry for
abbrev pub is_covered : ℕ → fixed.Alternative → List Entry → Bool
is_covered i a entries = list_any (λ e. e.row == i && is_tested (has_entry i entries e.place) e.place a) entries

-- with that byte at the place the entries have row i
abbrev pub is_met : ℕ → fixed.Alternative → List Entry → ℕ → ℕ → Bool
is_met i a entries place x = has_entry i entries place x || is_covered i a entries

-- what each byte that the alternative allows at the spot picks has row i
abbrev pub is_picked : (ℕ → List Entry) → ℕ → fixed.Alternative → Spot → Bool
is_picked entries i a s = is_tested (λ x. is_met i a (entries (s.first + x)) s.place x) s.place a

-- each buffer without a built-in answer that has such bytes has row i among the rows that are tried of it
abbrev pub is_tried_parentless : (ℕ → List Entry) → List Spot → ℕ → fixed.Alternative → Bool
is_tried_parentless entries spots i a = list_any (is_picked entries i a) spots

-- two texts have the same bytes
abbrev pub same : List ℕ → List ℕ → Bool
same [] [] = true
same [] (y ∷ ys) = false
same (x ∷ xs) [] = false
same (x ∷ xs) (y ∷ ys) = x == y && same xs ys

abbrev pub same_text : Option Span → Option (List ℕ) → Bool
same_text None None = true
same_text None (Some t) = false
same_text (Some s) None = false
same_text (Some s) (Some t) = same (name_at s) t

-- row i is listed with the name, and with the text if there is one
abbrev pub has_named : ℕ → List Named → List ℕ → Option (List ℕ) → Bool
has_named i names name t = list_any (λ e. e.row == i && (same (name_at e.name) name && same_text e.text t)) names

-- each buffer that fits the alternative has row i among those that the entries try
abbrev pub is_tried_below : ℕ → List Entry → Alternative → Bool
is_tried_below i entries a = list_all (λ l. is_covered i l entries) (lines a)

-- or is found row i by a name
abbrev pub is_in_programs : ℕ → List (Bor (List Named)) → Alternative → Bool
is_in_programs i lists (related (program name)) = has_named i (bucket_of lists name) name None
is_in_programs i lists other = false

abbrev pub is_in_class_ids : ℕ → List Named → Alternative → Bool
is_in_class_ids i ids (related (class_id id)) = has_named i ids id None
is_in_class_ids i ids other = false

abbrev pub is_in_roots : ℕ → List (Bor (List Named)) → Alternative → Bool
is_in_roots i buckets (related (root name)) = has_named i (bucket_of buckets name) name None
is_in_roots i buckets (related (root_with name t)) = has_named i (bucket_of buckets name) name (Some t)
is_in_roots i buckets other = false

abbrev pub is_in_keys : ℕ → List Named → Alternative → Bool
is_in_keys i keys (related (first_key k)) = has_no_quote k && has_named i keys k None
is_in_keys i keys (related (first_key_with k v)) = has_no_quote k && has_named i keys k (Some v)
is_in_keys i keys other = false

abbrev pub is_in_folders : ℕ → List Named → Alternative → Bool
is_in_folders i folders (related (package_with folder)) = has_named i folders folder None
is_in_folders i folders other = false

-- it asks for one of two tags
abbrev pub is_of_tag : ℕ → ℕ → Alternative → Bool
is_of_tag tag other (related (directory_tag own)) = own == tag || own == other
is_of_tag tag other (related (directory_tag_and_make own make)) = own == tag || own == other
is_of_tag tag other a = false

abbrev pub is_found_below : below.Below → ℕ → Alternative → Bool
is_found_below Nothing i a = false
is_found_below (Entries entries) i a = is_tried_below i entries.now a
is_found_below (ClassIds entries ids) i a = is_in_class_ids i ids.now a || is_tried_below i entries.now a
is_found_below (Programs entries lists) i a = is_in_programs i lists.now a || is_tried_below i entries.now a
is_found_below (Roots roots) i a = is_in_roots i roots.now a
is_found_below (Packages entries folders) i a = is_in_folders i folders.now a || is_tried_below i entries.now a
is_found_below (Tagged entries tag other tagged) i a = (is_of_tag tag other a && is_tried_below i tagged.now a) || is_tried_below i entries.now a

-- row i is that of the text
abbrev pub is_text_row : Texts → ℕ → Alternative → Bool
is_text_row t i (related json_lines) = t.lines == i
is_text_row t i (related json_text) = t.json == i
is_text_row t i (related plain_text) = t.plain == i
is_text_row t i other = false

-- or each buffer that fits it is left by few bytes
abbrev pub is_by_lead : (ℕ → List Entry) → List Spot → List Entry → Texts → ℕ → Alternative → Bool
is_by_lead entries spots beside texts i a =
    is_text_row texts i a || list_all (λ l. is_tried_parentless entries spots i l || is_covered i l beside) (lines a)

-- it asks for a root or for a first key
abbrev pub is_of_name : Alternative → Bool
is_of_name (related (root name)) = true
is_of_name (related (root_with name t)) = true
is_of_name (related (first_key key)) = true
is_of_name (related (first_key_with key v)) = true
is_of_name other = false

-- it does so, or its row is that of the text, or is tried
abbrev pub is_found_parentless : (ℕ → List Entry) → List Spot → Texts → ℕ → Alternative → Bool
is_found_parentless entries spots texts i a = is_of_name a || (is_text_row texts i a || list_all (is_tried_parentless entries spots i) (lines a))

-- it does not, or its row is that of the root, or of the first key
abbrev pub is_found_by_name : ByName → ℕ → Alternative → Bool
is_found_by_name names i a = not (is_of_name a) || (is_in_roots i names.roots.now a || is_in_keys i names.keys.now a)

-- a row whose parent is one that is asked is found, in the way below that, of each buffer that its signature accepts
abbrev pub is_row_below : (ℕ → Bool) → (ℕ → below.Below) → ℕ → Option ℕ → Further → Bool
is_row_below asked way i None r = true
is_row_below asked way i (Some parent) r = if asked parent then list_all (is_found_below (way parent) i) r.signature else true

-- and so is one without a parent
abbrev pub is_row_parentless : (Alternative → Bool) → Option ℕ → Further → Bool
is_row_parentless passes None r = list_all passes r.signature
is_row_parentless passes (Some parent) r = true

-- row i is so, if there is such a row
abbrev pub is_row_below_found : (ℕ → Bool) → (ℕ → below.Below) → ℕ → Bool
is_row_below_found asked way i = option_map_or (λ r. is_row_below asked way i r.parent r) (slice_get further i) true

abbrev pub is_row_parentless_found : (ℕ → Alternative → Bool) → ℕ → Bool
is_row_parentless_found passes i = option_map_or (λ r. is_row_parentless (passes i) r.parent r) (slice_get further i) true

-- row i has that parent, and an alternative that passes the test
abbrev pub is_child : Option ℕ → Option ℕ → Bool
is_child None None = true
is_child None (Some other) = false
is_child (Some parent) None = false
is_child (Some parent) (Some other) = parent == other

abbrev pub is_row_with : Option ℕ → (Alternative → Bool) → ℕ → Bool
is_row_with parent test i = option_map_or (λ r. is_child parent r.parent && list_any test r.signature) (slice_get further i) false

-- the alternative asks for the class id, the program, the root, the first key, the folder
abbrev pub asks_class_id : List ℕ → Alternative → Bool
asks_class_id id (related (class_id own)) = same id own
asks_class_id id other = false

abbrev pub asks_program : List ℕ → Alternative → Bool
asks_program name (related (program own)) = same name own
asks_program name other = false

abbrev pub asks_root : List ℕ → Option Span → Alternative → Bool
asks_root name t (related (root own)) = same name own && same_text t None
asks_root name t (related (root_with own u)) = same name own && same_text t (Some u)
asks_root name t other = false

abbrev pub asks_key : List ℕ → Option Span → Alternative → Bool
asks_key key t (related (first_key own)) = same key own && same_text t None
asks_key key t (related (first_key_with own u)) = same key own && same_text t (Some u)
asks_key key t other = false

abbrev pub asks_folder : List ℕ → Alternative → Bool
asks_folder folder (related (package_with own)) = same folder own
asks_folder folder other = false

-- it asks for JSON lines, for JSON, for plain text
abbrev pub is_lines : Alternative → Bool
is_lines (related json_lines) = true
is_lines other = false

abbrev pub is_json : Alternative → Bool
is_json (related json_text) = true
is_json other = false

abbrev pub is_plain : Alternative → Bool
is_plain (related r) = relation.is_plain r
is_plain other = false

-- the folder is one of an application
abbrev pub is_application : List ℕ → Bool
is_application folder = list_any (same folder) applications

-- each of the folders is
abbrev pub AllApplications : List Named → Type 0
AllApplications folders = All (λ (e : Named). IsOneOf (name_at e.name) applications) folders

-- each has the 16 bytes of a class id
abbrev pub AreClassIds : List Named → Type 0
AreClassIds ids = All (λ (e : Named). length (name_at e.name) ≡ 16) ids

-- each root is one that the row which is found by it asks for
abbrev pub are_roots_of : Option ℕ → List (Bor (List Named)) → Bool
are_roots_of parent buckets = list_all (λ some. list_all (λ e. is_row_with parent (asks_root (name_at e.name) e.text) e.row) some.now) buckets

-- so is each name below that row, and the rows ascend
abbrev pub is_true_below : ℕ → below.Below → Bool
is_true_below parent (Entries entries) = ascends entry_row entries.now
is_true_below parent (ClassIds entries ids) =
    ascends named_row ids.now && list_all (λ e. length (name_at e.name) == 16 && is_row_with (Some parent) (asks_class_id (name_at e.name)) e.row) ids.now
is_true_below parent (Programs entries lists) =
    all_ascend named_row lists.now && list_all (λ names. list_all (λ e. is_row_with (Some parent) (asks_program (name_at e.name)) e.row) names.now) lists.now
is_true_below parent (Roots roots) = all_ascend named_row roots.now && are_roots_of (Some parent) roots.now
is_true_below parent (Packages entries folders) =
    ascends named_row folders.now && list_all (λ e. is_application (name_at e.name) && is_row_with (Some parent) (asks_folder (name_at e.name)) e.row) folders.now
is_true_below parent other = true

-- and so below each row from that one on
abbrev pub are_true : ℕ → List below.Below → Bool
are_true parent [] = true
are_true parent (way ∷ ways) = is_true_below parent way && are_true (suc parent) ways

-- the rows of texts are such rows, and ascend
abbrev pub are_texts : Texts → Bool
are_texts t =
    (is_row_with None is_lines t.lines && (is_row_with None is_json t.json && is_row_with None is_plain t.plain))
    && (nat_le t.lines t.json && nat_le t.json t.plain)

-- the rows of roots are such rows, and ascend, and so are those of first keys
abbrev pub are_rooted : List (Bor (List Named)) → Bool
are_rooted buckets = all_ascend named_row buckets && are_roots_of None buckets

abbrev pub are_keyed : List Named → Bool
are_keyed keys = ascends named_row keys && list_all (λ e. is_row_with None (asks_key (name_at e.name) e.text) e.row) keys

-- in this way each further row below that built-in row is found, and none other
pub record IsWayBelow (parent : ℕ) (way : below.Below) : Type 0 where
  pub found : (i : ℕ) → i < length further → IsTrue (is_row_below_found (λ p. p == parent) (λ p. way) i)
  pub names : IsTrue (is_true_below parent way)

-- in these ways each below its parent, but for the parents that stand apart
pub record AreWaysBelow (apart : List ℕ) (ways : List below.Below) : Type 0 where
  pub found : (i : ℕ) → i < length further → IsTrue (is_row_below_found (λ p. not (is_listed apart p)) (below_at ways) i)
  pub names : IsTrue (are_true 0 ways)

-- each row without a parent is found by a name or found otherwise
pub record EachParentlessIsFound (index : Parentless) : Type 0 where
  pub found : (i : ℕ) → i < length further → IsTrue (is_row_parentless_found (is_found_parentless (entries_at index) index.spots.now index.texts) i)
  pub texts : IsTrue (are_texts index.texts)

-- and here just those by a name
pub record EachIsFoundByName (names : ByName) : Type 0 where
  pub found : (i : ℕ) → i < length further → IsTrue (is_row_parentless_found (is_found_by_name names) i)
  pub roots : IsTrue (are_rooted names.roots.now)
  pub keys : IsTrue (are_keyed names.keys.now)

-- and few bytes leave each row without a parent of a buffer that its signature accepts
pub record EachIsByLead (by_lead : ByLead) : Type 0 where
  pub left : (i : ℕ) → i < length further → IsTrue (is_row_parentless_found (is_by_lead (entries_at by_lead.index) by_lead.index.spots.now by_lead.beside.now by_lead.index.texts) i)

-- few bytes leave each row that widens no answer
pub record FindsByLead (by_lead : ByLead) : Type 0 where
  pub left : (b : List ℕ) → IsBuffer b → (i : ℕ) → WidensAt None b i → IsTrue (is_listed (led_rows by_lead b) i)

-- just the rows that widen that answer are found
abbrev pub FindsBelow : ℕ → below.Below → Type 0
FindsBelow parent way = (b : List ℕ) → IsBuffer b → (i : ℕ) → IsFoundBelow way parent b i ↔ WidensAt (Some parent) b i

-- and those that widen none
abbrev pub FindsParentless : Parentless → ByName → Type 0
FindsParentless index names = (b : List ℕ) → IsBuffer b → (i : ℕ) → IsFoundParentless index names b i ↔ WidensAt None b i
