-- Laws of names and bytes. They hold for every key, so for every table.
use Rattle.std.specs.Prelude.{All, ◌==◌, ◌&&◌, ◌||◌, if◌then◌else◌, codes, drop, nat_le, nat_lt, slice_index, unwrap_or, zero, suc, ◌+◌, ◌≡◌, ◌≢◌, ◌↔◌, ◌⊎◌, ◌<◌, ◌++◌, ℕ, Bool, false, true, IsTrue, List, [], ◌∷◌, Option, None, Some, is_some, length, not, option_map}
use Rattle.std.specs.List.{Contains, find, list_all, list_any}
use Rattle.std.specs.Option.{option_map_or, option_or}
use Rattle.std.specs.Str.{bytes_eq}
use Rattle.memchr.specs.Find.{is_byte, is_byte2}
use Rattle.infer.specs.Buffer.{IsBuffer}
use Rattle.infer.specs.Triple.{Triple}
use Rattle.infer_formats.specs.Text.{IsText}
use Rattle.infer_more.specs.Decided.{IsDecided}
use Rattle.infer_more.specs.Wider.{IsWiderAnswer, shown}
use Rattle.infer_named.specs.Asks.{admits}
use Rattle.infer_named.specs.Bytes.{IsKind, is_empty, lead_of}
use Rattle.infer_named.specs.Join.{answer, fits, has_no_leads, is_among, is_finer_text, is_free, join, of_bytes, of_name, reading_of, reading_without, takes, told_by}
use Rattle.infer_named.specs.Key.{Key, Reading, is_loose}
use Rattle.infer_named.specs.Nameless.{nameless}
use Rattle.infer_named.specs.Names.{IsBase, IsKey, past, copies, copy_length, ends_in, is_key, is_version, is_version_byte, small, up_to}
use Rattle.infer_named.specs.Table.{keys}
use Rattle.infer_named.specs.Named.{IsNamed, answer_of, key_of}
use Rattle.infer_named.specs.declared.bytes.Kind.{Kind}
use Rattle.infer_named.specs.declared.bytes.Kind.TheVariants.{Binary, Empty, Marked, Text}
use Rattle.infer_named.specs.declared.join.Named.{Named}
use Rattle.infer_named.specs.declared.table.Part.{Part}
use Rattle.infer_named.specs.declared.table.Part.TheVariants.{Extension, Whole}
use Rattle.infer_named.specs.declared.join.Standing.{Standing}
use Rattle.infer_named.specs.declared.join.Standing.TheVariants.{Agree, BytesAlone, BytesRefine, Contradicts, NameAlone, NameRefines, Nothing}

-- the standing is one with which the type of the bytes is told
abbrev pub takes_bytes : Standing → Bool
takes_bytes Agree = true
takes_bytes NameRefines = false
takes_bytes BytesRefine = true
takes_bytes BytesAlone = true
takes_bytes NameAlone = false
takes_bytes Contradicts = true
takes_bytes Nothing = false

-- The bytes win. Where the standing is one of these, the type of the bytes is told, and none if they have none. And where a
-- name refines, the bytes have a type as which a file of the told one may begin, by the first reading that fits and takes it.
pub record BytesWin (k : Option Key) (t : Option Triple) (kind : Kind) (lead : List ℕ) : Type 0 where
  pub theirs : IsTrue (takes_bytes (join k t kind lead).standing) → (join k t kind lead).told ≡ option_map of_bytes t
  pub refined : (join k t kind lead).standing ≡ NameRefines → (key : Key) × (r : Reading) × (x : Triple) × (k ≡ Some key) × (t ≡ Some x)
      × (reading_of key.readings x lead ≡ Some r) × IsTrue (is_among x r.begins) × ((join k t kind lead).told ≡ Some (of_name r.named))

abbrev pub TheBytesWin : Type 0
TheBytesWin = (k : Option Key) (t : Option Triple) (kind : Kind) (lead : List ℕ) → BytesWin k t kind lead

-- Nothing is invented. A type is told by the name alone only of bytes without one, by the first reading of a key that is not loose and
-- fits and admits their kind: so never one that asks for a signature, and none that asks for a text where a byte is 00.
abbrev pub NothingIsInvented : Type 0
NothingIsInvented =
    (k : Option Key) (t : Option Triple) (kind : Kind) (lead : List ℕ) → (join k t kind lead).standing ≡ NameAlone
    → (key : Key) × (r : Reading) × (k ≡ Some key) × (is_loose key.usage ≡ false) × (t ≡ None)
    × (reading_without key.readings kind lead ≡ Some r) × IsTrue (admits r.asks kind) × ((join k t kind lead).told ≡ Some (of_name r.named))

-- whether there is no key, or a loose one
abbrev pub is_silent : Option Key → Bool
is_silent k = option_map_or (λ key. is_loose key.usage) k true

-- whether there are no bytes, and no reading admits that
abbrev pub is_unfilled : Option Key → Kind → List ℕ → Bool
is_unfilled k kind lead = is_empty kind && option_map_or (λ key. not (is_some (reading_without key.readings kind lead))) k true

-- Nothing is said exactly if the bytes have no type, and there is no key but a loose one, or there are no bytes and no reading
-- admits that.
abbrev pub SilenceIsExact : Type 0
SilenceIsExact =
    (k : Option Key) (t : Option Triple) (kind : Kind) (lead : List ℕ)
    → (join k t kind lead).standing ≡ Nothing ↔ ((t ≡ None) × IsTrue (is_silent k || is_unfilled k kind lead))

-- A lie stays visible. What has a type that no reading takes is contradicted, whatever else it has: by a strict key always, and by
-- a plain one unless people name such files as they like. But a finer text is no lie where any text is none.
abbrev pub LiesStayVisible : Type 0
LiesStayVisible =
    (k : Key) (t : Triple) (kind : Kind) (lead : List ℕ) → is_free k.usage t ≡ false → is_finer_text t k.readings ≡ false
    → IsTrue (list_all (λ r. not (takes t r)) k.readings)
    → join (Some k) (Some t) kind lead ≡ answer Contradicts (Some (of_bytes t))

-- Three things of the bytes count at most: the type, the kind where there is no type, and the lead where a reading has leads.
pub record OnlyThreeCount : Type 0 where
  pub no_kind : (k : Option Key) (t : Triple) (kind other : Kind) (lead : List ℕ) → join k (Some t) kind lead ≡ join k (Some t) other lead
  pub no_lead : (k : Key) (t : Option Triple) (kind : Kind) (lead other : List ℕ) → IsTrue (list_all (λ r. has_no_leads r.leads) k.readings)
      → join (Some k) t kind lead ≡ join (Some k) t kind other

-- Only the key of a name counts.
abbrev pub OnlyTheKeyCounts : Type 0
OnlyTheKeyCounts =
    (name other b : List ℕ) (n m : Named) (kind : Kind) → IsKind b kind → IsNamed name b n → IsNamed other b m → key_of n ≡ key_of m
    → answer_of n ≡ answer_of m

-- The case of its letters is none of the key, in any table.
abbrev pub CaseChangesNoKey : Type 0
CaseChangesNoKey = (table : List Key) (name other : List ℕ) (k l : Option Key) → small name ≡ small other → IsKey table name k → IsKey table other l → k ≡ l

-- Nor is a folder, which ends in / or \ and has no byte 00.
abbrev pub FoldersChangeNoKey : Type 0
FoldersChangeNoKey =
    (table : List Key) (folder name : List ℕ) (slash : ℕ) (k l : Option Key) → IsTrue (is_byte2 0x2F 0x5C slash) → IsTrue (not (list_any (is_byte 0) folder))
    → IsKey table name k → IsKey table (folder ++ (slash ∷ name)) l → k ≡ l

-- Nor is the ending of a copy, after a base that has a byte and is no copy itself.
abbrev pub CopiesChangeNoKey : Type 0
CopiesChangeNoKey =
    (table : List Key) (name base ending : List ℕ) (k l : Option Key) → IsTrue (list_any (bytes_eq ending) copies)
    → IsBase name base → base ≢ [] → copy_length base ≡ 0 → IsKey table name k → IsKey table (name ++ ending) l → k ≡ l

-- A lead of two bytes stays, whatever follows, but of EF BB: with BF it becomes a byte order mark.
abbrev pub LeadsLast : Type 0
LeadsLast = (b more : List ℕ) → length (lead_of b) ≡ 2 → b ≢ (0xEF ∷ 0xBB ∷ []) → lead_of (b ++ more) ≡ lead_of b

-- What is no text and has a byte never becomes one, and a byte 00 stays.
pub record KindsLast : Type 0 where
  pub no_text : (b more : List ℕ) → All (λ x. x < 256) more → b ≢ [] → (¬ IsText b) → ¬ IsText (b ++ more)
  pub binary : (b more : List ℕ) → All (λ x. x < 256) more → IsKind b Binary → IsKind (b ++ more) Binary

-- no reading of the key has leads, or there is no key
abbrev pub has_no_lead : Option Key → Bool
has_no_lead k = option_map_or (λ key. list_all (λ r. has_no_leads r.leads) key.readings) k true

-- What follows the bytes does not change how they lead, as far as the key asks.
abbrev pub LeadStays : Option Key → List ℕ → Type 0
LeadStays k b = ((length (lead_of b) ≡ 2) × (b ≢ (0xEF ∷ 0xBB ∷ []))) ⊎ IsTrue (has_no_lead k)

-- So as long as the bytes have the same type, and their lead stays, what follows changes nothing. Here and below the names
-- may be others with the same key.
abbrev pub AnswersLast : Type 0
AnswersLast =
    (name renamed b more : List ℕ) (n m : Named) (t : Triple) (kind other : Kind) → IsKind b kind → IsKind (b ++ more) other
    → IsNamed name b n → IsNamed renamed (b ++ more) m → IsWiderAnswer b (Some t) → IsWiderAnswer (b ++ more) (Some t)
    → LeadStays (key_of n) b → key_of n ≡ key_of m → answer_of n ≡ answer_of m

-- While the kind stays too, that holds of bytes without a type as well.
abbrev pub AnswersLastByKind : Type 0
AnswersLastByKind =
    (name renamed b more : List ℕ) (n m : Named) (o : Option Triple) (kind : Kind) → IsKind b kind → IsKind (b ++ more) kind
    → IsNamed name b n → IsNamed renamed (b ++ more) m → IsWiderAnswer b o → IsWiderAnswer (b ++ more) o
    → LeadStays (key_of n) b → key_of n ≡ key_of m → answer_of n ≡ answer_of m

-- So what is no text and has no type changes its answer at most once, as its first 00 comes.
abbrev pub ChangesOnce : Type 0
ChangesOnce =
    (name renamed again b more most : List ℕ) (n m l : Named) (kind other last : Kind) → All (λ x. x < 256) more → All (λ x. x < 256) most
    → IsKind b kind → IsKind (b ++ more) other → IsKind ((b ++ more) ++ most) last → (¬ IsText b)
    → IsNamed name b n → IsNamed renamed (b ++ more) m → IsNamed again ((b ++ more) ++ most) l
    → IsWiderAnswer b None → IsWiderAnswer (b ++ more) None → IsWiderAnswer ((b ++ more) ++ most) None
    → b ≢ [] → LeadStays (key_of n) b → key_of n ≡ key_of m → key_of m ≡ key_of l
    → (answer_of n ≡ answer_of m) ⊎ (answer_of m ≡ answer_of l)

-- The type of bytes whose wider answer is decided stays, so the answer about them does.
abbrev pub DecidedAnswersLast : Type 0
DecidedAnswersLast =
    (name renamed b more : List ℕ) (n m : Named) (t : Triple) (kind other : Kind) → IsDecided b → IsBuffer more → IsKind b kind → IsKind (b ++ more) other
    → IsNamed name b n → IsNamed renamed (b ++ more) m → IsWiderAnswer b (Some t)
    → LeadStays (key_of n) b → key_of n ≡ key_of m → answer_of n ≡ answer_of m

-- a byte that a key may have: a visible one of ASCII but / and \ and capital letters
abbrev pub is_key_byte : ℕ → Bool
is_key_byte x = nat_lt 0x20 x && nat_lt x 0x7F && not (x == 0x2F) && not (x == 0x5C) && (nat_lt x 0x41 || nat_lt 0x5A x)

-- a text has from 1 to n bytes
abbrev pub has_most : ℕ → List ℕ → Bool
has_most n text = nat_le 1 (length text) && nat_le (length text) n

-- what the first row shows that has the text as extension or MIME type
abbrev pub row_of : List ℕ → Option Triple
row_of text = find (λ t. is_among t (text ∷ [])) shown

-- the first text with which its files begin, if that is known
abbrev pub first_lead : List (List ℕ) → List ℕ
first_lead [] = []
first_lead (lead ∷ leads) = lead

-- whether bytes without a type may be of this kind and have this lead: they are no text, and if there are none the lead is empty
abbrev pub may_lead : Kind → List ℕ → Bool
may_lead Empty lead = length lead == 0
may_lead Text lead = false
may_lead Binary lead = true
may_lead Marked lead = true

-- the reading passes the test, and none before does
abbrev pub is_first : (Reading → Bool) → List Reading → Reading → Bool
is_first test before r = test r && not (list_any test before)

-- with a reading's first lead there are bytes of which it is the first that fits: without a type, of a kind that it admits, if
-- the key is not loose; or with that of a row in its sets
abbrev pub is_left : (loose : Bool) → List Reading → Reading → Bool
is_left loose before r =
    let lead = first_lead r.leads in
    (not loose && list_any (λ kind. may_lead kind lead && is_first (λ e. fits lead e && admits e.asks kind) before r) (Empty ∷ Binary ∷ Marked ∷ []))
    || list_any (λ row. option_map_or (λ t. is_first (λ e. fits lead e && takes t e) before r) (row_of row) false) (r.agrees ++ (r.begins ++ r.finer))

-- such bytes are left to each reading
abbrev pub are_left : (loose : Bool) → List Reading → List Reading → Bool
are_left loose before [] = true
are_left loose before (r ∷ readings) = is_left loose before r && are_left loose (before ++ (r ∷ [])) readings

-- a loose key's only reading may be told of no bytes: it is the type of the name
abbrev pub is_name_only : Key → Bool
is_name_only k = is_loose k.usage && length k.readings == 1

abbrev pub are_told : Key → Bool
are_told k = are_left (is_loose k.usage) [] k.readings || is_name_only k

-- the last place from i on and below n whose byte passes the test
abbrev pub last_below : (ℕ → Bool) → List ℕ → ℕ → ℕ → Option ℕ
last_below test text i zero = None
last_below test text i (suc n) = if nat_le i n then (if test (slice_index text n) then Some n else last_below test text i n) else None

-- the last dot of a stem before a place that is not its first byte; and its last byte that is neither digit nor dot
abbrev pub last_dot : List ℕ → ℕ → Option ℕ
last_dot stem n = last_below (is_byte 0x2E) stem 1 n

abbrev pub edge_of : List ℕ → Option ℕ
edge_of stem = last_below (λ x. not (is_version_byte x)) stem 0 (length stem)

-- the stem is no library with versions, and its extension that is looked for first is the text
abbrev pub is_unversioned : List ℕ → Bool
is_unversioned stem = not (is_version (past stem (edge_of stem)) && ends_in (up_to stem (edge_of stem)) (codes ".so"))

abbrev pub shows_extension : List ℕ → List ℕ → Bool
shows_extension stem text =
    let last = last_dot stem (length stem) in
    is_unversioned stem && option_map_or (λ dot. bytes_eq (drop (dot + 1) stem) text) (option_or (last_dot stem (unwrap_or last 0)) last) false

-- a name with that key: a whole name itself, and an extension after a dot and so many letters that no whole name is as long
abbrev pub name_of : Part → List ℕ → List ℕ
name_of Whole text = text
name_of Extension text = codes "aaaaaaaaaaaaaaaaaaaaaaaaaaa." ++ text

abbrev pub shows_key : Part → List ℕ → Bool
shows_key Whole text = true
shows_key Extension text = shows_extension (name_of Extension text) text

-- the text is in small letters, and that name has it as its key: without a byte 00 or a folder, and it is no copy
abbrev pub has_name : Part → List ℕ → Bool
has_name part text =
    bytes_eq (small text) text && (not (list_any (is_byte 0) (name_of part text)) && (not (list_any (is_byte2 0x2F 0x5C) (name_of part text))
    && (not (list_any (ends_in (name_of part text)) copies) && shows_key part text)))

-- a key has from 1 to 27 such bytes, and readings, each with a MIME type of 73 bytes at most
abbrev pub has_form : Key → Bool
has_form k =
    has_most 27 k.text && list_all is_key_byte k.text && nat_le 1 (length k.readings)
    && list_all (λ r. has_most 73 r.named.mime_type) k.readings

-- and some name has it, and none of its readings is hidden
abbrev pub is_key_right : Key → Bool
is_key_right k = has_form k && (has_name k.part k.text && are_told k)

-- the texts of the keys that are not so, or that stand once more after
abbrev pub wrong_keys : List Key → List (List ℕ)
wrong_keys [] = []
wrong_keys (k ∷ keys) = if is_key_right k && not (list_any (is_key k.part k.text) keys) then wrong_keys keys else k.text ∷ wrong_keys keys

-- no key of the table is wrong
abbrev pub KeysAreRight : Type 0
KeysAreRight = wrong_keys keys ≡ []

-- a row shows the type, and of some lead the key tells by this reading what its sets make of the type, whatever the kind is
pub record IsToldOfRow (k : Key) (r : Reading) : Type 0 where
  pub t : Triple
  pub lead : List ℕ
  pub is_shown : Contains shown t
  pub found : reading_of k.readings t lead ≡ Some r
  pub is : (kind : Kind) → join (Some k) (Some t) kind lead ≡ told_by r t

-- bytes without a type may be of some kind and have some lead of which the key tells this reading's type, by the name alone
pub record IsToldAlone (k : Key) (r : Reading) : Type 0 where
  pub kind : Kind
  pub lead : List ℕ
  pub may_be : IsTrue (may_lead kind lead)
  pub found : reading_without k.readings kind lead ≡ Some r
  pub is : join (Some k) None kind lead ≡ answer NameAlone (Some (of_name r.named))

-- No reading is hidden by those before it: each is told of some bytes, unless it is the only one of a loose key.
abbrev pub EachReadingIsFound : Type 0
EachReadingIsFound = All (λ k. All (λ r. IsToldOfRow k r ⊎ IsToldAlone k r) k.readings ⊎ IsTrue (is_name_only k)) keys

-- Each key is that of some name.
abbrev pub EachKeyIsReached : Type 0
EachKeyIsReached = All (λ k. (name : List ℕ) × IsKey keys name (Some k)) keys

-- whether a key has a reading with the row in a set
abbrev pub has_key : Triple → Bool
has_key t = list_any (λ k. list_any (takes t) k.readings) keys

-- Each row has a name, but for those whose files have none of their own.
abbrev pub EachRowIsNamed : Type 0
EachRowIsNamed = All (λ t. IsTrue (has_key t || is_among t nameless)) shown
