-- What is read of a text is what it describes.
use Rattle.infer_notation.proofs.Common.{◌≡◌, ◌+◌, ◌<◌, ◌≤◌, ◌&&◌, ◌||◌, ◌==◌, ◌⊎◌, ℕ, Bool, true, false, List, [], ◌∷◌, ◌++◌, Option, None, Some, codes, drop, length, map, nat_le, nat_lt, option_map, inl, inr, refl, sym, ap, subst, ◌∙◌, arith, All, list_all, onto_first, slice_split, cases_Bool, eqb-true, le-leb, leb-true, lt-leb, lt-ltb, ltb-true, append-nil, length-map, All-cons, All-nil, slice_split-cons_no, slice_split_at, slice_split_none, cond_some, bytes_eq-Decides, Alternative, BeginsWith, IsMadeOf, by_word, blank, empty, next, begins_by, bytes_in, each_of, is_or, item_of, items_in, items_of, extra_entry, named_in, names, programs_of, related, relations_in, relations_of, same_token, short_groups, Rest, alternatives_of, rest_of, Derives, opened, signature, tokens_of, begins_relation, described, signature_of, bare, is_of, separator, quoted, ◌>>=◌, after_blanks, byte_of, byte_with, number_of, Bare, Takes, Nothing, Program, not, or_cases, and_parts}
use Rattle.std.proofs.Common.{◌*◌}
use Rattle.std.specs.Int.{is_in_range}
use Rattle.std.proofs.lemmas.List.{append_assoc}
use Rattle.std.proofs.lemmas.List.Splits.{slice_split-cons_yes}
use Rattle.std.proofs.Math.Bool.{and-false}
use Rattle.std.proofs.lemmas.Bool.{eq-eqb, not-true}
use Rattle.infer_formats.specs.Relation.{Relation, class_id, directory_tag, directory_tag_and_make, first_entry_ends_in, first_entry_has_extra, first_entry_is, first_key, first_key_with, header, of_text, program, relation_listed, root, root_with, text_first, text_first_with, text_first_with_all}
use Rattle.infer_formats.specs.declared.relation.Relation as relations
use Rattle.infer_notation.specs.Described.{AreBytes, Asks, AsksEach, AsksFor, Describes, IsGroup, IsName, IsNameIn, IsParted, IsShort, NamesRelation, WriteEach, Writes, a_key, a_later_header, a_text, a_name, a_program, a_beginning, a_relation, a_tag, a_tag_and_make, a_text_after, a_text_within, a_value, an_element, an_end, an_extra, an_id, last, nothing, one_text, other, programs, three_texts_after, two_texts_after}
use Rattle.infer_notation.specs.Relations.{alone, beginning_of, after_tag, beginning_with, beginning_with_all, beginning_with_two, directory_of, ending_entry, entry_of, extra_field, header_of, id_of, key_of, named_entry, number_at, or_else, short_number, tag_of, text_of, program_of, root_of}
use Rattle.infer_notation.specs.Tokens.{Token, is_word, set}
use Rattle.infer_notation.specs.Words.{is_digit}
use Rattle.infer_notation.proofs.GrammarLemmas as grammar
use Rattle.infer_notation.proofs.GrammarLemmas.{is_derived}
use Rattle.infer_notation.proofs.MadeLemmas.{is_made, is_read, not_blank}
use Rattle.infer_formats.specs.declared.relation.OfText.{OfText}
use Rattle.infer_formats.specs.declared.relation.Takes.TheVariants.{Begins, ClassId, Entry, FirstKey, Header, OneText, Root, Tag}
use Rattle.infer_notation.proofs.OptionLemmas.{bind_some, cond_given, map_some}
use Rattle.infer_notation.proofs.RelationLemmas.{begins_not}
use Rattle.infer_notation.proofs.TextLemmas.{AreLeft, before_so, each_first, each_so, last_read, more_left, none_left, read_before, so_writes, word_is, writes_so}
use Rattle.infer_notation.specs.Texts.{text_before, text_in}

-- ---- groups

or_word : (t : Token) → is_or t ≡ true → t ≡ bare (codes "or")
or_word (bare w) is = ap bare ((bytes_eq-Decides w (codes "or")).0 is)
or_word t is = absurd cc

-- a list, parted at each element that passes a test
pub data IsSplit {X : Type 0} (p : X → Bool) : List X → List (List X) → Type 0 where
  whole : (g : List X) → All (λ t. p t ≡ false) g → IsSplit p g (g ∷ [])
  cut : (g ts : List X) (y : X) (gs : List (List X)) → All (λ t. p t ≡ false) g → p y ≡ true → IsSplit p ts gs → IsSplit p (g ++ (y ∷ ts)) (g ∷ gs)

one_more : {X : Type 0} (p : X → Bool) (t : X) (ts : List X) (gs : List (List X)) → p t ≡ false → IsSplit p ts gs → IsSplit p (t ∷ ts) (onto_first t gs)
one_more p t ts gs apart (whole g one) = whole (t ∷ g) (All-cons (λ u. p u ≡ false) t g apart one)
one_more p t ts gs apart (cut g us y hs one is split) = cut (t ∷ g) us y hs (All-cons (λ u. p u ≡ false) t g apart one) is split

pub is_split : {X : Type 0} (p : X → Bool) (ts : List X) → IsSplit p ts (slice_split p ts)
is_split p [] = whole [] (All-nil (λ u. p u ≡ false))
is_split p (t ∷ ts) = elim (cases_Bool (p t)) [
  | inl is ↦ subst (IsSplit p (t ∷ ts)) (sym (slice_split-cons_yes p t ts is)) (cut [] ts t (slice_split p ts) (All-nil (λ u. p u ≡ false)) is (is_split p ts))
  | inr apart ↦ subst (IsSplit p (t ∷ ts)) (sym (slice_split-cons_no p t ts apart)) (one_more p t ts (slice_split p ts) apart (is_split p ts))
]

short : (g : List Token) → All (λ t. is_or t ≡ false) g → (nat_lt 0 (length g) && nat_le (length g) 24) ≡ true → IsGroup g
short g one h = let tests = and_parts (nat_lt 0 (length g)) (nat_le (length g) 24) h in record { some = ltb-true 0 (length g) tests.0; few = leb-true (length g) 24 tests.1; one = one }

parted_so : (ts : List Token) (gs hs : List (List Token)) → IsSplit is_or ts gs → short_groups gs ≡ Some hs → IsParted ts hs
parted_so ts gs hs (whole g one) e =
    let both = cond_some (nat_lt 0 (length g) && nat_le (length g) 24) (g ∷ []) hs e in
    subst (IsParted g) both.1 (last g (short g one both.0))
parted_so ts gs hs (cut g us y ks one is_y split) e =
    let (is, some) = cond_given (nat_lt 0 (length g) && nat_le (length g) 24) (option_map (λ js. g ∷ js) (short_groups ks)) hs e in
    let (js, are, same) = map_some (λ js. g ∷ js) (short_groups ks) hs some in
    subst (λ t. IsParted (g ++ (t ∷ us)) hs) (sym (or_word y is_y))
    (subst (IsParted (g ++ (bare (codes "or") ∷ us))) same (other g us js (short g one is) (parted_so us ks js split are)))

pub is_parted : (ts : List Token) (gs : List (List Token)) → short_groups (slice_split is_or ts) ≡ Some gs → IsParted ts gs
is_parted ts gs e = parted_so ts (slice_split is_or ts) gs (is_split is_or ts) e

pub is_grouped : (ts : List Token) (gs : List (List Token)) → IsParted ts gs → short_groups (slice_split is_or ts) ≡ Some gs
is_grouped ts gs (last g group) = ap short_groups (slice_split_none is_or g group.one) ∙ rw (lt-ltb 0 (length g) group.some, le-leb (length g) 24 group.few) refl
is_grouped ts gs (other g us hs group parted) =
    ap short_groups (slice_split_at is_or g (bare (codes "or")) us group.one refl)
    ∙ rw (lt-ltb 0 (length g) group.some, le-leb (length g) 24 group.few) (ap (option_map (λ js. g ∷ js)) (is_grouped us hs parted))

-- ---- names

one_token : (t n : Token) → same_token t n ≡ true → t ≡ n
one_token (quoted s) (quoted w) is = ap quoted ((bytes_eq-Decides s w).0 is)
one_token (set s) (set w) is = ap set ((bytes_eq-Decides s w).0 is)
one_token (separator x) (separator y) is = ap separator (eqb-true x y is)
one_token (bare s) (bare w) is = ap bare ((bytes_eq-Decides s w).0 is)
one_token t n is = absurd cc

begun : (ts ns : List Token) → begins_by ts ns ≡ true → ts ≡ ns ++ drop (length ns) ts
begun ts [] is = refl
begun [] (n ∷ ns) is = absurd cc
begun (t ∷ ts) (n ∷ ns) is =
    let both = and_parts (same_token t n) (begins_by ts ns) is in
    ap (λ u. u ∷ ts) (one_token t n both.0) ∙ ap (λ us. n ∷ us) (begun ts ns both.1)

-- the name by which tokens begin
pub record Named (ns : List (List Token × Takes)) (ts : List Token) (takes : Takes) (rest : List Token) : Type 0 where
  pub name : List Token
  pub listed : IsNameIn ns takes name
  pub whole : ts ≡ name ++ rest

pub named_by : (ns : List (List Token × Takes)) (ts : List Token) (takes : Takes) (rest : List Token) → named_in ns ts ≡ Some (takes, rest) → Named ns ts takes rest
named_by [] ts takes rest e = absurd cc
named_by ((name, s) ∷ others) ts takes rest e = elim (cases_Bool (begins_by ts name)) [
  | inl is ↦
      let found : ◌≡◌ {A = Option (Takes × List Token)} (Some (s, drop (length name) ts)) (Some (takes, rest)) = rw is at e in
      let same : (s, drop (length name) ts) ≡ (takes, rest) = cc in record {
        name = name;
        listed = inl (ap (λ (n : Takes × List Token). (name, n.0)) same);
        whole = begun ts name is ∙ ap (λ (n : Takes × List Token). name ++ n.1) same;
      }
  | inr absent ↦
      let later = named_by others ts takes rest (rw absent at e) in
      record { name = later.name; listed = inr later.listed; whole = later.whole }
]

-- what begins by the second name does not begin by the first: they differ, or the first is longer and the second takes nothing
abbrev differ : List Token → List Token → Bool
differ (t ∷ ts) (n ∷ ns) = not (same_token t n) || differ ts ns
differ ts ns = false

abbrev takes_none : Takes → Bool
takes_none (Nothing r) = true
takes_none takes = false

abbrev are_apart : List Token × Takes → List Token × Takes → Bool
are_apart m n = differ n.0 m.0 || (takes_none n.1 && nat_lt (length n.0) (length m.0))

-- so each of the names is of those after it
abbrev all_apart : List (List Token × Takes) → Bool
all_apart [] = true
all_apart (m ∷ ns) = list_all (are_apart m) ns && all_apart ns

begins_other : (ts ns rest : List Token) → differ ts ns ≡ true → begins_by (ts ++ rest) ns ≡ false
begins_other (t ∷ ts) (n ∷ ns) rest is = elim (or_cases (not (same_token t n)) (differ ts ns) is) [
  | inl here ↦ rw (not-true (same_token t n) here) refl
  | inr later ↦ ap (λ b. same_token t n && b) (begins_other ts ns rest later) ∙ and-false (same_token t n)
]
begins_other ts ns rest is = absurd cc

same_itself : (t : Token) → same_token t t ≡ true
same_itself (quoted s) = (bytes_eq-Decides s s).1 refl
same_itself (set s) = (bytes_eq-Decides s s).1 refl
same_itself (bare s) = (bytes_eq-Decides s s).1 refl
same_itself (separator x) = eq-eqb x x refl

begins_itself : (ts rest : List Token) → (begins_by (ts ++ rest) ts ≡ true) × (drop (length ts) (ts ++ rest) ≡ rest)
begins_itself [] rest = (refl, refl)
begins_itself (t ∷ ts) rest = let later = begins_itself ts rest in (rw (same_itself t, later.0) refl, later.1)

-- what takes nothing has no token after its name
taken_none : (takes : Takes) (rest : List Token) (bs : List Alternative) → AsksFor takes rest bs → takes_none takes ≡ true → rest ≡ []
taken_none (Nothing r) rest bs (a_relation _ _ s (nothing _)) is = refl
taken_none takes rest bs asks is = absurd cc

-- tokens that begin by a relation's name, and go on with what it takes, name that one
module _ (takes : Takes) (name rest : List Token) (bs : List Alternative) (asks : AsksFor takes rest bs) where
  before : (m : List Token × Takes) → are_apart m (name, takes) ≡ true → begins_by (name ++ rest) m.0 ≡ false
  before m is = elim (or_cases (differ name m.0) (takes_none takes && nat_lt (length name) (length m.0)) is) [
    | inl differs ↦ begins_other name m.0 rest differs
    | inr longer ↦
        let both = and_parts (takes_none takes) (nat_lt (length name) (length m.0)) longer in
        subst (λ us. begins_by (name ++ us) m.0 ≡ false) (sym (taken_none takes rest bs asks both.0))
        (ap (λ us. begins_by us m.0) (append-nil name) ∙ begins_not name m.0 (ltb-true (length name) (length m.0) both.1))
  ]

  apart_from : (m : List Token × Takes) (ns : List (List Token × Takes)) → list_all (are_apart m) ns ≡ true → IsNameIn ns takes name → are_apart m (name, takes) ≡ true
  apart_from m (n ∷ ns) all (inl e) = subst (λ k. are_apart m k ≡ true) e (and_parts (are_apart m n) _ all).0
  apart_from m (n ∷ ns) all (inr later) = apart_from m ns (and_parts (are_apart m n) _ all).1 later
  apart_from m [] all none = absurd none

  told_in : (ns : List (List Token × Takes)) → all_apart ns ≡ true → IsNameIn ns takes name → named_in ns (name ++ rest) ≡ Some (takes, rest)
  told_in (n ∷ ns) apart (inl e) =
      subst (λ (k : List Token × Takes). named_in (k ∷ ns) (name ++ rest) ≡ Some (takes, rest)) (sym e)
      (let its = begins_itself name rest in rw its.0 (ap (λ us. Some (takes, us)) its.1))
  told_in (n ∷ ns) apart (inr later) =
      let both = and_parts (list_all (are_apart n) ns) (all_apart ns) apart in
      rw (before n (apart_from n ns both.0 later)) (told_in ns both.1 later)
  told_in [] apart none = absurd none

  pub takes_so : IsName takes name → named_in names (name ++ rest) ≡ Some (takes, rest)
  takes_so is = told_in names refl is

-- ---- what a relation takes

alone_so : (r : relations.Relation) (ts : List Token) (a : Relation) → alone (relation_listed r) ts ≡ Some a → Asks (Nothing r) ts a
alone_so r [] a e = let same : relation_listed r ≡ a = cc in subst (Asks (Nothing r) []) same (nothing r)
alone_so r (t ∷ ts) a e = absurd cc

tag_so : (w : List ℕ) (n : ℕ) → tag_of w ≡ Some n → Asks Tag (bare w ∷ []) (directory_tag n)
tag_so (w ∷ x ∷ y ∷ z ∷ []) n e =
    let (h, is-high, some) = bind_some (byte_with w x) _ n e in
    let (l, is-low, same) = map_some (λ l. 256 * h + l) (byte_with y z) n some in
    subst (λ m. Asks Tag (bare (w ∷ x ∷ y ∷ z ∷ []) ∷ []) (directory_tag m)) same (a_tag w x y z h l is-high is-low)
tag_so w n e = absurd cc

tag_and_make_so : (w : List ℕ) (ts : List Token) (make : List ℕ) (n : ℕ) → tag_of w ≡ Some n → Writes ts make
    → Asks Tag (bare w ∷ bare (codes "and") ∷ bare (codes "make") ∷ ts) (directory_tag_and_make n make)
tag_and_make_so (w ∷ x ∷ y ∷ z ∷ []) ts make n e writes =
    let (h, is-high, some) = bind_some (byte_with w x) _ n e in
    let (l, is-low, same) = map_some (λ l. 256 * h + l) (byte_with y z) n some in
    subst (λ m. Asks Tag (bare (w ∷ x ∷ y ∷ z ∷ []) ∷ bare (codes "and") ∷ bare (codes "make") ∷ ts) (directory_tag_and_make m make)) same
    (a_tag_and_make w x y z h l ts make is-high is-low writes)
tag_and_make_so w ts make n e writes = absurd cc

after_tag_so : (w : List ℕ) (n : ℕ) → tag_of w ≡ Some n → (ts : List Token) (a : Relation) → after_tag n ts ≡ Some a → Asks Tag (bare w ∷ ts) a
after_tag_so w n is [] a e = let same : directory_tag n ≡ a = cc in subst (Asks Tag (bare w ∷ [])) same (tag_so w n is)
after_tag_so w n is (t ∷ u ∷ ts) a e =
    let (so, some) = cond_given (is_word (codes "and") t && is_word (codes "make") u) (option_map (directory_tag_and_make n) (text_in ts)) a e in
    let (make, made, same) = map_some (directory_tag_and_make n) (text_in ts) a some in
    let words = and_parts (is_word (codes "and") t) (is_word (codes "make") u) so in
    subst (λ v. Asks Tag (bare w ∷ v ∷ u ∷ ts) a) (sym (word_is (codes "and") t words.0))
    (subst (λ v. Asks Tag (bare w ∷ bare (codes "and") ∷ v ∷ ts) a) (sym (word_is (codes "make") u words.1))
    (subst (Asks Tag (bare w ∷ bare (codes "and") ∷ bare (codes "make") ∷ ts)) same (tag_and_make_so w ts make n is (writes_so ts make made))))
after_tag_so w n is ts a e = absurd cc

directory_so : (ts : List Token) (a : Relation) → directory_of ts ≡ Some a → Asks Tag ts a
directory_so (bare w ∷ ts) a e =
    let (n, is, some) = bind_some (tag_of w) _ a e in after_tag_so w n is ts a some
directory_so ts a e = absurd cc

text_so : (which : OfText) (ts : List Token) (a : Relation) → text_of which ts ≡ Some a → Asks (OneText which) ts a
text_so which (quoted t ∷ []) a e = let same : of_text which t ≡ a = cc in subst (Asks (OneText which) (quoted t ∷ [])) same (a_text which t)
text_so which ts a e = absurd cc

program_so : (ts : List Token) (a : Relation) → program_of ts ≡ Some a → Asks Program ts a
program_so (bare w ∷ []) a e = let same : program w ≡ a = cc in subst (Asks Program (bare w ∷ [])) same (a_program w)
program_so ts a e = absurd cc

either_so : (o p : Option Relation) (a : Relation) → or_else o p ≡ Some a → (o ≡ Some a) ⊎ (p ≡ Some a)
either_so None p a e = inr e
either_so (Some b) p a e = inl e

name_so : (ts : List Token) (a : Relation) → named_entry ts ≡ Some a → Asks Entry ts a
name_so (t ∷ quoted s ∷ []) a e =
    let both = cond_some (is_word (codes "is") t) (first_entry_is s) a e in
    subst (λ u. Asks Entry (u ∷ quoted s ∷ []) a) (sym (word_is (codes "is") t both.0)) (subst (Asks Entry (bare (codes "is") ∷ quoted s ∷ [])) both.1 (a_name s))
name_so ts a e = absurd cc

end_so : (ts : List Token) (a : Relation) → ending_entry ts ≡ Some a → Asks Entry ts a
end_so (t ∷ u ∷ quoted s ∷ []) a e =
    let both = cond_some (is_word (codes "ends") t && is_word (codes "in") u) (first_entry_ends_in s) a e in
    let words = and_parts (is_word (codes "ends") t) (is_word (codes "in") u) both.0 in
    subst (λ v. Asks Entry (v ∷ u ∷ quoted s ∷ []) a) (sym (word_is (codes "ends") t words.0))
    (subst (λ v. Asks Entry (bare (codes "ends") ∷ v ∷ quoted s ∷ []) a) (sym (word_is (codes "in") u words.1))
    (subst (Asks Entry (bare (codes "ends") ∷ bare (codes "in") ∷ quoted s ∷ [])) both.1 (an_end s)))
end_so ts a e = absurd cc

field_so : (id : List Token) (a : Relation) → extra_field id ≡ Some a → Asks Entry (bare (codes "has") ∷ bare (codes "extra") ∷ id) a
field_so (bare v ∷ bare w ∷ []) a e =
    let (x, is-high, some) = bind_some (byte_of v) _ a e in
    let (y, is-low, same) = map_some (λ y. first_entry_has_extra (x ∷ y ∷ [])) (byte_of w) a some in
    subst (Asks Entry (bare (codes "has") ∷ bare (codes "extra") ∷ bare v ∷ bare w ∷ [])) same (an_extra v w x y is-high is-low)
field_so id a e = absurd cc

extra_so : (ts : List Token) (a : Relation) → extra_entry ts ≡ Some a → Asks Entry ts a
extra_so (t ∷ u ∷ id) a e =
    let (is, some) = cond_given (is_word (codes "has") t && is_word (codes "extra") u) (extra_field id) a e in
    let words = and_parts (is_word (codes "has") t) (is_word (codes "extra") u) is in
    subst (λ v. Asks Entry (v ∷ u ∷ id) a) (sym (word_is (codes "has") t words.0))
    (subst (λ v. Asks Entry (bare (codes "has") ∷ v ∷ id) a) (sym (word_is (codes "extra") u words.1)) (field_so id a some))
extra_so ts a e = absurd cc

entry_so : (ts : List Token) (a : Relation) → entry_of ts ≡ Some a → Asks Entry ts a
entry_so ts a e = elim (either_so (named_entry ts) (or_else (ending_entry ts) (extra_entry ts)) a e) [
  | inl named ↦ name_so ts a named
  | inr others ↦ elim (either_so (ending_entry ts) (extra_entry ts) a others) [
    | inl ending ↦ end_so ts a ending
    | inr extra ↦ extra_so ts a extra
  ]
]

-- words that write bytes
record Words (ts : List Token) (xs : List ℕ) : Type 0 where
  words : List (List ℕ)
  same : ts ≡ map bare words
  bytes : AreBytes words xs

words_so : (ts : List Token) (xs : List ℕ) → bytes_in ts ≡ Some xs → Words ts xs
words_so [] xs e = let none : [] ≡ xs = cc in subst (Words []) none (record { words = []; same = refl; bytes = tt })
words_so (bare w ∷ ts) xs e =
    let (y, is, some) = bind_some (byte_of w) _ xs e in
    let (ys, are, same) = map_some (λ ys. y ∷ ys) (bytes_in ts) xs some in
    let others = words_so ts ys are in
    subst (Words (bare w ∷ ts)) same (record { words = w ∷ others.words; same = ap (λ us. bare w ∷ us) others.same; bytes = (is, others.bytes) })
words_so ts xs e = absurd cc

so_words : (ws : List (List ℕ)) (xs : List ℕ) → AreBytes ws xs → bytes_in (map bare ws) ≡ Some xs
so_words [] [] are = refl
so_words (w ∷ ws) (x ∷ xs) are = rw (are.0, so_words ws xs are.1) refl
so_words [] (x ∷ xs) are = absurd are
so_words (w ∷ ws) [] are = absurd are

id_so : (ts : List Token) (a : Relation) → id_of ts ≡ Some a → Asks ClassId ts a
id_so ts a e =
    let (long, some) = cond_given (length ts == 16) (option_map class_id (bytes_in ts)) a e in
    let (xs, are, same) = map_some class_id (bytes_in ts) a some in
    let written = words_so ts xs are in
    let many = sym (length-map written.words bare) ∙ ap length (sym written.same) ∙ eqb-true (length ts) 16 long in
    subst (λ us. Asks ClassId us a) (sym written.same) (subst (Asks ClassId (map bare written.words)) same (an_id written.words xs many written.bytes))

root_so : (ts : List Token) (a : Relation) → root_of ts ≡ Some a → Asks Root ts a
root_so (bare n ∷ []) a e = let same : root n ≡ a = cc in subst (Asks Root (bare n ∷ [])) same (an_element n)
root_so (bare n ∷ t ∷ quoted s ∷ []) a e =
    let both = cond_some (is_word (codes "with") t) (root_with n s) a e in
    subst (λ u. Asks Root (bare n ∷ u ∷ quoted s ∷ []) a) (sym (word_is (codes "with") t both.0)) (subst (Asks Root (bare n ∷ bare (codes "with") ∷ quoted s ∷ [])) both.1 (a_text_within n s))
root_so ts a e = absurd cc

-- the texts after those that were read, and the relation with all
record Begun (after : Option (List Token)) (before : List (List ℕ)) (a : Relation) : Type 0 where
  others : List (List ℕ)
  left : AreLeft after others
  asks : (ts : List Token) → WriteEach ts (before ++ others) → Asks Begins ts a

all_so : (t u v : List ℕ) (after : Option (List Token)) (a : Relation) → beginning_with_all t u v after ≡ Some a → Begun after (t ∷ u ∷ v ∷ []) a
all_so t u v None a e =
    let same : text_first_with_all t u v [] ≡ a = cc in
    record { others = []; left = refl; asks = λ ts each. subst (Asks Begins ts) same (two_texts_after ts t u v each) }
all_so t u v (Some us) a e =
    let (w, is, same) = map_some (λ w. text_first_with_all t u v w) (text_in us) a e in
    record { others = w ∷ []; left = one_text us w (writes_so us w is); asks = λ ts each. subst (Asks Begins ts) same (three_texts_after ts t u v w each) }

two_so : (t u : List ℕ) (after : Option (List Token)) (a : Relation) → beginning_with_two t u after ≡ Some a → Begun after (t ∷ u ∷ []) a
two_so t u None a e =
    let same : text_first_with t u ≡ a = cc in
    record { others = []; left = refl; asks = λ ts each. subst (Asks Begins ts) same (a_text_after ts t u each) }
two_so t u (Some us) a e =
    let (p, is, some) = bind_some (text_before (codes "has") us) (λ p. beginning_with_all t u p.0 p.1) a e in
    let more = all_so t u p.0 p.1 a some in
    record { others = p.0 ∷ more.others; left = each_so us p.0 p.1 is more.others more.left; asks = more.asks }

first_so : (t : List ℕ) (after : Option (List Token)) (a : Relation) → beginning_with t after ≡ Some a → Begun after (t ∷ []) a
first_so t None a e =
    let same : text_first t ≡ a = cc in
    record { others = []; left = refl; asks = λ ts each. subst (Asks Begins ts) same (a_beginning ts t each) }
first_so t (Some us) a e =
    let (p, is, some) = bind_some (text_before (codes "has") us) (λ p. beginning_with_two t p.0 p.1) a e in
    let more = two_so t p.0 p.1 a some in
    record { others = p.0 ∷ more.others; left = each_so us p.0 p.1 is more.others more.left; asks = more.asks }

beginning_so : (ts : List Token) (a : Relation) → beginning_of ts ≡ Some a → Asks Begins ts a
beginning_so ts a e =
    let (p, is, some) = bind_some (text_before (codes "has") ts) (λ p. beginning_with p.0 p.1) a e in
    let more = first_so p.0 p.1 a some in
    more.asks ts (each_so ts p.0 p.1 is more.others more.left)

short_so : (w : List ℕ) (n : ℕ) → short_number w ≡ Some n → IsShort w n
short_so w n e =
    let (m, is, some) = bind_some (number_of w) _ n e in
    let both = cond_some (nat_lt m 65536) m n some in
    subst (IsShort w) both.1 (is, ltb-true m 65536 both.0)

so_short : (w : List ℕ) (n : ℕ) → IsShort w n → short_number w ≡ Some n
so_short w n is = rw (is.0, lt-ltb n 65536 is.1) refl

number_so : (front us : List Token) (t : List ℕ) (a : Relation) → Writes front t → number_at t us ≡ Some a → Asks Header (front ++ (bare (codes "with") ∷ us)) a
number_so front (bare v ∷ y ∷ bare w ∷ z ∷ bare x ∷ []) t a writes e =
    let (is, some) = cond_given (is_word (codes "to") y && is_word (codes "at") z) _ a e in
    let (l, is-l, later) = bind_some (short_number v) _ a some in
    let (h, is-h, final) = bind_some (short_number w) _ a later in
    let (f, is-f, same) = map_some (λ f. header t f l h) (short_number x) a final in
    let words = and_parts (is_word (codes "to") y) (is_word (codes "at") z) is in
    subst (λ u. Asks Header (front ++ (bare (codes "with") ∷ bare v ∷ u ∷ bare w ∷ z ∷ bare x ∷ [])) a) (sym (word_is (codes "to") y words.0))
    (subst (λ u. Asks Header (front ++ (bare (codes "with") ∷ bare v ∷ bare (codes "to") ∷ bare w ∷ u ∷ bare x ∷ [])) a) (sym (word_is (codes "at") z words.1))
    (subst (Asks Header (front ++ (bare (codes "with") ∷ bare v ∷ bare (codes "to") ∷ bare w ∷ bare (codes "at") ∷ bare x ∷ []))) same
    (a_later_header front t v w x l h f writes (short_so v l is-l) (short_so w h is-h) (short_so x f is-f))))
number_so front us t a writes e = absurd cc

header_so : (ts : List Token) (a : Relation) → header_of ts ≡ Some a → Asks Header ts a
header_so ts a e =
    let (p, is, some) = bind_some (text_before (codes "with") ts) (λ p. p.1 >>= number_at p.0) a e in
    let (us, after, found) = bind_some p.1 (number_at p.0) a some in
    let b = before_so (codes "with") ts p.0 (Some us) (is ∙ ap (λ (o : Option (List Token)). Some (p.0, o)) after) in
    subst (λ vs. Asks Header vs a) (sym b.cut) (number_so b.front us p.0 a b.writes found)

key_so : (ts : List Token) (a : Relation) → key_of ts ≡ Some a → Asks FirstKey ts a
key_so (quoted k ∷ []) a e = let same : first_key k ≡ a = cc in subst (Asks FirstKey (quoted k ∷ [])) same (a_key k)
key_so (quoted k ∷ t ∷ quoted v ∷ []) a e =
    let both = cond_some (is_word (codes "is") t) (first_key_with k v) a e in
    subst (λ u. Asks FirstKey (quoted k ∷ u ∷ quoted v ∷ []) a) (sym (word_is (codes "is") t both.0)) (subst (Asks FirstKey (quoted k ∷ bare (codes "is") ∷ quoted v ∷ [])) both.1 (a_value k v))
key_so ts a e = absurd cc

asked_so : (takes : Takes) (ts : List Token) (a : Relation) → item_of takes ts ≡ Some a → Asks takes ts a
asked_so (Nothing r) ts a e = alone_so r ts a e
asked_so Tag ts a e = directory_so ts a e
asked_so (OneText which) ts a e = text_so which ts a e
asked_so Program ts a e = program_so ts a e
asked_so Entry ts a e = entry_so ts a e
asked_so FirstKey ts a e = key_so ts a e
asked_so ClassId ts a e = id_so ts a e
asked_so Root ts a e = root_so ts a e
asked_so Begins ts a e = beginning_so ts a e
asked_so Header ts a e = header_so ts a e

abbrev one_of : Relation → List Alternative
one_of r = related r ∷ []

-- each text that is read leaves those after it
first_read : (ts : List Token) (t : List ℕ) → WriteEach ts (t ∷ []) → beginning_of ts ≡ Some (text_first t)
first_read ts t each =
    let (o, is, left) = each_first ts t [] each in
    rw is (ap (beginning_with t) (none_left o left))

second_read : (ts : List Token) (t u : List ℕ) (others : List (List ℕ)) → WriteEach ts (t ∷ u ∷ others)
    → (after : Option (List Token)) × (beginning_of ts ≡ beginning_with_two t u after) × AreLeft after others
second_read ts t u others each =
    let (o, is, left) = each_first ts t (u ∷ others) each in
    let (us, more, later) = more_left o u others left in
    let (p, are, rest) = each_first us u others later in
    (p, rw is (ap (beginning_with t) more ∙ rw are refl), rest)

third_read : (ts : List Token) (t u v : List ℕ) (others : List (List ℕ)) → WriteEach ts (t ∷ u ∷ v ∷ others)
    → (after : Option (List Token)) × (beginning_of ts ≡ beginning_with_all t u v after) × AreLeft after others
third_read ts t u v others each =
    let (o, is, left) = second_read ts t u (v ∷ others) each in
    let (us, more, later) = more_left o v others left in
    let (p, are, rest) = each_first us v others later in
    (p, is ∙ ap (beginning_with_two t u) more ∙ rw are refl, rest)

fourth_read : (ts : List Token) (t u v w : List ℕ) → WriteEach ts (t ∷ u ∷ v ∷ w ∷ []) → beginning_of ts ≡ Some (text_first_with_all t u v w)
fourth_read ts t u v w each =
    let (o, is, left) = third_read ts t u v (w ∷ []) each in
    let (us, more, later) = more_left o w [] left in
    is ∙ ap (beginning_with_all t u v) more ∙ ap (option_map (λ x. text_first_with_all t u v x)) (last_read us w later)

asks_so : (takes : Takes) (ts : List Token) (a : Relation) → Asks takes ts a → items_of takes ts ≡ Some (related a ∷ [])
asks_so takes ts a (a_tag w x y z high low is-high is-low) = rw (is-high, is-low) refl
asks_so takes ts a (a_tag_and_make w x y z high low us make is-high is-low writes) = rw (is-high, is-low, so_writes us make writes) refl
asks_so takes ts a (an_extra v w x y is-x is-y) = rw (is-x, is-y) refl
asks_so takes ts a (an_id ws id long bytes) = rw (length-map ws bare ∙ long, so_words ws id bytes) refl
asks_so takes ts a (a_beginning _ t each) = ap (option_map one_of) (first_read ts t each)
asks_so takes ts a (a_text_after _ t u each) =
    let (o, is, left) = second_read ts t u [] each in ap (option_map one_of) (is ∙ ap (beginning_with_two t u) (none_left o left))
asks_so takes ts a (two_texts_after _ t u v each) =
    let (o, is, left) = third_read ts t u v [] each in ap (option_map one_of) (is ∙ ap (beginning_with_all t u v) (none_left o left))
asks_so takes ts a (three_texts_after _ t u v w each) = ap (option_map one_of) (fourth_read ts t u v w each)
asks_so takes ts a (a_later_header front t v w x l h f writes is-l is-h is-f) =
    rw (read_before (codes "with") refl front (bare v ∷ bare (codes "to") ∷ bare w ∷ bare (codes "at") ∷ bare x ∷ []) t writes, so_short v l is-l, so_short w h is-h, so_short x f is-f) refl
asks_so takes ts a asks = refl

-- a program by each word
abbrev program_by : List ℕ → Alternative
program_by w = related (program w)

words_read : (ws : List (List ℕ)) → each_of Program (map bare ws) ≡ Some (map program_by ws)
words_read [] = refl
words_read (w ∷ ws) = ap (option_map (λ others. program_by w ∷ others)) (words_read ws)

-- words, and the programs that they name
record Programs (ts : List Token) (bs : List Alternative) : Type 0 where
  words : List (List ℕ)
  same : ts ≡ map bare words
  are : bs ≡ map program_by words

words_named : (ts : List Token) (bs : List Alternative) → each_of Program ts ≡ Some bs → Programs ts bs
words_named [] bs e = record { words = []; same = refl; are = (let none : [] ≡ bs = cc in sym none) }
words_named (bare w ∷ ts) bs e =
    let (others, is, same) = map_some (λ others. program_by w ∷ others) (each_of Program ts) bs e in
    let later = words_named ts others is in
    record { words = w ∷ later.words; same = ap (λ us. bare w ∷ us) later.same; are = sym same ∙ ap (λ us. program_by w ∷ us) later.are }
words_named ts bs e = absurd cc

programs_so : (ts : List Token) (bs : List Alternative) → programs_of ts ≡ Some bs → AsksFor Program ts bs
programs_so [] bs e = absurd cc
programs_so (t ∷ ts) bs e = let are = words_named (t ∷ ts) bs e in by are.words are.same are.are
  where
    by : (ws : List (List ℕ)) → t ∷ ts ≡ map bare ws → bs ≡ map program_by ws → AsksFor Program (t ∷ ts) bs
    by [] same are = absurd cc
    by (w ∷ ws) same are = subst (λ us. AsksFor Program us bs) (sym same) (subst (AsksFor Program (map bare (w ∷ ws))) (sym are) (programs w ws))

one_so : (takes : Takes) (ts : List Token) (bs : List Alternative) → option_map (λ r. related r ∷ []) (item_of takes ts) ≡ Some bs → AsksFor takes ts bs
one_so takes ts bs e =
    let (r, is, same) = map_some (λ r. related r ∷ []) (item_of takes ts) bs e in
    subst (AsksFor takes ts) same (a_relation takes ts r (asked_so takes ts r is))

asked_for : (takes : Takes) (ts : List Token) (bs : List Alternative) → items_of takes ts ≡ Some bs → AsksFor takes ts bs
asked_for (Nothing r) ts bs e = one_so (Nothing r) ts bs e
asked_for Tag ts bs e = one_so Tag ts bs e
asked_for (OneText which) ts bs e = one_so (OneText which) ts bs e
asked_for Program ts bs e = programs_so ts bs e
asked_for Entry ts bs e = one_so Entry ts bs e
asked_for FirstKey ts bs e = one_so FirstKey ts bs e
asked_for ClassId ts bs e = one_so ClassId ts bs e
asked_for Root ts bs e = one_so Root ts bs e
asked_for Begins ts bs e = one_so Begins ts bs e
asked_for Header ts bs e = one_so Header ts bs e

asks_for : (takes : Takes) (ts : List Token) (bs : List Alternative) → AsksFor takes ts bs → items_of takes ts ≡ Some bs
asks_for takes ts bs (a_relation _ _ r asks) = asks_so takes ts r asks
asks_for takes ts bs (programs w ws) = words_read (w ∷ ws)

pub asked_each : (takes : Takes) (gs : List (List Token)) (bs : List Alternative) → items_in takes gs ≡ Some bs → AsksEach takes gs bs
asked_each takes [] bs e = let none : [] ≡ bs = cc in sym none
asked_each takes (g ∷ gs) bs e =
    let (firsts, is, some) = bind_some (items_of takes g) _ bs e in
    let (others, are, same) = map_some (λ others. firsts ++ others) (items_in takes gs) bs some in
    (firsts, others, asked_for takes g firsts is, asked_each takes gs others are, sym same)

pub asks_each : (takes : Takes) (gs : List (List Token)) (bs : List Alternative) → AsksEach takes gs bs → items_in takes gs ≡ Some bs
asks_each takes [] bs each = ap (λ cs. Some cs) (sym each)
asks_each takes (g ∷ gs) bs (firsts, others, asks, each, same) = rw (asks_for takes g firsts asks, asks_each takes gs others each) (ap (λ cs. Some cs) (sym same))

-- ---- a text

relation_so : (text : List ℕ) (bs : List Alternative) → relations_of text ≡ Some bs → NamesRelation text bs
relation_so text bs e =
    let (gs, parted, asks) = bind_some (tokens_of text >>= λ ts. short_groups (slice_split is_or ts)) relations_in bs e in
    let (ts, is, are) = bind_some (tokens_of text) (λ ts. short_groups (slice_split is_or ts)) gs parted in
    told ts gs is are asks
  where
    told : (ts : List Token) (gs : List (List Token)) → tokens_of text ≡ Some ts → short_groups (slice_split is_or ts) ≡ Some gs → relations_in gs ≡ Some bs → NamesRelation text bs
    told ts [] is are e = absurd cc
    told ts (g ∷ gs) is are e =
        let (n, named, asks) = bind_some (named_in names g) (λ n. items_in n.0 (n.1 ∷ gs)) bs e in
        let by = named_by names g n.0 n.1 named in record {
          tokens = ts;
          made = is_made text ts is;
          takes = n.0;
          name = by.name;
          named = by.listed;
          first = n.1;
          others = gs;
          parted = subst (λ h. IsParted ts (h ∷ gs)) by.whole (is_parted ts (g ∷ gs) are);
          asks = asked_each n.0 (n.1 ∷ gs) bs asks;
        }

so_relation : (text : List ℕ) (bs : List Alternative) → NamesRelation text bs → relations_of text ≡ Some bs
so_relation text bs is =
    ap (λ o. (o >>= λ ts. short_groups (slice_split is_or ts)) >>= relations_in) (is_read text is.tokens is.made)
    ∙ ap (λ o. o >>= relations_in) (is_grouped is.tokens ((is.name ++ is.first) ∷ is.others) is.parted)
    ∙ ap (λ o. o >>= λ n. items_in n.0 (n.1 ∷ is.others)) (named is.asks)
    ∙ asks_each is.takes (is.first ∷ is.others) bs is.asks
  where
    named : AsksEach is.takes (is.first ∷ is.others) bs → named_in names (is.name ++ is.first) ≡ Some (is.takes, is.first)
    named (firsts, others, asks, each, same) = takes_so is.takes is.name is.first firsts asks is.named

-- a relation's name begins with a letter, and fixed bytes with a number
begins_so : (text rest : List ℕ) (t : Token) (w : List ℕ) → BeginsWith text t rest → t ≡ bare w → (after_blanks text ≡ w ++ rest) × (0 < length w)
begins_so text rest t w (by_word [] _ some all ends) e = absurd (omega arith)
begins_so text rest t w (by_word (x ∷ xs) _ some all ends) e =
    let same : x ∷ xs ≡ w = cc in
    let dark = not_blank (is_of Bare) x refl refl refl (and_parts (is_of Bare x) (list_all (is_of Bare) xs) all).0 in
    (rw dark (ap (λ u. u ++ rest) same), subst (λ u. 0 < length u) same some)
begins_so text rest t w begins e = absurd cc

first_word : (text : List ℕ) (ts : List Token) (w : List ℕ) (us : List Token) → IsMadeOf text ts → ts ≡ bare w ∷ us → (rest : List ℕ) × (after_blanks text ≡ w ++ rest) × (0 < length w)
first_word text ts w us empty e = absurd cc
first_word text ts w us (blank x after vs is made) e =
    let (rest, same, some) = first_word after vs w us made e in (rest, rw is same, some)
first_word text ts w us (next _ rest t vs begins made) e =
    let same : t ≡ bare w = cc in let front = begins_so text rest t w begins same in (rest, front.0, front.1)

digit_alone : (x : ℕ) → is_digit x ≡ true → (is_in_range 0x41 0x5A x || is_in_range 0x61 0x7A x) ≡ false
digit_alone x is =
    let high : x ≤ 0x39 = leb-true x 0x39 (and_parts (nat_le 0x30 x) (nat_le x 0x39) is).1 in
    rw (lt-leb 0x41 x (omega (arith, high)), lt-leb 0x61 x (omega (arith, high))) refl

number_first : (w rest : List ℕ) (n : ℕ) → number_of w ≡ Some n → begins_relation (w ++ rest) ≡ false
number_first [] rest n e = absurd cc
number_first (x ∷ xs) rest n e = digit_alone x (cond_given (is_digit x) _ n e).0

fixed_first : (text : List ℕ) (ts : List Token) (r : Rest) → IsMadeOf text ts → Derives signature ts r → begins_relation (after_blanks text) ≡ false
fixed_first text ts r made (opened w n us s is derived) =
    let (rest, same, some) = first_word text ts w (separator 0x3A ∷ us) made refl in ap begins_relation same ∙ number_first w rest n is

-- the name begins with a word whose first byte is a letter
abbrev opens_letter : List Token × Takes → Bool
opens_letter ((bare w ∷ ts), takes) = begins_relation w
opens_letter n = false

module _ (text : List ℕ) (us : List Token) (takes : Takes) where
  letter_here : (name : List Token) → IsMadeOf text (name ++ us) → opens_letter (name, takes) ≡ true → begins_relation (after_blanks text) ≡ true
  letter_here (bare (x ∷ w) ∷ vs) made is =
      let (rest, same, some) = first_word text (bare (x ∷ w) ∷ (vs ++ us)) (x ∷ w) (vs ++ us) made refl in
      ap begins_relation same ∙ is
  letter_here name made is = absurd cc

  letter_in : (ns : List (List Token × Takes)) (name : List Token) → list_all opens_letter ns ≡ true → IsNameIn ns takes name → opens_letter (name, takes) ≡ true
  letter_in (n ∷ ns) name all (inl e) = subst (λ k. opens_letter k ≡ true) e (and_parts (opens_letter n) _ all).0
  letter_in (n ∷ ns) name all (inr later) = letter_in ns name (and_parts (opens_letter n) _ all).1 later
  letter_in [] name all none = absurd none

  letter_first : (name : List Token) → IsMadeOf text (name ++ us) → IsName takes name → begins_relation (after_blanks text) ≡ true
  letter_first name made is = letter_here name made (letter_in names name refl is)

tokens_whole : (ts g : List Token) (gs : List (List Token)) → IsParted ts (g ∷ gs) → (us : List Token) × (ts ≡ g ++ us)
tokens_whole ts g gs (last _ group) = ([], sym (append-nil g))
tokens_whole ts g gs (other _ us _ group parted) = (bare (codes "or") ∷ us, refl)

pub is_described : (text : List ℕ) (bs : List Alternative) → signature_of text ≡ Some bs → Describes text bs
unfolding signature_of
is_described text bs e = elim (cases_Bool (begins_relation (after_blanks text))) [
  | inl is ↦ inr (relation_so text bs (rw is at e))
  | inr not ↦
      let (ys, are, same) = map_some (map described) (alternatives_of text) bs (rw not at e) in
      let (ts, made, derived) = is_derived text ys are in
      inl (record { tokens = ts; made = is_made text ts made; asked = ys; derived = derived; same = sym same })
]

pub is_signature : (text : List ℕ) (bs : List Alternative) → Describes text bs → signature_of text ≡ Some bs
unfolding signature_of
is_signature text bs (inl is) =
    rw (fixed_first text is.tokens (rest_of [] false is.asked) is.made is.derived)
    (ap (option_map (map described)) (grammar.is_read text is.asked (is.tokens, is_read text is.tokens is.made, is.derived)) ∙ ap (λ cs. Some cs) (sym is.same))
is_signature text bs (inr is) =
    let (us, all) = tokens_whole is.tokens (is.name ++ is.first) is.others is.parted in
    let made = subst (IsMadeOf text) (all ∙ append_assoc is.name is.first us) is.made in
    rw (letter_first text (is.first ++ us) is.takes is.name made is.named) (so_relation text bs is)
