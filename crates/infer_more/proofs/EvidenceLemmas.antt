-- A front that tells of a row, and the whole buffer.
use Rattle.infer_more.proofs.Common.{◌≡◌, ◌↔◌, ◌+◌, ◌<◌, ◌≤◌, ◌⊎◌, ◌||◌, ◌∷◌, ◌++◌, ◌∙◌, ◌==◌, ℕ, zero, suc, Bool, true, false, IsTrue, List, [], Option, None, Some, IfSome, MatchOption, inl, inr, ap, refl, subst, sym, arith, if◌then◌else◌, length, take, drop, take-append-drop, false≢true, get_or, and_parts, and_from, eqb-true, le-leb, leb-true, lt-ltb, IsBuffer, Accepted, Further, further, Fits, alternative_listed, part_listed, signature_listed, slice_get_read, has_part, allows, between, Widens, WidensAt}
use Rattle.std.proofs.Common.{slice_get}
use Rattle.std.proofs.lemmas.Bool.{ltb-true}
use Rattle.std.proofs.lemmas.List.Elements.{All-drop, All-head, All-tail}
use Rattle.std.specs.Prelude.{All, Any}
use Rattle.infer.proofs.CandidateLemmas.{read_has}
use Rattle.infer.proofs.EvidenceLemmas.{buffers_with, same_by_reads}
use Rattle.infer_formats.specs.Markup.{IsOfRoot, DecidesByRoot, DecidesRoot}
use Rattle.infer_formats.specs.declared.markup.Root.{Root}
use Rattle.infer_notation.specs.Alternative as signature
use Rattle.infer_evidence.proofs.ListedLemmas.{all_refused_already}
use Rattle.infer_sig.specs.Places.{StandsByPlace}
use Rattle.infer_sig.specs.Signature as fixed
use Rattle.infer_sig.specs.Signature.{byte, fits, stands, text}
use Rattle.infer_more.specs.Listed.{bytes_listed, pieces_of}
use Rattle.infer_more.specs.Evidence.{IsAlikeAt, IsRootRead, IsSignatureDecided, IsRowDecided, HasBytes, HasPiece, LacksBytes}
use Rattle.infer_more.specs.declared.row_data.Alternative.{Alternative}
use Rattle.infer_more.specs.declared.row_data.Alternative.TheVariants.{BinaryBytes, Bytes, Related}
use Rattle.infer_more.specs.declared.row_data.Bytes as listed
use Rattle.infer_more.specs.declared.deciding_bytes.RootRead.{RootRead}

-- buffers that begin with what tells of a row are accepted alike
alike_with : (o : Option Further) (f v w : List ℕ) → IsBuffer v → IsBuffer w → MatchOption o (Unit {0}) (λ r. IsSignatureDecided r.signature f)
    → MatchOption o (Unit {0}) (λ r. Accepted r.signature (f ++ w) ↔ Accepted r.signature (f ++ v))
alike_with None f v w bytes more told = tt
alike_with (Some r) f v w bytes more told =
    elim told as (λ t. Accepted r.signature (f ++ w) ↔ Accepted r.signature (f ++ v)) [
      | inl stays ↦ (λ h. stays v bytes, λ h. stays w more)
      | inr never ↦ (λ h. absurd (never (w, more, h)), λ h. absurd (never (v, bytes, h)))
    ]

pub front_proves : (i : ℕ) (b c : List ℕ) (n : ℕ) → IsBuffer b → IsBuffer c → n ≤ length b → IsRowDecided i (take n b)
    → ((k : ℕ) → k < n → (k < length c) × (get_or c k 0 ≡ get_or b k 0)) → IsAlikeAt i b c
front_proves i b c n bytes others le told same =
    buffers_with (IsAlikeAt i) b c n bytes others le same (λ v w of more. alike_with (slice_get further i) (take n b) v w of more told)

alike_itself : (o : Option Further) (b : List ℕ) → MatchOption o (Unit {0}) (λ r. Accepted r.signature b ↔ Accepted r.signature b)
alike_itself None b = tt
alike_itself (Some r) b = (λ h. h, λ h. h)

pub same_proves : (i : ℕ) (b c : List ℕ) → c ≡ b → IsAlikeAt i b c
same_proves i b c same = subst (IsAlikeAt i b) (sym same) (alike_itself (slice_get further i) b)

pub whole_proves : (i : ℕ) (b c : List ℕ) → length c ≡ length b → ((k : ℕ) → k < length b → (k < length c) × (get_or c k 0 ≡ get_or b k 0)) → IsAlikeAt i b c
whole_proves i b c long same = same_proves i b c (same_by_reads b c long same)

-- ---- rows that ask for a root element

-- of one alternative more, the root element tells as it does of both
some_true : (p q : Bool) → IsTrue (p || q) ↔ (IsTrue p ⊎ IsTrue q)
some_true true q = (λ h. inl refl, λ h. refl)
some_true false q = (λ h. inr h, λ h. elim h as (λ t. IsTrue q) [ inl p ↦ absurd (false≢true p) | inr q ↦ q ])

pub root_of_either : (root : Option Root) (P Q R : List ℕ → Type 0) (p q : Bool) → ((b : List ℕ) → R b ↔ (P b ⊎ Q b))
    → DecidesByRoot root P p → DecidesByRoot root Q q → DecidesByRoot root R (p || q)
root_of_either root P Q R p q parts (own, first) (other, second) = (
  λ front m n proves ms ns h. (parts (front ++ n)).1 (elim ((parts (front ++ m)).0 h) as (λ t. P (front ++ n) ⊎ Q (front ++ n)) [
    | inl x ↦ inl (own front m n proves ms ns x)
    | inr y ↦ inr (other front m n proves ms ns y)
  ]),
  λ b is. let tests = some_true p q in (
    λ told. (parts b).1 (elim (tests.0 told) as (λ t. P b ⊎ Q b) [ inl x ↦ inl ((first b is).0 x) | inr y ↦ inr ((second b is).0 y) ]),
    λ h. tests.1 (elim ((parts b).0 h) as (λ t. IsTrue p ⊎ IsTrue q) [ inl x ↦ inl ((first b is).1 x) | inr y ↦ inr ((second b is).1 y) ]),
  ),
)

pub root_of_same : (root : Option Root) (P R : List ℕ → Type 0) (told : Bool) → ((b : List ℕ) → R b ↔ P b) → DecidesByRoot root P told → DecidesByRoot root R told
root_of_same root P R told same (own, answer) = (
  λ front m n proves ms ns h. (same (front ++ n)).1 (own front m n proves ms ns ((same (front ++ m)).0 h)),
  λ b is. (λ t. (same b).1 ((answer b is).0 t), λ h. (answer b is).1 ((same b).0 h)),
)

pub root_of_none : (root : Option Root) → DecidesByRoot root (λ b. ⊥) false
root_of_none root = (λ front m n proves ms ns h. h, λ b is. (λ no. absurd (false≢true no), λ h. absurd h))

-- so a front that tells it tells of the row
root_told : (xs : List signature.Alternative) (b : List ℕ) (n : ℕ) (accepts : Bool) → IsBuffer b → IsOfRoot (Accepted xs) → DecidesRoot (take n b)
    → IsTrue accepts ↔ Accepted xs b → IsSignatureDecided xs (take n b)
root_told xs b n true bytes of proves answer =
    inl (λ more ms. of (take n b) (drop n b) more proves (All-drop (λ x. x < 256) n b bytes) ms (subst (Accepted xs) (sym (take-append-drop n b)) (answer.0 refl)))
root_told xs b n false bytes of proves answer =
    inr (λ (more, ms, h). false≢true (answer.1 (subst (Accepted xs) (take-append-drop n b)
    (of (take n b) more (drop n b) proves ms (All-drop (λ x. x < 256) n b bytes) h))))

pub root_told_at : (i : ℕ) (r : Further) (read : RootRead) (b : List ℕ) (accepts : Bool) → slice_get further i ≡ Some r → IsBuffer b → IsRootRead read b
    → DecidesByRoot read.root (Accepted r.signature) accepts → IfSome read.front (λ n. (n ≤ length b) × IsRowDecided i (take n b))
root_told_at i r read b accepts e bytes (is, front) (of, answer) = within read.front front
  where
    within : (o : Option ℕ) → IfSome o (λ n. (n ≤ length b) × DecidesRoot (take n b)) → IfSome o (λ n. (n ≤ length b) × IsRowDecided i (take n b))
    within None f = tt
    within (Some n) (le, proves) =
        (le, subst (λ o. MatchOption o (Unit {0}) (λ r. IsSignatureDecided r.signature (take n b))) (sym e) (root_told r.signature b n accepts bytes of proves (answer b is)))

-- with what it means that a text stands somewhere
module _ (by_place : (place : ℕ) (t b : List ℕ) → IsTrue (stands place t b) ↔ StandsByPlace place t b) (b : List ℕ) where
  -- a byte of a set, and one of a range, which may be one byte
  byte_told : (place : ℕ) (set : fixed.Bytes) → IsTrue (has_part b (byte place set)) ↔ ((place < length b) × IsTrue (allows set (get_or b place 0)))
  byte_told place set = (
    λ h. let both = and_parts _ _ h in (ltb-true place (length b) both.0, both.1),
    λ has. and_from _ _ (lt-ltb place (length b) has.0) has.1,
  )

  one_byte : (place low : ℕ) → place < length b → get_or b place 0 ≡ low → (k : ℕ) → k < 1
      → (place + k < length b) × (get_or b (place + k) 0 ≡ get_or (low ∷ []) k 0)
  one_byte place low lt value zero less = let at : place + zero ≡ place = omega arith in (omega arith, ap (λ j. get_or b j 0) at ∙ value)
  one_byte place low lt value (suc k) less = absurd (omega arith)

  range_told : (place low high : ℕ) (t : Bool) → (low == high) ≡ t
      → IsTrue (has_part b (if t then text place (low ∷ []) else byte place (between low high))) ↔ ((place < length b) × IsTrue (allows (between low high) (get_or b place 0)))
  range_told place low high false e = byte_told place (between low high)
  range_told place low high true e =
      let same : low ≡ high = eqb-true low high e in
      let told = by_place place (low ∷ []) b in (
        λ h. let here = told.0 h 0 (omega arith) in
            let at : place + 0 ≡ place = omega arith in
            let value : get_or b place 0 ≡ low = sym (ap (λ k. get_or b k 0) at) ∙ here.1 in
            (let within = here.0 in omega arith, and_from _ _ (le-leb low (get_or b place 0) (omega arith)) (le-leb (get_or b place 0) high (omega arith))),
        λ has. let both = and_parts _ _ has.1 in
            let least : low ≤ get_or b place 0 = leb-true _ _ both.0 in
            let most : get_or b place 0 ≤ high = leb-true _ _ both.1 in
            let value : get_or b place 0 ≡ low = omega arith in
            told.1 (λ k lt. one_byte place low has.0 value k lt),
      )

  pub bytes_told : (a : listed.Bytes) → IsTrue (fits b (bytes_listed a)) ↔ HasBytes b a
  bytes_told a =
      let pieces = all_refused_already (has_part b) part_listed (λ p. HasPiece p b) (λ p. (λ h. h, λ h. h)) (pieces_of a) in (
        λ h. let both = and_parts _ _ h in (leb-true a.least (length b) both.0, pieces.0 both.1),
        λ has. and_from _ _ (le-leb a.least (length b) has.0) (pieces.1 has.1),
      )

  lacks_one : (a : Alternative) → LacksBytes b a → ¬ Fits (alternative_listed a) b
  lacks_one (Bytes a) lacks h = lacks ((bytes_told a).0 h)
  lacks_one (BinaryBytes a) lacks h = lacks
  lacks_one (Related r) lacks h = lacks

  -- a buffer that lacks the bytes of each alternative is not accepted, and one that has those of some alternative is
  pub lacks_all : (xs : List Alternative) → All (LacksBytes b) xs → ¬ Accepted (signature_listed xs) b
  lacks_all [] all h = h
  lacks_all (x ∷ xs) all h = elim h [
    | inl here ↦ lacks_one x (All-head (LacksBytes b) x xs all) here
    | inr later ↦ lacks_all xs (All-tail (LacksBytes b) x xs all) later
  ]

  accepted_at : (xs : List Alternative) (k : ℕ) → MatchOption (slice_get xs k) ⊥ (λ a. Fits (alternative_listed a) b) → Accepted (signature_listed xs) b
  accepted_at [] k h = absurd (h)
  accepted_at (x ∷ xs) zero h = inl h
  accepted_at (x ∷ xs) (suc k) h = inr (accepted_at xs k h)

  pub has_some : (xs : List Alternative) (a : listed.Bytes) → Any (λ x. x ≡ Bytes a) xs → HasBytes b a → Accepted (signature_listed xs) b
  has_some xs a found has =
      let is : slice_get xs found.0 ≡ Some found.1 = slice_get_read xs (length xs) found.0 found.1 refl found.2 (sym found.3) in
      accepted_at xs found.0 (subst (λ o. MatchOption o ⊥ (λ x. Fits (alternative_listed x) b)) (sym is)
      (subst (λ x. Fits (alternative_listed x) b) (sym found.4) ((bytes_told a).1 has)))

-- of the row with that number
pub alike_at : (i : ℕ) (r : Further) (b c : List ℕ) → slice_get further i ≡ Some r → Accepted r.signature c ↔ Accepted r.signature b → IsAlikeAt i b c
alike_at i r b c e same = subst (λ o. MatchOption o (Unit {0}) (λ r. Accepted r.signature c ↔ Accepted r.signature b)) (sym e) same

-- what a row's number says of the row that is there
module _ (parent : Option ℕ) (i : ℕ) where
  widens_read : (o : Option Further) → slice_get further i ≡ o → (b : List ℕ) → WidensAt parent b i ↔ MatchOption o ⊥ (Widens parent b)
  widens_read o e b =
      let read = read_has (Widens parent b) further i in
      (λ w. subst (λ p. MatchOption p ⊥ (Widens parent b)) e (read.1 w), λ h. read.0 (subst (λ p. MatchOption p ⊥ (Widens parent b)) (sym e) h))

  alike_of : (o : Option Further) (b c : List ℕ) → MatchOption o (Unit {0}) (λ r. Accepted r.signature c ↔ Accepted r.signature b)
      → MatchOption o ⊥ (Widens parent c) ↔ MatchOption o ⊥ (Widens parent b)
  alike_of None b c same = (λ h. h, λ h. h)
  alike_of (Some r) b c same = (λ w. (w.0, same.0 w.1), λ w. (w.0, same.1 w.1))

  -- what is accepted alike widens alike
  pub widens_alike : (b c : List ℕ) → IsAlikeAt i b c → WidensAt parent c i ↔ WidensAt parent b i
  widens_alike b c same =
      let there = widens_read (slice_get further i) refl c in
      let here = widens_read (slice_get further i) refl b in
      let alike = alike_of (slice_get further i) b c same in
      (λ w. here.1 (alike.0 (there.0 w)), λ w. there.1 (alike.1 (here.0 w)))

  -- a row with this parent widens what it accepts, one with another widens nothing, and so does no row
  pub widens_accepted : (r : Further) → slice_get further i ≡ Some r → r.parent ≡ parent → (b : List ℕ) → Accepted r.signature b ↔ WidensAt parent b i
  widens_accepted r e own b = let read = widens_read (Some r) e b in (λ h. read.1 (own, h), λ w. (read.0 w).1)

  pub other_parent : (r : Further) → slice_get further i ≡ Some r → ¬ (r.parent ≡ parent) → (b : List ℕ) → ¬ WidensAt parent b i
  other_parent r e other b w = other ((widens_read (Some r) e b).0 w).0

  pub no_row : slice_get further i ≡ None → (b : List ℕ) → ¬ WidensAt parent b i
  no_row e b w = (widens_read None e b).0 w

-- what never holds does so alike
pub never_alike : {P Q : Type 0} → ¬ P → ¬ Q → P ↔ Q
never_alike p q = (λ h. absurd (p h), λ h. absurd (q h))
