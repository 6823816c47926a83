-- What a computation says of the root element of markup.
use Rattle.infer_formats.proofs.Common.{[], ◌+◌, ◌-◌, ◌<◌, ◌==◌, ◌&&◌, ◌||◌, ◌∷◌, ◌≡◌, ◌⊎◌, ℕ, Bool, IsTrue, List, None, and_parts, arith, codes, drop, inl, inr, length, nat_tests, not, refl, slice_index, slice_range, subst, suc, sym, true, zero, if◌then◌else◌, OccursAt, BeginsElement, HasRoot, HasRootWith, IsEnclosed, IsNameByte, IsRootElement, IsXmlSpace, ReachesTag, StartsTag, utf8_mark}
use Rattle.std.proofs.Common.{◌≢◌}
use Rattle.std.specs.List.{list_any}
use Rattle.std.proofs.lemmas.Bool.{or_cases}
use Rattle.infer_formats.specs.Laws.{Leads, Single, StartsElement}
use Rattle.infer_formats.specs.Markup.{here, later}
use Rattle.infer_formats.proofs.LetterLemmas.{Letters, is_sign, letters, letters_from}
use Rattle.infer_formats.proofs.TestLemmas.{neither}
use Rattle.infer_sig.proofs.KnownLemmas.{Known, at_most, either, is, needs, negated, proved, proved_if, refuted_if, same, same_text, takes, ◌>>=◌, ◌>>◌}
use Rattle.infer_sig.proofs.OccurrenceLemmas.{ByPlace, lacked, lacks, nowhere_from, occurs}

abbrev next : List ℕ → ℕ
next [] = 0
next (x ∷ b) = x

abbrev starts_none : List ℕ → Bool
starts_none [] = true
starts_none (x ∷ b) = not (x == 0x3C && not (next b == 0x21 || next b == 0x3F)) && starts_none b

next_read : (b : List ℕ) → next b ≡ slice_index b 0
next_read [] = refl
next_read (x ∷ b) = refl

pub no_element : (b : List ℕ) → IsTrue (starts_none b) → ¬ StartsElement b
no_element [] h (k, e, begins) = omega arith
no_element (x ∷ b) h (zero, e, begins) = let same = next_read b in let none = (and_parts (not (x == 0x3C && not (next b == 0x21 || next b == 0x3F))) _ h).0 in grind (arith, nat_tests)
no_element (x ∷ b) h (suc k, e, begins) = no_element b ((and_parts (not (x == 0x3C && not (next b == 0x21 || next b == 0x3F))) _ h).1) (k, e, (let same : suc k + 1 ≡ suc (k + 1) = omega arith in subst (λ i. BeginsElement (slice_index (x ∷ b) i)) same begins))

abbrev has_mark : List ℕ → Bool
has_mark b = next b == 0xEF

no_mark : (b : List ℕ) → IsTrue (not (has_mark b)) → slice_index b (0 + 0) ≢ 0xEF
no_mark b h e = let same = next_read b in grind (arith, nat_tests)

abbrev is_space : ℕ → Bool
is_space x = x == 0x09 || (x == 0x0A || (x == 0x0D || x == 0x20))

-- the first byte that is no white space is not "<"
abbrev starts_other : List ℕ → Bool
starts_other [] = true
starts_other (x ∷ b) = not (x == 0x3C) && (not (is_space x) || starts_other b)

not_after_space : (b : List ℕ) → IsTrue (starts_other b) → (k : ℕ) → ((j : ℕ) → j < k → IsXmlSpace (slice_index b j)) → slice_index b k ≢ 0x3C
not_after_space [] h k spaces e = omega arith
not_after_space (x ∷ b) h zero spaces e = let none = (and_parts (not (x == 0x3C)) _ h).0 in grind (arith, nat_tests)
not_after_space (x ∷ b) h (suc k) spaces e = elim (or_cases (not (is_space x)) _ ((and_parts (not (x == 0x3C)) _ h).1)) [
  | inl dark ↦ let space = spaces 0 (omega arith) in grind (arith, nat_tests)
  | inr rest ↦ not_after_space b rest k (λ j lt. spaces (suc j) (omega arith)) e
]

-- a name can have such signs
name_sign : (x : ℕ) → IsTrue (is_sign x) → IsNameByte x
name_sign x h = (λ space. grind (arith, nat_tests), λ e. grind (arith, nat_tests), λ e. grind (arith, nat_tests))

-- no ">" stands there
pub unclosed : (t : List ℕ) → IsTrue (not (list_any (λ x. x == 0x3E) t)) → (k : ℕ) → slice_index t k ≢ 0x3E
unclosed [] h k e = omega arith
unclosed (x ∷ t) h zero e = let none = (neither (x == 0x3E) (list_any (λ y. y == 0x3E) t) h).0 in grind (arith, nat_tests)
unclosed (x ∷ t) h (suc k) e = unclosed t (neither (x == 0x3E) (list_any (λ y. y == 0x3E) t) h).1 k e

-- where the first ">" ends
abbrev closed : List ℕ → ℕ
closed [] = 0
closed (x ∷ b) = if x == 0x3E then 1 else suc (closed b)

module _ (by_place : ByPlace) (inside : Leads) (single : Single) (b : List ℕ) where
  pub no_root : (name : List ℕ) → IsTrue (starts_none b || (starts_other b && not (has_mark b))) → ¬ HasRoot name b
  no_root name h is = elim (or_cases (starts_none b) _ h) [
    | inl none ↦ no_element b none (inside.element name b is)
    | inr other ↦ elim (inside.root name b is) [
      | inl mark ↦ let first = mark.reads 0 (omega arith) in no_mark b ((and_parts (starts_other b) _ other).1) first
      | inr (k, low, spaces, starts) ↦ not_after_space b ((and_parts (starts_other b) _ other).0) k (λ j lt. spaces j (omega arith) lt) starts
    ]
  ]

  -- an instruction or a comment stands first
  abbrev enclosed : (opening closing : List ℕ) (q : ℕ) → Known (IsEnclosed b opening closing 0 q)
  enclosed opening closing q = do
    starts ← takes (occurs by_place opening b 0)
    stands ← takes (occurs by_place closing b (q - length closing))
    low ← takes (at_most (length opening) (q - length closing))
    none ← takes (is (lacks (length opening) (q - length closing) closing b))
    long ← takes (at_most (length closing) q)
    proved (
      starts,
      (
        q - length closing,
        record {
          here = record { stands = stands; low = omega arith; high = stands.fits };
          before = λ r lt w. let from = w.low in lacked by_place closing b (length opening) (q - length closing) r (omega arith) lt none w.stands;
        },
        omega arith,
      ),
    )

  abbrev prolog_to : (p : ℕ) → Known ((p ≡ 0) ⊎ (IsEnclosed b (codes "<?") (codes "?>") 0 p ⊎ IsEnclosed b (codes "<!--") (codes "-->") 0 p))
  prolog_to p = either (same p 0) (either (enclosed (codes "<?") (codes "?>") p) (enclosed (codes "<!--") (codes "-->") p))

  -- after it signs name a root element
  pub is_root : (p to : ℕ) → ¬ OccursAt b utf8_mark 0 → (p ≡ 0) ⊎ (IsEnclosed b (codes "<?") (codes "?>") 0 p ⊎ IsEnclosed b (codes "<!--") (codes "-->") 0 p)
      → slice_index b p ≡ 0x3C → Letters is_sign b (p + 1) to → p + 1 < to → to < length b → (slice_index b to ≡ 0x3E) ⊎ (slice_index b to ≡ 0x20)
      → IsRootElement (slice_range b (p + 1) to) (drop to b) b
  is_root p to unmarked prolog starts letters some whole ends =
      let first = letters (p + 1) (omega arith) some in
      let tag : StartsTag b (p + 1) to p None = record {
        starts = starts;
        name = record {
          order = omega arith;
          bytes = λ k low high. name_sign (slice_index b k) (letters k low high);
          whole = whole;
          ends = λ is. elim ends [ inl e ↦ is.1 e | inr e ↦ is.0 (inr (inr (inr e))) ];
        };
        begins = (λ e. grind (arith, nat_tests), λ e. grind (arith, nat_tests));
        local = record {
          low = omega arith;
          high = omega arith;
          begins = λ lt. absurd (omega arith);
          last = λ k low high e. let letter = letters k low high in grind (arith, nat_tests);
        };
        some = some;
        agrees = tt;
      } in
      let leads : ReachesTag b (p + 1) to 0 None = elim prolog [
        | inl e ↦ subst (λ q. ReachesTag b (p + 1) to q None) e (here p None tag)
        | inr part ↦ later 0 None p None (inl (inr part, refl)) (here p None tag)
      ] in
      (0, p + 1, to, inr (unmarked, refl), leads, refl, refl)

  -- where the root's tag starts: after the ">" of an instruction or a comment, or at 0
  abbrev opening : ℕ
  opening = if slice_index b 1 == 0x21 || slice_index b 1 == 0x3F then closed b else 0

  -- and where its name ends
  abbrev name_end : ℕ
  name_end = opening + 1 + letters is_sign (drop (opening + 1) b)

  abbrev own_root : Known (IsRootElement (slice_range b (opening + 1) name_end) (drop name_end b) b)
  own_root = do
    unmarked ← takes (negated (occurs by_place utf8_mark b 0))
    prolog ← takes (prolog_to opening)
    starts ← takes (same (slice_index b opening) 0x3C)
    some ← takes (at_most (opening + 2) name_end)
    whole ← takes (at_most (suc name_end) (length b))
    ends ← takes (either (same (slice_index b name_end) 0x3E) (same (slice_index b name_end) 0x20))
    proved (is_root opening name_end unmarked prolog starts (letters_from is_sign b (opening + 1)) (omega arith) (omega arith) ends)

  -- whether the root has the name
  abbrev rooted_so : (name : List ℕ) → Known (IsRootElement name (drop name_end b) b)
  rooted_so name = do
    own ← takes own_root
    equal ← needs (same_text name (slice_range b (opening + 1) name_end)) (λ is. (single.root b name (drop name_end b) (slice_range b (opening + 1) name_end) (drop name_end b) is own).0)
    proved (subst (λ n. IsRootElement n (drop name_end b) b) (sym equal) own)

  abbrev root_named : (name : List ℕ) → Known (HasRoot name b)
  root_named name = do
    own ← takes own_root
    named ← needs (rooted_so name) (λ h. let equal = single.root b name h.0 (slice_range b (opening + 1) name_end) (drop name_end b) h.1 own in subst (λ r. IsRootElement name r b) equal.1 h.1)
    proved (drop name_end b, named)

  -- the text stands right after the name, or nowhere after it
  abbrev somewhere_after : (t : List ℕ) → Known ((k : ℕ) × OccursAt (drop name_end b) t k)
  somewhere_after t = elim (occurs by_place t (drop name_end b) 1) [
    | proved o ↦ proved (1, o)
    | other ↦ refuted_if (lacks 0 (suc (length (drop name_end b))) t (drop name_end b)) (λ none. λ (q, o). nowhere_from by_place t (drop name_end b) 0 q (omega arith) none o)
  ]

  pub after_name : (name t : List ℕ) → IsRootElement name (drop name_end b) b → HasRootWith name t b → (k : ℕ) × OccursAt (drop name_end b) t k
  after_name name t own (rest, element, (k, stands, clear)) =
      let equal = single.root b name rest name (drop name_end b) element own in
      (k, subst (λ r. OccursAt r t k) equal.1 stands)

  abbrev root_named_with : (name t : List ℕ) → Known (HasRootWith name t b)
  root_named_with name t = do
    rooted ← needs (root_named name) (inside.root_with name t b)
    own ← takes (rooted_so name)
    stands ← needs (somewhere_after t) (λ h. after_name name t own h)
    clear ← takes (proved_if (not (list_any (λ x. x == 0x3E) (drop name_end b))) (unclosed (drop name_end b)))
    proved (drop name_end b, own, (stands.0, stands.1, λ k lt. clear k))

  abbrev pub known_root : (name : List ℕ) → Known (HasRoot name b)
  known_root name = do
    refuted_if (starts_none b || (starts_other b && not (has_mark b))) (no_root name)
    root_named name

  abbrev pub known_root_with : (name t : List ℕ) → Known (HasRootWith name t b)
  known_root_with name t = do
    refuted_if (starts_none b || (starts_other b && not (has_mark b))) (λ none h. no_root name none (inside.root_with name t b h))
    root_named_with name t
