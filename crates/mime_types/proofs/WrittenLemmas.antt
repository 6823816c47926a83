-- What segments write, one after the other.
use mir.Val.{bool_byte}
use Rattle.std.proofs.Common.{◌≡◌, ◌∙◌, ◌++◌, ◌||◌, ◌∷◌, [], ℕ, zero, suc, ◌+◌, ◌-◌, ◌<◌, ◌≤◌, List, Bool, Option, None, Some, true, ap, append_assoc, arith, is_some, length, option_map, option_to_list, refl, sym}
use Rattle.std.proofs.lemmas.List.{append-nil}
use Rattle.std.proofs.lemmas.List.Folds.{list_any-append}
use Rattle.std.specs.List.{list_any}
use Rattle.mime_types.specs.Mime.{Parameter}
use Rattle.mime_types.specs.Segment.{left_by, segment, segment_of, stands, written, written_by}
use Rattle.mime_types.specs.Seen.{parameter_seen, standing_seen}
use Rattle.mime_types.specs.declared.parameter.Parameter as view
use Rattle.mime_types.specs.declared.segment.Segment.{Segment}
use Rattle.mime_types.proofs.SegmentLemmas.{leaves_less, segment_is}

abbrev pub first_of : List ℕ → List Parameter
first_of s = option_to_list (segment s).written

pub none_written : (s : List ℕ) → written_by 0 s ≡ []
unfolding written_by
none_written s = refl

pub all_left : (s : List ℕ) → left_by 0 s ≡ s
unfolding left_by
all_left s = refl

-- the first n segments, and those after them
pub written_split : (n m k : ℕ) (s : List ℕ) → n + m ≡ k → written_by k s ≡ written_by n s ++ written_by m (left_by n s)
unfolding written_by left_by
written_split zero m k s e = let same : k ≡ m = omega arith in ap (λ i. written_by i s) same
written_split (suc n) m zero s e = absurd (omega arith)
written_split (suc n) m (suc k) s e =
    ap (λ ps. first_of s ++ ps) (written_split n m k (segment s).rest (omega arith))
    ∙ sym (append_assoc (first_of s) (written_by n (segment s).rest) (written_by m (left_by n (segment s).rest)))

one_written : (s : List ℕ) → written_by 1 s ≡ first_of s
unfolding written_by
one_written s = append-nil (first_of s)

pub written_more : (n : ℕ) (s : List ℕ) → written_by (n + 1) s ≡ written_by n s ++ first_of (left_by n s)
written_more n s = written_split n 1 (n + 1) s refl ∙ ap (λ ps. written_by n s ++ ps) (one_written (left_by n s))

left_next : (n k : ℕ) (s : List ℕ) → n + 1 ≡ k → left_by k s ≡ (segment (left_by n s)).rest
unfolding left_by
left_next zero k s e = let same : k ≡ 1 = omega arith in ap (λ i. left_by i s) same
left_next (suc n) zero s e = absurd (omega arith)
left_next (suc n) (suc k) s e = left_next n k (segment s).rest (omega arith)

pub left_more : (n : ℕ) (s : List ℕ) → left_by (n + 1) s ≡ (segment (left_by n s)).rest
left_more n s = left_next n (n + 1) s refl

-- an empty text has segments that write nothing
nothing : (n : ℕ) → written_by n [] ≡ []
unfolding written_by segment stands
nothing zero = refl
nothing (suc n) = nothing n

-- more segments than bytes write no more
enough : (n m : ℕ) (s : List ℕ) → length s ≤ n → length s ≤ m → written_by n s ≡ written_by m s
unfolding written_by
enough n m [] low high = nothing n ∙ sym (nothing m)
enough zero m (x ∷ s) low high = absurd (omega arith)
enough (suc n) zero (x ∷ s) low high = absurd (omega arith)
enough (suc n) (suc m) (x ∷ s) low high =
    let less = leaves_less (x ∷ s) (omega arith) in
    ap (λ ps. first_of (x ∷ s) ++ ps) (enough n m (segment (x ∷ s)).rest (omega arith) (omega arith))

written_suc : (n : ℕ) (s : List ℕ) → written_by (suc n) s ≡ first_of s ++ written_by n (segment s).rest
unfolding written_by
written_suc n s = refl

-- what all segments write is what the first writes, and then what those after it do
pub written_first : (s : List ℕ) → 0 < length s → written s ≡ first_of s ++ written (segment s).rest
written_first s some =
    let n = length s - 1 in
    let whole : length s ≡ suc n = omega arith in
    let less = leaves_less s some in
    ap (λ k. written_by k s) whole
    ∙ (written_suc n s ∙ ap (λ ps. first_of s ++ ps) (enough n (length (segment s).rest) (segment s).rest (omega arith) (omega arith)))

-- no segment of an empty text writes anything
pub none_left : (s : List ℕ) → length s ≡ 0 → written s ≡ []
none_left s none = ap (λ n. written_by n s) none ∙ none_written s

-- what one of the first segments passes, some of them passes
pub passes_more : (test : Parameter → Bool) (n k : ℕ) (s : List ℕ) → n ≤ k → list_any test (written_by n s) ≡ true
    → list_any test (written_by k s) ≡ true
passes_more test n k s within passes =
    ap (list_any test) (written_split n (k - n) k s (omega arith))
    ∙ (list_any-append test (written_by n s) (written_by (k - n) (left_by n s))
    ∙ ap (λ b. b || list_any test (written_by (k - n) (left_by n s))) passes)

-- after n segments the next one writes o and leaves r
module _ (n : ℕ) (s rest : List ℕ) (o : Option Parameter) (r : List ℕ) (here : rest ≡ left_by n s) (is : segment_of o r ≡ segment rest) where
  there : segment_of o r ≡ segment (left_by n s)
  there = is ∙ ap segment here

  pub next_left : left_by (n + 1) s ≡ r
  next_left = left_more n s ∙ ap (λ g. g.rest) (sym there)

  pub next_written : written_by (n + 1) s ≡ written_by n s ++ option_to_list o
  next_written = written_more n s ∙ ap (λ g. written_by n s ++ option_to_list g.written) (sym there)

  pub next_test : (test : Parameter → Bool) → list_any test (written_by (n + 1) s) ≡ (list_any test (written_by n s) || list_any test (option_to_list o))
  next_test test = ap (list_any test) next_written ∙ list_any-append test (written_by n s) (option_to_list o)

-- what the first segment writes, and what is left after it
pub first_written : (s : List ℕ) (o : Option Parameter) (r : List ℕ) → segment_of o r ≡ segment s → 0 < length s → written s ≡ option_to_list o ++ written r
first_written s o r is some = written_first s some ∙ ap (λ g. option_to_list g.written ++ written g.rest) (sym is)

pub first_leaves : (s : List ℕ) (o : Option Parameter) (r : List ℕ) → segment_of o r ≡ segment s → 0 < length s → length r < length s
first_leaves s o r is some = let less = leaves_less s some in let same : r ≡ (segment s).rest = ap (λ g. g.rest) is in omega (arith, ap length same)

counted : (o : Option view.Parameter) (ps : List Parameter) → length (option_to_list (option_map parameter_seen o) ++ ps) ≡ bool_byte (is_some o) + length ps
counted None ps = omega arith
counted (Some p) ps = omega arith

-- the first segment writes one or none of those that are written
pub first_counts : (v : Segment) (s : List ℕ) → standing_seen v ≡ stands s → 0 < length s → length (written s) ≡ bool_byte (is_some v.written) + length (written v.rest.now)
first_counts v s is some =
    ap length (first_written s (option_map parameter_seen v.written) v.rest.now (segment_is v s is) some) ∙ counted v.written (written v.rest.now)
