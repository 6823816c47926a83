-- Each built-in row but two is first for its sample.
use Rattle.infer.proofs.Common.{◌≡◌, ◌<◌, ◌≤◌, ◌+◌, ◌-◌, ◌++◌, ◌⊎◌, ℕ, List, Some, map, get_or, length, sym, ap, drop, take, refl, subst, ◌∙◌, arith, HoldsAt, length-map, length-take, leb-true, list_all, IsTrue, take_at, le16, le32, be32, stands, BuiltIn, IsFirst, Row, Accepts, HoldsSample, put, sample_of, zeros, table, DLL, EPUB_ARCHIVE, ROW_COUNT}
use Rattle.std.proofs.lemmas.List.{drop-replicate, get_or-map}
use Rattle.infer.specs.declared.samples.TheConstants.{SAMPLE_SIZE}
use Rattle.infer_deep.specs.Laws as Deep
use Rattle.infer_evidence.specs.declared.spans.Span.{Span}
use Rattle.infer.specs.Listed.{is_short, sample_at}
use Rattle.std.proofs.lemmas.List.Sums.{AllPass-from_list_all}
use Rattle.infer_sig.proofs.KnownLemmas.{Known, same, either, each_known}
use Rattle.infer.proofs.OrderLemmas.{known_first, some_row}
use Rattle.infer_sig.proofs.OccurrenceLemmas.{ByPlace}
use Rattle.infer.proofs.TableLemmas.{length-table}

module _ (by_place : ByPlace) (exclude : Deep.Apart) (d : Row BuiltIn) where
  -- the row is one of the two, or the first for its sample
  abbrev reaches : (i : ℕ) → Known ((i ≡ DLL) ⊎ (i ≡ EPUB_ARCHIVE) ⊎ IsFirst (Accepts (sample_of (get_or table i d).signature)) table i)
  reaches i = either (same i DLL) (either (same i EPUB_ARCHIVE) (known_first by_place exclude d (Some i) (sample_of (get_or table i d).signature)))

  pub all_reach : (i : ℕ) → i < ROW_COUNT → (i ≡ DLL) ⊎ (i ≡ EPUB_ARCHIVE) ⊎ IsFirst (Accepts (sample_of (get_or table i d).signature)) table i
  unfolding table stands le16 le32 be32
  all_reach = each_known reaches ROW_COUNT 8 (refl, (refl, (refl, (refl, (refl, (refl, (refl, (refl, tt)))))))) (omega arith)

-- ---- the samples of the code

-- two lists that a function each maps to one have as many elements, and the functions agree at each place
agree_at : {A B C : Type 0} (f : A → C) (g : B → C) (xs : List A) (ys : List B) → map f xs ≡ map g ys
    → (i : ℕ) (a : A) (b : B) → i < length ys → f (get_or xs i a) ≡ g (get_or ys i b)
agree_at f g xs ys e i a b lt = grind (arith, get_or-map f xs i a (f a), length-map xs f, length-map ys g, get_or-map g ys i b (f a) lt)

pub spans_hold : (text : List ℕ) (xs : List Span) → map (sample_at text) xs ≡ map (λ r. sample_of r.signature) table → (i : ℕ) → i < ROW_COUNT
    → (s : Span) → HoldsAt (λ r. sample_at text (get_or xs i s) ≡ sample_of r.signature) table i
spans_hold text xs same i lt s d = grind (arith, length-table, agree_at)

pub spans_fit : (text : List ℕ) (xs : List Span) → map (sample_at text) xs ≡ map (λ r. sample_of r.signature) table → IsTrue (list_all is_short xs)
    → (i : ℕ) → i < ROW_COUNT → (s : Span) → length (sample_at text (get_or xs i s)) ≤ SAMPLE_SIZE
spans_fit text xs is short i lt s =
    let many : length xs ≡ ROW_COUNT = sym (length-map xs (sample_at text)) ∙ (ap length is ∙ (length-map table (λ r. sample_of r.signature) ∙ length-table)) in
    let here = leb-true _ _ (AllPass-from_list_all is_short xs short i s (omega (arith, many, lt))) in
    grind (arith, here, length-take)

pub sample_holds : (i : ℕ) (text : List ℕ) → HoldsAt (λ r. text ≡ sample_of r.signature) table i → HoldsAt (HoldsSample (length text) (put 0 text (zeros SAMPLE_SIZE))) table i
sample_holds i text is d =
    let left : drop (0 + length text) (zeros SAMPLE_SIZE) ≡ zeros (SAMPLE_SIZE - length text) = drop-replicate (0 + length text) SAMPLE_SIZE 0 ∙ ap zeros (omega arith) in
    (ap length (is d), ap (λ rest. text ++ rest) left ∙ ap (λ t. t ++ zeros (SAMPLE_SIZE - length text)) (is d))

-- the front of what is written is the sample
pub written_first : (i n : ℕ) (buf : List ℕ) → i < ROW_COUNT → HoldsAt (HoldsSample n buf) table i
    → HoldsAt (λ r. IsFirst (Accepts (sample_of r.signature)) table i) table i → IsFirst (Accepts (take n buf)) table i
written_first i n buf lt holds first =
    let h = holds some_row in
    let s = sample_of (get_or table i some_row).signature in
    let front : take n buf ≡ s = ap (take n) h.1 ∙ take_at s (zeros (SAMPLE_SIZE - n)) n (sym h.0) in
    subst (λ b. IsFirst (Accepts b) table i) (sym front) (first some_row)
