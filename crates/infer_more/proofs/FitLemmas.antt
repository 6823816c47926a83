-- What a computation says of whether a buffer fits an alternative: that it does, as the sample of one does, by places that
-- are tried; or that it does not, by its outline.
use Rattle.infer_more.proofs.Common.{IsTrue, List, [], ◌∷◌, ℕ, ◌&&◌, not, accepts, fits, Known, both, either, refuted, refuted_if, ByPlace, not_both, is_plain, lines, Accepted, Fits, binary_bytes, bytes, related, ◌>>◌}
use Rattle.infer_formats.specs.Laws as Inside
use Rattle.infer_formats.proofs.RelationLemmas.{known_relation}
use Rattle.infer_formats.proofs.TextLemmas.{known_binary}
use Rattle.infer_notation.specs.Alternative.{Alternative}
use Rattle.infer_sig.proofs.KnownLemmas.{is}
use Rattle.infer_more.proofs.IndexLemmas as test
use Rattle.infer_more.proofs.OutlineLemmas.{has_lines}

module _ (by_place : ByPlace) (inside : Inside.Leads) (single : Inside.Single) (b : List ℕ) where
  abbrev fitting : (a : Alternative) → Known (Fits a b)
  fitting (bytes a) = is (fits b a)
  fitting (binary_bytes a) = both (is (fits b a)) (known_binary b)
  fitting (related r) = known_relation by_place inside single b r

  -- it lacks the bytes of the outline
  pub outside : (a : Alternative) → IsTrue (not (is_plain a) && not (accepts (lines a) b)) → ¬ Fits a b
  outside a e h =
      let lasting = test.both_left (not (is_plain a)) _ e in
      not_both _ (has_lines inside b a (λ plain. absurd (not_both (is_plain a) plain lasting)) h) (test.both_right (not (is_plain a)) _ e)

  abbrev pub known_fit : (a : Alternative) → Known (Fits a b)
  known_fit a = do
    refuted_if (not (is_plain a) && not (accepts (lines a) b)) (outside a)
    fitting a

  abbrev pub known_accepted : (signature : List Alternative) → Known (Accepted signature b)
  known_accepted [] = refuted (λ h. h)
  known_accepted (a ∷ others) = either (known_fit a) (known_accepted others)
