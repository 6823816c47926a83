-- What a text leaves open.
use Rattle.infer_evidence.proofs.Common.{◌≡◌, ◌-◌, ℕ, Bool, List, None, Some, IsTrue, Differs, arith, refl, not}
use Rattle.std.specs.Prelude.{IfSome, Option}
use Rattle.std.specs.Option.{is_some}
use Rattle.infer_deep.specs.Open.{AgreesAt}
use Rattle.infer_sig.specs.Open.{agrees}
use Rattle.infer_sig.proofs.OpenLemmas.{agrees_by_place}

module _ (place : ℕ) (t b : List ℕ) where
  differing : (k : ℕ) → Differs place t b k → ¬ AgreesAt b t place
  differing k d a = let same = a.reads (k - place) in let low = d.low in let high = d.high in let here = d.here in let other = d.other in grind (arith, same, low, high, here, other)

  -- as much of a text as there is room for stands there just if no place differs
  pub agrees_without : (o : Option ℕ) (r : Bool) → is_some o ≡ not r → IfSome o (Differs place t b) → (o ≡ None → AgreesAt b t place) → r ≡ agrees place t b
  agrees_without None r same some none = let is = (agrees_by_place place t b).1 (none refl) in grind (arith, same, is)
  agrees_without (Some k) r same differs none = let not_so : ¬ IsTrue (agrees place t b) = λ is. differing k differs ((agrees_by_place place t b).0 is) in grind (arith, same, not_so)
