-- Which set of a reading has a type, and what the reading tells of it.
use Rattle.std.proofs.Common.{◌≡◌, ◌≢◌, ◌+◌, ◌<◌, ◌∙◌, ◌&&◌, ◌||◌, ℕ, Bool, true, false, List, Option, None, Some, drop, get_or, if◌then◌else◌, length, map, refl}
use Rattle.std.proofs.lemmas.List.{at_drop_more}
use Rattle.std.specs.List.{find}
use Rattle.std.specs.Prelude.{is_some}
use Rattle.infer.specs.Triple.{Triple}
use Rattle.infer_named.specs.Join.{Answer, answer, is_among, of_bytes, of_name, standing_in, takes, told_by}
use Rattle.infer_named.specs.Key.{Reading}
use Rattle.infer_named.specs.declared.join.Standing.{Standing}
use Rattle.infer_named.specs.declared.join.Standing.TheVariants.{Agree, BytesRefine, NameRefines}

-- by whether each of the three sets has the type
abbrev by_sets : Bool → Bool → Bool → Option Standing
by_sets agrees begins finer = if agrees then Some Agree else (if begins then Some NameRefines else (if finer then Some BytesRefine else None))

some_set : (a b f : Bool) → is_some (by_sets a b f) ≡ (a || (b || f))
some_set true b f = refl
some_set false true f = refl
some_set false false true = refl
some_set false false false = refl

-- a reading takes a type exactly if it has a standing there
pub takes_is : (t : Triple) (r : Reading) → is_some (standing_in t r) ≡ takes t r
takes_is t r = some_set (is_among t r.agrees) (is_among t r.begins) (is_among t r.finer)

abbrev told_by_sets : Bool → Bool → Reading → Triple → Answer
told_by_sets a b r t =
    if a then answer Agree (Some (of_bytes t)) else (if b then answer NameRefines (Some (of_name r.named)) else answer BytesRefine (Some (of_bytes t)))

refined : (a b f : Bool) (r : Reading) (t : Triple) → by_sets a b f ≡ Some NameRefines → told_by_sets a b r t ≡ answer NameRefines (Some (of_name r.named))
refined true b f r t e = absurd (cc)
refined false true f r t e = refl
refined false false true r t e = absurd (cc)
refined false false false r t e = absurd (cc)

agreed : (a b f : Bool) (r : Reading) (t : Triple) → by_sets a b f ≡ Some Agree → told_by_sets a b r t ≡ answer Agree (Some (of_bytes t))
agreed true b f r t e = refl
agreed false true f r t e = absurd (cc)
agreed false false true r t e = absurd (cc)
agreed false false false r t e = absurd (cc)

others : (a b f : Bool) (r : Reading) (t : Triple) → by_sets a b f ≢ Some NameRefines → by_sets a b f ≢ Some Agree → told_by_sets a b r t ≡ answer BytesRefine (Some (of_bytes t))
others true b f r t n e = absurd (e refl)
others false true f r t n e = absurd (n refl)
others false false f r t n e = refl

pub told_refined : (r : Reading) (t : Triple) → standing_in t r ≡ Some NameRefines → told_by r t ≡ answer NameRefines (Some (of_name r.named))
told_refined r t e = refined (is_among t r.agrees) (is_among t r.begins) (is_among t r.finer) r t e

pub told_agreed : (r : Reading) (t : Triple) → standing_in t r ≡ Some Agree → told_by r t ≡ answer Agree (Some (of_bytes t))
told_agreed r t e = agreed (is_among t r.agrees) (is_among t r.begins) (is_among t r.finer) r t e

pub told_others : (r : Reading) (t : Triple) → standing_in t r ≢ Some NameRefines → standing_in t r ≢ Some Agree → told_by r t ≡ answer BytesRefine (Some (of_bytes t))
told_others r t n e = others (is_among t r.agrees) (is_among t r.begins) (is_among t r.finer) r t n e

-- the reading at a place is found, or what stands after it is looked at
module _ {A B : Type 0} (f : A → B) (p : B → Bool) (xs : List A) (i : ℕ) (d : A) (lt : i < length xs) where
  pub found_here : p (f (get_or xs i d)) ≡ true → find p (map f (drop i xs)) ≡ Some (f (get_or xs i d))
  found_here on = at_drop_more (λ l. find p (map f l)) xs i d lt ∙ rw on refl

  pub found_later : p (f (get_or xs i d)) ≡ false → find p (map f (drop i xs)) ≡ find p (map f (drop (i + 1) xs))
  found_later off = at_drop_more (λ l. find p (map f l)) xs i d lt ∙ rw off refl

pub off_left : (a b : Bool) → a ≡ false → (a && b) ≡ false
off_left true b e = absurd (cc)
off_left false b e = refl

pub off_right : (a b : Bool) → b ≡ false → (a && b) ≡ false
off_right true b e = e
off_right false b e = refl
