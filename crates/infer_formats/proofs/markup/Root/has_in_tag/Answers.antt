use Rattle.infer_formats.proofs.Common.{◌≡◌, ◌↔◌, inl, inr, ℕ, ◌+◌, ◌-◌, ◌<◌, ◌≤◌, List, Option, None, Some, length, get_or, take, is_some, refl, subst, sym, arith, eq-eqb, IsTrue, cases_lt, eqb-true, IsFirstByte, OccursAt, is_byte, IsFirstWithin, HasInTag, OccursAt-part}
use Rattle.std.specs.Option.{unwrap_or}
use Rattle.infer_formats.proofs.markup.Root.has_in_tag.Goals as goal

-- a tag ends at the first ">", or where the buffer does
record EndsTag (rest : List ℕ) (end : ℕ) : Type 0 where
  high : end ≤ length rest
  before : (k : ℕ) → k < end → ¬ (get_or rest k 0 ≡ 0x3E)
  here : end < length rest → get_or rest end 0 ≡ 0x3E

tag_end : (rest : List ℕ) (r : Option ℕ) → IsFirstByte (is_byte 0x3E) rest r → EndsTag rest (unwrap_or r (length rest))
tag_end rest (Some k) (between, is) = record {
  high = let lt = between.high in omega arith;
  before = λ j lt same. between.before j (omega arith) lt (eq-eqb _ 0x3E same);
  here = λ lt. eqb-true _ 0x3E is;
}
tag_end rest None none = record {
  high = omega arith;
  before = λ j lt same. none j (omega arith) lt (eq-eqb _ 0x3E same);
  here = λ lt. absurd (omega arith);
}

module _ (rest text : List ℕ) (end : ℕ) (ends : EndsTag rest end) where
  in_part : (p : ℕ) → OccursAt (take end rest) text p ↔ (OccursAt rest text p × (p + length text ≤ end))
  in_part p =
      let whole : end - 0 ≡ end = omega arith in
      let start : 0 + p ≡ p = omega arith in
      subst (λ n. OccursAt (take n rest) text p ↔ (OccursAt rest text p × (p + length text ≤ end))) whole
      (subst (λ q. OccursAt (take (end - 0) rest) text p ↔ (OccursAt rest text q × (q + length text ≤ end))) start
      (OccursAt-part rest text 0 end p (omega arith) ends.high))

  in_tag : HasInTag text rest → (p : ℕ) × OccursAt (take end rest) text p
  in_tag (p, o, none) =
      let fits = o.fits in
      elim (cases_lt end (p + length text)) [
        | inl lt ↦ absurd (none end lt (ends.here (omega arith)))
        | inr le ↦ (p, (in_part p).1 (o, le))
      ]

  finds : (r : Option ℕ) → IsFirstWithin OccursAt (take end rest) text 0 (length (take end rest)) r → IsTrue (is_some r) ↔ HasInTag text rest
  finds (Some p) first =
      let o = (in_part p).0 first.here.stands in
      (λ is. (p, o.0, λ k lt. ends.before k (omega (arith, o.1))), λ has. refl)
  finds None none = (
    λ is. absurd (cc),
    λ has. let o = in_tag has in absurd (none o.0 (record { stands = o.1; low = omega arith; high = o.1.fits })),
  )

pub returns : goal.returns
returns c =
    let rest = c.args.self.now.rest.now in
    let ends = subst (EndsTag rest) (sym c.unwrap_or-end.ensures) (tag_end rest _ c.memchr.ensures) in
    subst (λ r. IsTrue r ↔ HasInTag c.args.text.now rest) (sym c.is_some.ensures)
    (finds rest c.args.text.now c.unwrap_or-end.result ends c.find_early.result c.find_early.ensures)
