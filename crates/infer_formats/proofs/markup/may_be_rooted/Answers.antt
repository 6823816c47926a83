use Rattle.infer_formats.proofs.Common.{◌≡◌, ◌+◌, ◌<◌, length, inl, inr, arith, refl, subst, slice_index, cases_lt, false≢true, IsXmlSpace, MayStart}
use Rattle.infer_formats.proofs.GrowthLemmas.{there}
use Rattle.infer_formats.proofs.MarkupLemmas.{not_space}
use Rattle.infer_formats.proofs.markup.may_be_rooted.Goals as goal

pub loop-place-init : goal.loop-place-init
loop-place-init c = λ j lt. absurd (omega arith)

pub loop-place-preserved : goal.loop-place-preserved
loop-place-preserved c = λ j lt. elim (cases_lt j c.loop-place.place) [
  | inl less ↦ c.loop-place.invariant j less
  | inr more ↦
      let e : c.loop-place.place ≡ j = omega arith in
      subst (λ k. IsXmlSpace (slice_index c.args.buf.now k)) e (c.if-not-is_xml_space.ensures.0 refl)
]

pub returns-then-not-is_xml_space : goal.returns-then-not-is_xml_space
returns-then-not-is_xml_space c =
    let b = c.args.buf.now in
    let place = c.loop-place.place in (
      λ is. let (starts, may) = c.starts_at.ensures.0 is in inr (place, c.loop-place.invariant, starts, may),
      λ m. elim m [
        | inl mark ↦ absurd (false≢true (c.if-has_at.ensures.1 mark))
        | inr (k, spaces, starts, may) ↦ elim (cases_lt k place) [
          | inl less ↦ absurd (not_space (slice_index b k) starts (c.loop-place.invariant k less))
          | inr more ↦ elim (cases_lt place k) [
            | inl less ↦ absurd (false≢true (c.if-not-is_xml_space.ensures.1 (spaces place less)))
            | inr same ↦
                let e : k ≡ place = omega arith in
                c.starts_at.ensures.1 (subst (λ i. (slice_index b i ≡ 0x3C) × MayStart b (i + 1)) e (starts, may))
          ]
        ]
      ],
    )

pub returns : goal.returns
returns c =
    let b = c.args.buf.now in (
      λ e. absurd (cc),
      λ m. elim m [
        | inl mark ↦ absurd (false≢true (c.if-has_at.ensures.1 mark))
        | inr (k, spaces, starts, may) ↦
            let lt : k < length b = there b k (omega arith) in
            absurd (not_space (slice_index b k) starts (c.loop-place.invariant k (omega arith)))
      ],
    )
