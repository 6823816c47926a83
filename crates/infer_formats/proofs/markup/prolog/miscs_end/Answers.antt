use Rattle.infer_formats.proofs.Common.{None, inl, refl, ◌++◌, length, arith, IsXmlSpace}
use Rattle.infer_formats.proofs.FrontLemmas.{byte_shared, front_grows}
use Rattle.infer_formats.proofs.MarkupLemmas.{part_lasts, part_within, past_part, spaces_lead}
use Rattle.infer_formats.proofs.markup.prolog.miscs_end.Goals as goal

pub loop-place-init : goal.loop-place-init
loop-place-init c =
    let b = c.args.buf.now in
    let end = c.spaces_end-place.ensures in (
      end.high,
      λ d more at to.
          spaces_lead (b ++ more) at to c.args.start c.spaces_end-place.result d end.low
          (λ k low lt. byte_shared (length b) b (b ++ more) (front_grows b more) IsXmlSpace k (let high = end.high in omega arith) (end.spaces k low lt)),
      end.ends,
    )

pub loop-place-preserved : goal.loop-place-preserved
loop-place-preserved c =
    let b = c.args.buf.now in
    let i = c.loop-place.invariant in
    let next = c.in-Some.next in
    let end = c.spaces_end-place-in-Some.ensures in (
      end.high,
      λ d more at to.
          let s = front_grows b more in
          let past = past_part (b ++ more) at to _ d next d (part_lasts b (b ++ more) s _ d next d (inl (c.in-Some.ensures, refl))) in
          let spaces = spaces_lead (b ++ more) at to next c.spaces_end-place-in-Some.result d end.low
          (λ k low lt. byte_shared (length b) b (b ++ more) s IsXmlSpace k (let high = end.high in omega arith) (end.spaces k low lt)) in
          (λ l. spaces.0 (past.0 ((i.1 d more at to).0 l)), λ l. (i.1 d more at to).1 (past.1 (spaces.1 l))),
      end.ends,
    )

pub loop-place-smaller : goal.loop-place-smaller
loop-place-smaller c =
    let within = part_within c.args.buf.now _ None _ None (inl (c.in-Some.ensures, refl)) in
    let low = c.spaces_end-place-in-Some.ensures.low in omega arith
