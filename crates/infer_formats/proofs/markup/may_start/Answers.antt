use Rattle.infer_formats.proofs.Common.{length, inl, inr, arith, subst, sym, IsTrue, false≢true}
use Rattle.infer_formats.proofs.GrowthLemmas.{there}
use Rattle.infer_formats.proofs.PartLemmas.{part_search}
use Rattle.infer_formats.proofs.markup.may_start.Goals as goal

pub returns : goal.returns
returns c =
    let b = c.args.buf.now in
    let found = part_search b c.args.from (length b) 0x3C c.memchr.result c.requires (omega arith) c.memchr.ensures in
    let same = c.is_some.ensures in (
      λ is. let (j, low, high, starts) = found.0 (subst IsTrue same is) in inr (j, low, starts),
      λ m. elim m [
        | inl begins ↦ absurd (false≢true (c.if-begins_element.ensures.1 begins))
        | inr (j, low, starts) ↦ subst IsTrue (sym same) (found.1 (j, low, there b j (omega arith), starts))
      ],
    )
