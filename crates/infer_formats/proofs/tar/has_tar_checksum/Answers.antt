use Rattle.infer_formats.proofs.Common.{◌≤◌, get_or, sym, ◌∙◌, arith, eq-eqb, eqb-true}
use Rattle.infer_formats.proofs.TarLemmas.{located}
use Rattle.infer_formats.proofs.tar.has_tar_checksum.Goals as goal

pub returns-then-is_field : goal.returns-then-is_field
returns-then-is_field c =
    let s = c.spaces_end-place.ensures in
    let n = c.digit_count-count.ensures in
    let first : 1 ≤ get_or c.args.buf.now 0 0 = grind (arith, c.if-buf-eq0.false) in (
      λ same. (
        omega arith,
        first,
        (
          c.spaces_end-place.result,
          c.digit_count-count.result,
          c.is_field.ensures.0 c.if-is_field.true,
          sym c.octal.ensures ∙ eqb-true _ _ same ∙ c.header_sum.ensures,
        ),
      ),
      λ (long, some, (p, d, f, value)).
          let l = located c.args.buf.now _ _ _ s.low n.high s.spaces s.ends n.digits n.ends p d f value in
          eq-eqb _ _ (c.octal.ensures ∙ l.1 ∙ sym c.header_sum.ensures),
    )

pub returns-else-is_field : goal.returns-else-is_field
returns-else-is_field c =
    let s = c.spaces_end-place.ensures in
    let n = c.digit_count-count.ensures in (
      λ is. absurd (cc),
      λ (long, some, (p, d, f, value)).
          let l = located c.args.buf.now _ _ _ s.low n.high s.spaces s.ends n.digits n.ends p d f value in
          c.is_field.ensures.1 l.0,
    )
