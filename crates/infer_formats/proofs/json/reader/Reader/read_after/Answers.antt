use Rattle.infer_formats.proofs.Common.{◌≡◌, ◌%◌, ◌∙◌, arith}
use Rattle.infer_formats.proofs.ReaderLemmas.{reads_closed, after_closes, comma_item, comma_member}
use Rattle.infer_formats.proofs.json.reader.Reader.read_after.Goals as goal

pub returns-then-byte-closing : goal.returns-then-byte-closing
returns-then-byte-closing c =
    let s = c.args.self.now in
    reads_closed _ _ s _ c.requires c.close.ensures
    (λ ss v. after_closes s.depth s.kinds c.args.byte ss v (c.if-byte-closing.true ∙ c.closing.ensures))

pub returns-then-is_in_object : goal.returns-then-is_in_object
returns-then-is_in_object c =
    let s = c.args.self.now in
    let is = c.is_in_object.ensures.0 c.if-is_in_object.true in (
      c.requires.1,
      λ e. absurd (omega arith),
      λ ss v. comma_member s.depth s.kinds c.args.byte ss v
          (omega arith) c.requires.0 is,
    )

pub returns-else-is_in_object : goal.returns-else-is_in_object
returns-else-is_in_object c =
    let s = c.args.self.now in
    let is = λ (e : s.kinds % 2 ≡ 1). let f = c.is_in_object.ensures.1 e in absurd (cc) in (
      c.requires.1,
      λ e. absurd (omega arith),
      λ ss v. comma_item s.depth s.kinds c.args.byte ss v
          (omega arith) c.requires.0 is,
    )
