use Rattle.infer_formats.proofs.Common.{◌≡◌, ◌%◌, ◌∙◌, sym, due_left, Key, Value}
use Rattle.infer_formats.proofs.ReaderLemmas.{reads_closed, first_closed, begun_key, begun_value, reads_same}
use Rattle.infer_formats.proofs.json.reader.Reader.read_first.Goals as goal

pub returns-then-byte-closing : goal.returns-then-byte-closing
returns-then-byte-closing c =
    let s = c.args.self.now in
    reads_closed _ _ s _ c.requires c.close.ensures
    (λ ss v. first_closed s.depth s.kinds c.args.byte ss v (c.if-byte-closing.true ∙ c.closing.ensures))

pub returns-then-is_in_object : goal.returns-then-is_in_object
returns-then-is_in_object c =
    let s = c.args.self.now in
    let is = c.is_in_object.ensures.0 c.if-is_in_object.true in
    reads_same _ (due_left Key s.depth s.kinds) _ _ _
    (λ ss v. begun_key s.depth s.kinds c.args.byte ss v c.requires.0
    (λ e. c.if-byte-closing.false (e ∙ sym c.closing.ensures)) is) c.read_key.ensures

pub returns-else-is_in_object : goal.returns-else-is_in_object
returns-else-is_in_object c =
    let s = c.args.self.now in
    let is = λ (e : s.kinds % 2 ≡ 1). let f = c.is_in_object.ensures.1 e in absurd (cc) in
    reads_same _ (due_left Value s.depth s.kinds) _ _ _
    (λ ss v. begun_value s.depth s.kinds c.args.byte ss v c.requires.0
    (λ e. c.if-byte-closing.false (e ∙ sym c.closing.ensures)) is) c.read_value.ensures
