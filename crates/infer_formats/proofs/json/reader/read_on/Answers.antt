use Rattle.infer_formats.proofs.Common.{drop, subst, arith, EndSays, PlaceSays, Colon}
use Rattle.infer_formats.specs.declared.json.reader.Place.TheVariants as Place
use Rattle.infer_formats.proofs.OnwardLemmas.{place_between, place_closed, place_key, place_value}
use Rattle.infer_formats.proofs.json.reader.read_on.Goals as goal

pub returns-in-Closed : goal.returns-in-Closed
returns-in-Closed c d k l =
    (omega arith, c.requires, place_closed c.args.next d k (drop c.args.at c.args.buf.now) l c.in-Closed.is)

pub returns-in-Between : goal.returns-in-Between
returns-in-Between c d k l = (
  omega arith,
  c.requires,
  place_between c.args.next c.in-Between.due d k
      (drop c.args.at c.args.buf.now) l c.in-Between.is,
)

pub returns-in-At : goal.returns-in-At
returns-in-At c d k l =
    let told = subst (EndSays c.in-InKey.token c.args.buf.now c.args.at Colon) c.in-At.is c.token_end.ensures in
    let key = place_key c.args.next c.in-InKey.token d k c.args.buf.now c.args.at (Place.At c.in-At.end c.in-At.field-1) c.in-InKey.is told in
    c.past_colon.ensures c.args.next d k c.args.at
    (subst (λ due. PlaceSays c.args.next d k c.args.buf.now c.args.at (Place.At c.in-At.end due)) told.0 key)

pub returns-in-Cut : goal.returns-in-Cut
returns-in-Cut c d k l =
    place_key c.args.next c.in-InKey.token d k c.args.buf.now c.args.at Place.Cut c.in-InKey.is
    (subst (EndSays c.in-InKey.token c.args.buf.now c.args.at Colon) c.in-Cut.is c.token_end.ensures)

pub returns-in-Wrong : goal.returns-in-Wrong
returns-in-Wrong c d k l =
    place_key c.args.next c.in-InKey.token d k c.args.buf.now c.args.at Place.Wrong c.in-InKey.is
    (subst (EndSays c.in-InKey.token c.args.buf.now c.args.at Colon) c.in-Wrong.is c.token_end.ensures)

pub returns-in-InValue : goal.returns-in-InValue
returns-in-InValue c d k l =
    place_value c.args.next c.in-InValue.token d k c.args.buf.now c.args.at _ l c.in-InValue.is
    c.token_end-in-InValue.ensures
