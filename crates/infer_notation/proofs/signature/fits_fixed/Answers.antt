use Rattle.infer_notation.proofs.Common.{◌≡◌, ◌||◌, None, Some, ap, arith, drop, false, length, option_map, sym, ◌∙◌, drop-drop, accepts, given, start, state}
use Rattle.infer_notation.proofs.RefusedLemmas.{given_last, refused}
use Rattle.infer_notation.proofs.SignatureLemmas.{given_blanks, given_start}
use Rattle.infer_notation.proofs.signature.fits_fixed.Goals as goal

pub loop-rest-init : goal.loop-rest-init
loop-rest-init c = record {
  begins = c.skip_blanks-rest.ensures.ends;
  same = ap (λ s. given c.args.buf.now s 0 c.skip_blanks-rest.result.now) c.start-state.ensures ∙ ap (given c.args.buf.now (state start false false) 0) c.skip_blanks-rest.ensures.value ∙ given_start c.args.buf.now c.args.text.now;
}

pub loop-rest-preserved : goal.loop-rest-preserved
loop-rest-preserved c =
    let buf = c.args.buf.now in
    let left = c.rest_at-after.ensures ∙ ap (drop c.in-Ok.count) c.after_first.ensures ∙ drop-drop c.in-Ok.count 1 c.loop-rest.rest.now in
    record {
      begins = c.skip_blanks-rest-in-Ok.ensures.ends;
      same = ap (given buf c.in-Ok.more 0) c.skip_blanks-rest-in-Ok.ensures.value ∙ given_blanks buf c.in-Ok.more c.rest_at-after.result.now ∙ ap (given buf c.in-Ok.more 0) left ∙ sym c.in-Ok.ensures.found ∙ c.loop-rest.invariant.same;
    }

pub returns-then-is_refused : goal.returns-then-is_refused
returns-then-is_refused c = λ alternatives e.
    let buf = c.args.buf.now in
    let yes = c.if-is_refused.true in
    let left = c.rest_at-after.ensures ∙ ap (drop c.in-Ok.count) c.after_first.ensures ∙ drop-drop c.in-Ok.count 1 c.loop-rest.rest.now in
    let is = ap (given buf c.in-Ok.more 0) left ∙ sym c.in-Ok.ensures.found ∙ c.loop-rest.invariant.same ∙ ap (option_map (λ alternatives. accepts alternatives buf)) e in
    refused buf c.rest_at-after.result.now c.in-Ok.more (accepts alternatives buf) (c.is_refused.ensures.any yes) (c.is_refused.ensures.last yes) (c.is_refused.ensures.wanted yes) (c.is_refused.ensures.none yes) is

pub returns-in-Err : goal.returns-in-Err
returns-in-Err c = λ alternatives e.
    let buf = c.args.buf.now in
    let both : None ≡ Some (accepts alternatives buf) = sym c.in-Err.ensures.none ∙ c.loop-rest.invariant.same ∙ ap (option_map (λ alternatives. accepts alternatives buf)) e in
    absurd cc

pub returns-then-state : goal.returns-then-state
returns-then-state c = λ alternatives e.
    let buf = c.args.buf.now in
    let none : length c.loop-rest.rest.now ≡ 0 = grind arith in
    let is = given_last buf c.loop-rest.rest.now c.loop-rest.state (accepts alternatives buf) none (c.loop-rest.invariant.same ∙ ap (option_map (λ alternatives. accepts alternatives buf)) e) in
    c.if-state.true ∙ sym (ap (λ t. t || c.loop-rest.state.last) c.if-state.true) ∙ is

pub returns-else-state : goal.returns-else-state
returns-else-state c = λ alternatives e.
    let buf = c.args.buf.now in
    let none : length c.loop-rest.rest.now ≡ 0 = grind arith in
    let is = given_last buf c.loop-rest.rest.now c.loop-rest.state (accepts alternatives buf) none (c.loop-rest.invariant.same ∙ ap (option_map (λ alternatives. accepts alternatives buf)) e) in
    sym (ap (λ t. t || c.loop-rest.state.last) c.if-state.false) ∙ is
