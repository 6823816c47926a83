use Rattle.std.proofs.Common.{◌+◌, ap, arith, drop, false, length, ◌∙◌, sym}
use Rattle.std.proofs.lemmas.List.{drop-drop, length-drop}
use Rattle.infer_notation.specs.Fixed.{given, start, state}
use Rattle.infer_notation.specs.Grammar.{unread}
use Rattle.infer_notation.proofs.FlawLemmas as flaws
use Rattle.infer_notation.proofs.SignatureLemmas.{given_blanks, given_start}
use Rattle.infer_notation.proofs.signature.accepts_fixed.Goals as goal

pub loop-rest-init : goal.loop-rest-init
loop-rest-init c = record {
  begins = c.skip_blanks-rest.ensures.ends;
  read = sym (flaws.past_blanks c.args.text.now) ∙ ap unread (sym c.skip_blanks-rest.ensures.value);
  within = c.skip_blanks-rest.ensures.fits;
  same = ap (λ s. given c.args.buf.now s 0 c.skip_blanks-rest.result.now) c.start-state.ensures ∙ ap (given c.args.buf.now (state start false false) 0) c.skip_blanks-rest.ensures.value ∙ given_start c.args.buf.now c.args.text.now;
}

pub loop-rest-preserved : goal.loop-rest-preserved
loop-rest-preserved c =
    let buf = c.args.buf.now in
    let left = c.rest_at.ensures ∙ ap (drop c.in-Ok.count) c.after_first.ensures ∙ drop-drop c.in-Ok.count 1 c.loop-rest.rest.now in
    record {
      begins = c.skip_blanks-rest-in-Ok.ensures.ends;
      read = c.loop-rest.invariant.read ∙ c.in-Ok.ensures.read ∙ ap unread (sym left) ∙ sym (flaws.past_blanks c.rest_at.result.now)
          ∙ ap unread (sym c.skip_blanks-rest-in-Ok.ensures.value);
      within = (let fits = c.skip_blanks-rest-in-Ok.ensures.fits in let so_far = c.loop-rest.invariant.within in
          let long = ap length left in omega (arith, length-drop (1 + c.in-Ok.count) c.loop-rest.rest.now));
      same = ap (given buf c.in-Ok.more 0) c.skip_blanks-rest-in-Ok.ensures.value ∙ given_blanks buf c.in-Ok.more c.rest_at.result.now ∙ ap (given buf c.in-Ok.more 0) left ∙ sym c.in-Ok.ensures.found ∙ c.loop-rest.invariant.same;
    }

pub returns-in-Err-clause-flaw : goal.returns-in-Err-clause-flaw
returns-in-Err-clause-flaw c = record {
  inside = c.loop-rest.invariant.within;
  first = λ token. ap length (sym (c.in-Err.ensures.unread token) ∙ sym c.loop-rest.invariant.read);
}
