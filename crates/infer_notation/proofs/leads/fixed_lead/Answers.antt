use Rattle.infer_notation.proofs.Common.{◌≡◌, ap, arith, drop, length, refl, subst, sym, ◌∙◌, drop-drop, IsRead}
use Rattle.infer_notation.proofs.LeadLemmas.{read_blanks, read_end, read_start}
use Rattle.infer_notation.proofs.leads.fixed_lead.Goals as goal

pub loop-rest-init : goal.loop-rest-init
loop-rest-init c = record {
  begins = c.skip_blanks-rest.ensures.ends;
  read = subst (IsRead _ c.args.text.now) (sym c.skip_blanks-rest.ensures.value) (read_start _ c.args.text.now refl refl refl);
}

pub loop-rest-preserved : goal.loop-rest-preserved
loop-rest-preserved c =
    let left = c.rest_at.ensures ∙ ap (drop c.in-Some.count) c.after_first.ensures ∙ drop-drop c.in-Some.count 1 c.loop-rest.rest.now in
    let next = c.in-Some.ensures.found c.args.text.now c.loop-rest.invariant.read in
    record {
      begins = c.skip_blanks-rest-in-Some.ensures.ends;
      read = subst (IsRead c.in-Some.more c.args.text.now) (sym c.skip_blanks-rest-in-Some.ensures.value) (read_blanks c.in-Some.more c.args.text.now c.rest_at.result.now (subst (IsRead c.in-Some.more c.args.text.now) (sym left) next));
    }

pub returns-in-Led : goal.returns-in-Led
returns-in-Led c =
    let none : length c.loop-rest.rest.now ≡ 0 = grind arith in
    read_end c.loop-rest.reading c.args.text.now c.loop-rest.rest.now c.in-Led.lead none c.loop-rest.invariant.read c.in-Led.ensures
