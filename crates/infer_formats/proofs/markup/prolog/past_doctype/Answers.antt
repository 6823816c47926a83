use Rattle.infer_formats.proofs.Common.{arith, ◌+◌, ◌++◌, None, Some, inr, refl, false≢true, IsPart}
use Rattle.infer_formats.proofs.FrontLemmas.{front_grows}
use Rattle.infer_formats.proofs.MarkupLemmas.{no_part, part_lasts, past_part}
use Rattle.infer_formats.proofs.SubsetLemmas.{close_within}
use Rattle.infer_formats.proofs.markup.prolog.past_doctype.Goals as goal

pub returns-in-Some-clause-ends : goal.returns-in-Some-clause-ends
returns-in-Some-clause-ends c =
    let b = c.args.buf.now in
    let place = c.args.place in
    let doctype = c.in-Some.doctype in
    let end = c.miscs_end-stop.ensures in
    let part : IsPart b place None (doctype.close + 1) (Some doctype.name) = inr (doctype.name, doctype.close, c.in-Some.ensures, refl, refl, refl) in record {
      within = end.within;
      leads = λ more at to.
          let s = front_grows b more in
          let past = past_part (b ++ more) at to place None (doctype.close + 1) (Some doctype.name)
          (part_lasts b (b ++ more) s place None (doctype.close + 1) (Some doctype.name) part) in
          let on = end.leads (Some doctype.name) more at to in
          (λ l. on.0 (past.0 l), λ l. past.1 (on.1 l));
      ends = no_part b c.miscs_end-stop.result.place (Some doctype.name) end.ends (λ none. absurd (cc));
    }

pub returns-in-None-clause-ends : goal.returns-in-None-clause-ends
returns-in-None-clause-ends c = record {
  within = c.requires.within;
  leads = λ more at to. (λ l. l, λ l. l);
  ends = no_part c.args.buf.now c.args.place None c.requires.no_misc (λ none. c.in-None.ensures);
}

pub returns-in-Some-clause-starts : goal.returns-in-Some-clause-starts
returns-in-Some-clause-starts c = c.miscs_end-stop.ensures.starts

pub returns-in-None-clause-starts : goal.returns-in-None-clause-starts
returns-in-None-clause-starts c = (λ yes. absurd (false≢true yes), λ tag. absurd (c.requires.no_tag tag))

pub overflow_add-doctype : goal.overflow_add-doctype
overflow_add-doctype c = let within = close_within _ _ _ c.in-Some.ensures.closes in omega arith

pub miscs_end-stop-requires : goal.miscs_end-stop-requires
miscs_end-stop-requires c = let within = close_within _ _ _ c.in-Some.ensures.closes in omega arith
