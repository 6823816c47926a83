use Rattle.std.proofs.Common.{◌≡◌, ◌||◌, Some, arith, rules, ap, map, option_map, refl, subst, sym, ◌∙◌}
use Rattle.std.proofs.lemmas.Result.{err_from_is_err_and}
use Rattle.infer_notation.specs.Relations.{IsSeen, group_listed, items_of, named_in, relations_of, rest_listed}
use Rattle.infer_formats.specs.Relation.{names}
use Rattle.infer_notation.specs.Tokens.{token_listed}
use Rattle.infer_notation.specs.Words.{found_by}
use Rattle.infer_notation.proofs.FlawLemmas.{after_next, flaw_after}
use Rattle.infer_notation.proofs.SeenLemmas.{IsLeft, left_items, seen_first, seen_last, seen_next, unseen_first, untaken_first}
use Rattle.infer_notation.proofs.relations.is_related.Goals as goal

pub returns-in_default-clause-seen : goal.returns-in_default-clause-seen
returns-in_default-clause-seen c =
    let g = c.in_ok-first.first in
    let named = ap (named_in names) (sym c.read.ensures) ∙ sym c.named.ensures ∙ ap (option_map rest_listed) c.in_default.is in
    unseen_first c.args.text.now (group_listed g) (option_map (λ t. t.now) c.in_ok-first.rest) c.in_ok-first.ensures.found named

pub returns-in_err-any-clause-seen : goal.returns-in_err-any-clause-seen
returns-in_err-any-clause-seen c =
    let g = c.in_ok-first.first in
    let named = ap (named_in names) (sym c.read.ensures) ∙ sym c.named.ensures ∙ ap (option_map rest_listed) c.in-Some.is in
    let p = err_from_is_err_and c.from_residual-in_err-any.result c.from_residual-in_err-any.ensures.1 in
    subst (λ r. IsSeen (relations_of c.args.text.now) c.args.buf.now (found_by r)) (sym p.1)
    (untaken_first c.args.text.now (group_listed g) (option_map (λ t. t.now) c.in_ok-first.rest) c.in-Some.takes (map token_listed c.in-Some.tokens.now) c.in_ok-first.ensures.found named c.in_err-any.ensures.seen)

pub loop-rest-init : goal.loop-rest-init
loop-rest-init c =
    let g = c.in_ok-first.first in
    let named = ap (named_in names) (sym c.read.ensures) ∙ sym c.named.ensures ∙ ap (option_map rest_listed) c.in-Some.is in
    record {
      seen = seen_first c.args.text.now c.args.buf.now (group_listed g) (option_map (λ t. t.now) c.in_ok-first.rest) c.in-Some.takes (map token_listed c.in-Some.tokens.now) c.in_ok-any.any
          c.in_ok-first.ensures.found named c.in_ok-any.ensures.seen;
      after = after_next c.args.text.now c.args.text.now c.in_ok-first.rest refl (omega arith) c.in_ok-first.ensures.read c.in_ok-first.ensures.left;
    }

pub loop-rest-preserved-then-any : goal.loop-rest-preserved-then-any
loop-rest-preserved-then-any c =
    let l = c.loop-rest in
    let before = rw c.in-Some-rest.is at l.invariant.after in
    let seen = subst (λ g. IsSeen (items_of c.in-Some.takes g) c.args.buf.now (Some c.in_ok-fits.fits)) c.read-in-Some-rest.ensures c.in_ok-fits.ensures.seen in
    let same : (l.any || c.in_ok-fits.fits) ≡ l.any = rw c.if-any.true refl in
    let next = seen_next c.in-Some-rest.more.now c.args.buf.now (group_listed c.in_ok-group.group) (option_map (λ t. t.now) c.in_ok-group.after) c.in-Some.takes l.any c.in_ok-fits.fits c.in_ok-group.ensures.found seen in
    record {
      seen = λ x left. l.invariant.seen x (subst (λ o. IsLeft l.any (left_items c.in-Some.takes (option_map (λ t. t.now) o)) c.args.buf.now x) (sym c.in-Some-rest.is)
          (next x (subst (λ any. IsLeft any (left_items c.in-Some.takes (option_map (λ t. t.now) c.in_ok-group.after)) c.args.buf.now x) (sym same) left)));
      after = after_next c.args.text.now c.in-Some-rest.more.now c.in_ok-group.after before.0 before.1 c.in_ok-group.ensures.read c.in_ok-group.ensures.left;
    }

pub loop-rest-preserved : goal.loop-rest-preserved
loop-rest-preserved c =
    let l = c.loop-rest in
    let before = rw c.in-Some-rest.is at l.invariant.after in
    let seen = subst (λ g. IsSeen (items_of c.in-Some.takes g) c.args.buf.now (Some c.in_ok-fits.fits)) c.read-in-Some-rest.ensures c.in_ok-fits.ensures.seen in
    let same : (l.any || c.in_ok-fits.fits) ≡ c.in_ok-fits.fits = rw c.if-any.false refl in
    let next = seen_next c.in-Some-rest.more.now c.args.buf.now (group_listed c.in_ok-group.group) (option_map (λ t. t.now) c.in_ok-group.after) c.in-Some.takes l.any c.in_ok-fits.fits c.in_ok-group.ensures.found seen in
    record {
      seen = λ x left. l.invariant.seen x (subst (λ o. IsLeft l.any (left_items c.in-Some.takes (option_map (λ t. t.now) o)) c.args.buf.now x) (sym c.in-Some-rest.is)
          (next x (subst (λ any. IsLeft any (left_items c.in-Some.takes (option_map (λ t. t.now) c.in_ok-group.after)) c.args.buf.now x) (sym same) left)));
      after = after_next c.args.text.now c.in-Some-rest.more.now c.in_ok-group.after before.0 before.1 c.in_ok-group.ensures.read c.in_ok-group.ensures.left;
    }

pub returns-clause-seen : goal.returns-clause-seen
returns-clause-seen c =
    let l = c.loop-rest in
    l.invariant.seen (Some l.any) (subst (λ o. IsLeft l.any (left_items c.in-Some.takes (option_map (λ t. t.now) o)) c.args.buf.now (Some l.any)) (sym c.in_default-rest.is) (seen_last c.args.buf.now c.in-Some.takes l.any))

pub returns-in_err-group-clause-flaw : goal.returns-in_err-group-clause-flaw
returns-in_err-group-clause-flaw c =
    let before = rw c.in-Some-rest.is at c.loop-rest.invariant.after in
    let flaw = flaw_after c.args.text.now c.in-Some-rest.more.now _ before.1 before.0 c.in_err-group.ensures.flaw in search rules

pub returns-in_err-fits-clause-flaw : goal.returns-in_err-fits-clause-flaw
returns-in_err-fits-clause-flaw c =
    let before = rw c.in-Some-rest.is at c.loop-rest.invariant.after in
    let flaw = flaw_after c.args.text.now c.in-Some-rest.more.now _ before.1 before.0 c.in_err-fits.ensures.flaw in search rules
