use Rattle.std.proofs.Common.{◌≡◌, ◌∙◌, None, Some, ap, refl, subst, take}
use Rattle.std.proofs.lemmas.List.{take_min}
use Rattle.mime_sniff.specs.Go.{header, rules}
use Rattle.mime_sniff.specs.Rule.{Accepts, FindsFirst}
use Rattle.mime_sniff.proofs.GoLemmas.{told_short}
use Rattle.mime_sniff.proofs.go.detect_content_type.Goals as goal

pub returns-in-Some-clause-answer : goal.returns-in-Some-clause-answer
returns-in-Some-clause-answer c =
    let same : take c.min.result c.args.buf.now ≡ header c.args.buf.now = ap (λ n. take n c.args.buf.now) c.min.ensures ∙ take_min 512 c.args.buf.now in
    (Some c.in-Some.mime_type.now, subst (λ h. FindsFirst (Accepts h) rules (Some c.in-Some.mime_type.now)) same c.in-Some.ensures, refl)

pub returns-in-Some-clause-some : goal.returns-in-Some-clause-some
returns-in-Some-clause-some c = (told_short _ _ c.in-Some.ensures).0

pub returns-in-Some-clause-short : goal.returns-in-Some-clause-short
returns-in-Some-clause-short c = (told_short _ _ c.in-Some.ensures).1

pub returns-in-None-clause-answer : goal.returns-in-None-clause-answer
returns-in-None-clause-answer c =
    let same : take c.min.result c.args.buf.now ≡ header c.args.buf.now = ap (λ n. take n c.args.buf.now) c.min.ensures ∙ take_min 512 c.args.buf.now in
    (None, subst (λ h. FindsFirst (Accepts h) rules None) same c.in-None.ensures, refl)
