use Rattle.infer_evidence.proofs.Common.{arith, inl, inr, List, false≢true, refl, ℕ}
use Rattle.infer_evidence.proofs.ListedLemmas.{alternatives_within, by_none, by_one, parts_within, signature_told}
use Rattle.infer_evidence.proofs.weighing.weigh.Goals as goal

pub returns-then-all_refused_already-clause-answer : goal.returns-then-all_refused_already-clause-answer
returns-then-all_refused_already-clause-answer c =
    let told = signature_told c.by_place.ensures c.args.buf.now c.args.signature.now in
    let none = by_none _ _ (c.all_refused_already.ensures c.if-all_refused_already.true c.args.buf.now (inr refl)) in
    (λ yes. absurd (false≢true yes), λ h. absurd (none (told.0 h)))

pub returns-then-all_refused_already-clause-proves : goal.returns-then-all_refused_already-clause-proves
returns-then-all_refused_already-clause-proves c =
    let told = λ (b : List ℕ). signature_told c.by_place.ensures b c.args.signature.now in
    let refused = c.all_refused_already.ensures c.if-all_refused_already.true in
    λ b agrees. (
      agrees,
      (
        λ h. absurd (by_none _ _ (refused b (inl agrees)) ((told b).0 h)),
        λ h. absurd (by_none _ _ (refused c.args.buf.now (inr refl)) ((told c.args.buf.now).0 h)),
      ),
    )

pub returns-in-Some-clause-answer : goal.returns-in-Some-clause-answer
returns-in-Some-clause-answer c =
    let told = signature_told c.by_place.ensures c.args.buf.now c.args.signature.now in
    let none = by_none _ _ (c.in-Some.ensures.proves c.args.buf.now (λ k lt. (c.in-Some.ensures.inside k lt, refl))) in
    (λ yes. absurd (false≢true yes), λ h. absurd (none (told.0 h)))

pub returns-in-Some-clause-proves : goal.returns-in-Some-clause-proves
returns-in-Some-clause-proves c =
    let told = λ (b : List ℕ). signature_told c.by_place.ensures b c.args.signature.now in
    let none = by_none _ _ (c.in-Some.ensures.proves c.args.buf.now (λ k lt. (c.in-Some.ensures.inside k lt, refl))) in
    λ b agrees. let same = c.ask.ensures.same c.args.buf.now b agrees in
    (same.0, (λ h. absurd (by_none _ _ (c.in-Some.ensures.proves b same.1) ((told b).0 h)), λ h. absurd (none ((told c.args.buf.now).0 h))))

pub returns-in-Some-fitting-clause-answer : goal.returns-in-Some-fitting-clause-answer
returns-in-Some-fitting-clause-answer c =
    let told = signature_told c.by_place.ensures c.args.buf.now c.args.signature.now in
    (λ yes. told.1 (by_one _ _ _ c.in-Some-fitting.ensures.among c.in-Some-fitting.ensures.some), λ h. refl)

pub returns-in-Some-fitting-clause-proves : goal.returns-in-Some-fitting-clause-proves
returns-in-Some-fitting-clause-proves c =
    let told = λ (b : List ℕ). signature_told c.by_place.ensures b c.args.signature.now in
    let here = (told c.args.buf.now).1 (by_one _ _ _ c.in-Some-fitting.ensures.among c.in-Some-fitting.ensures.some) in
    λ b agrees. let same = c.accept.ensures.proves b agrees in
    (same.0, (λ h. here, λ h. (told b).1 (by_one _ _ _ c.in-Some-fitting.ensures.among same.1)))

pub returns-in-None-clause-answer : goal.returns-in-None-clause-answer
returns-in-None-clause-answer c =
    let told = signature_told c.by_place.ensures c.args.buf.now c.args.signature.now in
    (λ yes. absurd (false≢true yes), λ h. absurd (by_none _ _ (c.in-None.ensures.none refl) (told.0 h)))

pub returns-in-None-clause-proves : goal.returns-in-None-clause-proves
returns-in-None-clause-proves c =
    let told = λ (b : List ℕ). signature_told c.by_place.ensures b c.args.signature.now in
    let none = by_none _ _ (c.in-None.ensures.none refl) in
    λ b agrees. let same = c.refuse_all.ensures.proves b agrees in
    (same.0, (λ h. absurd (by_none _ _ same.1 ((told b).0 h)), λ h. absurd (none ((told c.args.buf.now).0 h))))

pub returns-in-Some-clause-few : goal.returns-in-Some-clause-few
returns-in-Some-clause-few c =
    let now = c.ask.ensures.few in let most = alternatives_within c.args.signature.now in grind (arith, now, most, c.in-Some.ensures.alone)

pub returns-in-Some-fitting-clause-few : goal.returns-in-Some-fitting-clause-few
returns-in-Some-fitting-clause-few c =
    let now = c.accept.ensures.few in let most = parts_within c.args.signature.now _ c.in-Some-fitting.ensures.among in grind (arith, now, most)

pub returns-in-None-clause-few : goal.returns-in-None-clause-few
returns-in-None-clause-few c =
    let now = c.refuse_all.ensures.few in let most = alternatives_within c.args.signature.now in grind (arith, now, most)
