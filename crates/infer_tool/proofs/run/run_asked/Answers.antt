use Rattle.infer_tool.proofs.Common.{arith, string_bytes, ◌≡◌, length, length-map, map}
use Rattle.infer_tool.proofs.SampleLemmas.{second_is}
use Rattle.infer_tool.proofs.run.run_asked.Goals as goal

pub returns-clause-said : goal.returns-clause-said
returns-clause-said g c =
    let same = second_is string_bytes c.args.words.now _ _ (omega arith) c.index-words-1.is c.as_str.ensures.value in
    let two : length (map string_bytes c.args.words.now) ≡ 2 = omega (arith, length-map c.args.words.now string_bytes) in
    record {
      sample = λ _ i has. c.run_sample.ensures.sample i (rw same has);
      no_sample = λ _ none. rw (← same) (c.run_sample.ensures.none (λ i has. none i (rw (← same) has)));
      usage = λ more. absurd (more two);
    }
