use Rattle.infer_tool.proofs.Common.{◌≡◌, ◌∙◌, ◌<◌, LosesFront, ReportsReader, Says, arith, codes, length, length-map, map, refl, rules, string_bytes, subst, sym}
use Rattle.infer_tool.proofs.SampleLemmas.{second_is}
use Rattle.infer_tool.proofs.run.run_limited.Goals as goal

-- no word stands after the option
pub returns-then-words-lt2-clause-said : goal.returns-then-words-lt2-clause-said
returns-then-words-lt2-clause-said g c =
    let few : length (map string_bytes c.args.words.now) < 2 = omega (arith, c.if-words-lt2.true, length-map c.args.words.now string_bytes) in
    record {
      line = λ n limit two. absurd (omega (arith, few, two));
      each = λ n limit more. search rules;
      no_limit = λ two none. absurd (omega (arith, few, two));
      usage = λ _. (refl, refl, c.write_all.ensures.bytes);
    }

pub returns-in_default-clause-said : goal.returns-in_default-clause-said
returns-in_default-clause-said g c =
    let same = second_is string_bytes c.args.words.now _ _ (omega arith) c.index-words-1.is c.as_str.ensures.value in
    record {
      line = λ n limit two. absurd (c.in_default.ensures n (rw same limit));
      each = λ n limit more. absurd (c.in_default.ensures n (rw same limit));
      no_limit = λ two none. (refl, refl, c.write_all-in_default.ensures.bytes);
      usage = λ few. absurd (omega (arith, few, c.if-words-lt2.false, length-map c.args.words.now string_bytes));
    }

pub returns-then-words-eq2-clause-said : goal.returns-then-words-eq2-clause-said
returns-then-words-eq2-clause-said g c =
    let same = second_is string_bytes c.args.words.now _ _ (omega arith) c.index-words-1.is c.as_str.ensures.value in
    let two : length (map string_bytes c.args.words.now) ≡ 2 = omega (arith, c.if-words-eq2.true, length-map c.args.words.now string_bytes) in
    record {
      line = λ n limit _.
          subst (λ n. Says g.W.Write.contents g.E.Write.contents c.args.output.now c.run_reader_within.new.output c.run_reader_within.result
          (ReportsReader g.I.Read.remaining n (LosesFront n) c.args.input.now c.run_reader_within.new.reader (codes "-")))
          (sym c.in-Some.ensures.value ∙ (rw (← same) at limit).value) c.run_reader_within.ensures.said;
      each = λ n limit more. absurd (more two);
      no_limit = λ _ none. absurd (none c.in-Some.n (rw (← same) c.in-Some.ensures));
      usage = λ few. absurd (omega (arith, few, two));
    }
