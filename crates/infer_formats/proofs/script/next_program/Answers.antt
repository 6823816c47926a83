use Rattle.infer_formats.proofs.Common.{◌≤◌, ◌∙◌, arith, false≢true, sym}
use Rattle.infer_formats.proofs.ScriptLemmas.{settings_more}
use Rattle.infer_formats.proofs.script.next_program.Goals as goal

pub loop-word-preserved : goal.loop-word-preserved
loop-word-preserved c =
    let i = c.loop-word.invariant in
    let w = c.in-Some.ensures.next in
    let some = w.word.some in
    let low = w.low in (
      omega arith,
      w.word.run.whole,
      λ k least lt is. let early = w.word.line k least in let late = w.word.run.bytes k in grind arith,
      w.word.run.ends,
      settings_more c.args.buf.now c.args.place c.loop-word.from _ _ w i.4 (c.is_setting.ensures.0 c.if-not-is_setting.false),
    )

pub returns-then-not-is_setting-clause-next : goal.returns-then-not-is_setting-clause-next
returns-then-not-is_setting-clause-next c =
    let i = c.loop-word.invariant in
    let w = c.in-Some.ensures.next in
    let low = w.low in record {
      word = w.word;
      low = omega arith;
      has = λ is. false≢true (sym c.if-not-is_setting.true ∙ c.is_setting.ensures.1 is);
      before = λ p q from lt v not.
          let between : c.loop-word.from ≤ p → ⊥ = λ le. w.before p q le lt v tt in not (i.4 p q from (omega (arith, between)) v);
    }
