use Rattle.infer.proofs.Common.{◌≡◌, ℕ, List, Option, None, Some, length, option_map, take, ◌++◌, ◌-◌, ap, sym, ◌∙◌, take-append_seam, zeros}
use Rattle.infer_more.specs.Samples.{written}
use Rattle.infer_more.specs.declared.samples.TheConstants.{SAMPLE_SIZE}
use Rattle.infer_c.proofs.row.write_sample.Goals as goal

-- what is written, as long as the sample is, is the sample
taken : (sample : Option (List ℕ)) (n : ℕ) (old new : List ℕ) → Some n ≡ option_map length sample → new ≡ written sample old → sample ≡ Some (take n new)
taken None n old new counted e = absurd (cc)
taken (Some s) n old new counted e =
    let l : n ≡ length s = cc in
    ap Some (sym (ap (take n) e ∙ ap (λ k. take k (s ++ zeros (SAMPLE_SIZE - length s))) l ∙ take-append_seam s (zeros (SAMPLE_SIZE - length s))))

pub returns-in-Some-clause-sample : goal.returns-in-Some-clause-sample
returns-in-Some-clause-sample c =
    let sample = take c.in-Some.count c.sample.new.out in (
      Some sample,
      (taken _ c.in-Some.count _ _ c.in-Some.ensures.counted c.in-Some.ensures.written, c.in-Some.ensures.answers),
      c.write_whole.ensures.length,
      c.write_whole.ensures.written,
    )
