-- the root element tells whether one of the alternatives so far accepts
use Rattle.infer_formats.specs.Markup.{DecidesByRoot}
use Rattle.infer_more.proofs.Common.{Fits, alternative_listed, take}
use Rattle.infer_more.proofs.OpenLemmas.{SomeOf}
use Rattle.infer_more.proofs.deciding_bytes.accepts_root.Given as goal

abbrev pub invariant-loop-alternative : goal.invariant-loop-alternative
invariant-loop-alternative l =
    DecidesByRoot l.root (λ b. SomeOf alternative_listed (λ a. Fits a b) (take l.alternative-index l.signature)) l.accepts
