use Rattle.std.proofs.Common.{◌≡◌, ◌<◌, ◌≤◌, false, get_or, length, option_map}
use Rattle.infer_notation.specs.Fixed.{accepts, alternatives_of, given}
use Rattle.infer_notation.specs.Grammar.{unread}
use Rattle.infer_notation.specs.Words.{is_blank}
use Rattle.infer_notation.proofs.signature.accepts_fixed.Given as goal

abbrev pub invariant-loop-rest : goal.invariant-loop-rest
invariant-loop-rest l = record {
  begins : 0 < length l.rest → is_blank (get_or l.rest 0 0) ≡ false;
  read : unread l.text ≡ unread l.rest;
  within : length l.rest ≤ length l.text;
  same : given l.buf l.state 0 l.rest ≡ option_map (λ alternatives. accepts alternatives l.buf) (alternatives_of l.text);
}

abbrev pub decreases-loop-rest : goal.decreases-loop-rest
decreases-loop-rest l = length l.rest
