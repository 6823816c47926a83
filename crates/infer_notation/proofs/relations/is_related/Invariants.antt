use Rattle.std.proofs.Common.{◌≡◌, ◌≤◌, Bool, IfSome, Option, length, option_map}
use Rattle.infer_notation.specs.Grammar.{unread}
use Rattle.infer_notation.specs.Relations.{IsSeen, left_length, relations_of}
use Rattle.infer_notation.proofs.SeenLemmas.{IsLeft, left_items}
use Rattle.infer_notation.proofs.relations.is_related.Given as goal

-- what is made of the alternatives to come, with what was made of those before, is made of all
abbrev pub invariant-loop-rest : goal.invariant-loop-rest
invariant-loop-rest l = record {
  seen : (x : Option Bool) → IsLeft l.any (left_items l.takes (option_map (λ t. t.now) l.rest)) l.buf x → IsSeen (relations_of l.text) l.buf x;
  after : IfSome l.rest (λ more. (unread l.text ≡ unread more.now) × (length more.now ≤ length l.text));
}

abbrev pub decreases-loop-rest : goal.decreases-loop-rest
decreases-loop-rest l = left_length (option_map (λ t. t.now) l.rest)
