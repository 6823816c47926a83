use Rattle.std.proofs.Common.{◌≡◌, ◌≤◌, ◌++◌, false, length, option_map}
use Rattle.std.specs.List.{All}
use Rattle.infer_notation.specs.Grammar.{tokens_of, unread}
use Rattle.infer_notation.specs.Relations.{group_listed, is_or}
use Rattle.infer_notation.proofs.relations.read_group.Given as goal

abbrev pub invariant-loop-token : goal.invariant-loop-token
invariant-loop-token l = record {
  room : length l.group.tokens ≡ 24;
  few : l.group.count ≤ 24;
  front : All (λ t. is_or t ≡ false) (group_listed l.group);
  whole : tokens_of l.text ≡ option_map (λ ts. group_listed l.group ++ ts) (tokens_of l.rest);
  fits : length l.rest ≤ length l.text;
  read : unread l.text ≡ unread l.rest;
}

abbrev pub decreases-loop-token : goal.decreases-loop-token
decreases-loop-token l = length l.rest
