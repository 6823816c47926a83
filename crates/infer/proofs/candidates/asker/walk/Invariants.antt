-- none of the candidates so far takes the buffer, and those of them that are asked for were asked
use Rattle.infer.proofs.Common.{◌≡◌, take, AllWithin, filter, HasGiven, RowHas, Takes, is_asked}
use Rattle.infer.proofs.candidates.asker.walk.Given as goal

abbrev pub invariant-loop-row : goal.invariant-loop-row
invariant-loop-row g l = record {
  kept : g.A.Ask.buffer l.asker ≡ g.A.Ask.buffer l.fn.asker;
  refused : AllWithin (λ i. ¬ RowHas (Takes (HasGiven l.wanted) (g.A.Ask.buffer l.fn.asker)) i) l.row-items 0 l.row-index;
  asked : g.A.Ask.has_asked l.asker (filter (is_asked l.wanted) (take l.row-index l.row-items));
}
