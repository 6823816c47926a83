-- the token ends where what is left of it does
use Rattle.infer_formats.proofs.Common.{drop, ◌↔◌, BeginsWhole, left}
use Rattle.infer_formats.proofs.json.token.begins_whole.Given as goal

abbrev pub invariant-loop-i : goal.invariant-loop-i
invariant-loop-i l = BeginsWhole (left l.initial.token) l.buf ↔ BeginsWhole (left l.token) (drop l.i l.buf)
