-- the bytes so far are those of the word
use Rattle.std.proofs.Common.{◌≡◌, ◌↔◌, ◌<◌, ℕ, IsTrue, get_or}
use Rattle.std.specs.Char.{to_ascii_lowercase}
use Rattle.mime_types.proofs.groups.is_word.Given as goal

abbrev pub invariant-loop-i : goal.invariant-loop-i
invariant-loop-i g l = IsTrue l.all ↔ ((k : ℕ) → k < l.i → to_ascii_lowercase (get_or l.text k 0) ≡ get_or l.word k 0)
