-- the bytes so far are those of a word, its name begins after the last "/", and "=" is told
use Rattle.infer_formats.proofs.Common.{◌≡◌, ◌↔◌, ℕ, ◌-◌, ◌<◌, ◌≤◌, IsTrue, get_or, IsWordByte, HasEquals}
use Rattle.infer_formats.proofs.script.read_word.Given as goal

abbrev pub invariant-loop-to : goal.invariant-loop-to
invariant-loop-to l =
    ((k : ℕ) → l.from ≤ k → k < l.to → IsWordByte (get_or l.buf k 0))
    × (l.from ≤ l.name)
    × (l.name ≤ l.to)
    × (l.from < l.name → get_or l.buf (l.name - 1) 0 ≡ 0x2F)
    × ((k : ℕ) → l.name ≤ k → k < l.to → ¬ (get_or l.buf k 0 ≡ 0x2F))
    × (IsTrue l.has_equals ↔ HasEquals l.buf l.from l.to)
