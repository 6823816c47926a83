use Rattle.std.proofs.Common.{◌≡◌, ◌≤◌, ◌<◌, ◌∙◌, ◌^◌, ℕ, ap, arith, length, refl, rules}
use Rattle.infer_label.specs.Writes.{saturated}
use Rattle.infer_label.proofs.RoomLemmas.{laid_after, laid_full, length_laid}
use Rattle.infer_label.proofs.room.Room.lay.Goals as goal

reaches : (n text room start : ℕ) → n ≡ saturated text → room ≡ start → room ≤ n → start ≤ text
reaches n text room start is same far = omega arith

counts : (n text room : ℕ) → n ≡ saturated text → n < room → room < 2 ^ 64 → n ≡ text
counts n text room is short fits = omega arith

pub returns-then-self-clause-laid : goal.returns-then-self-clause-laid
returns-then-self-clause-laid c = λ start text holds.
    holds.begins ∙ laid_full text c.args.bytes.now start (reaches _ _ _ _ holds.length (ap length holds.begins ∙ length_laid text start) c.if-self.true)

pub returns-clause-laid : goal.returns-clause-laid
returns-clause-laid c = λ start text holds.
    laid_after text c.args.bytes.now start c.args.self.now.out.now c.fill.new.room c.args.self.now.len _ holds.begins (counts _ _ _ holds.length c.if-self.false (search rules))
    c.if-self.false refl (ap length holds.begins ∙ length_laid text start) c.fill.ensures
