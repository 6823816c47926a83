use Rattle.std.proofs.Common.{◌≡◌, ℕ, List, Ok, Option, ap, length, rules, subst}
use Rattle.infer.specs.Buffer.{head}
use Rattle.infer.specs.First.{IsAnswer}
use Rattle.infer.specs.Row.{Row}
use Rattle.infer.specs.Rows.{AnyAccepts, rows}
use Rattle.infer.specs.Triple.{Triple}
use Rattle.test_infer.proofs.laws.answers_of_both.Goals as goal

of_front : {S : Type 0} (P : List ℕ → Row S → Type 0) (rows : List (Row S)) (n m : ℕ) (s t : List ℕ) (o : Option Triple) → n ≡ m → s ≡ t
    → IsAnswer (P (head n s)) rows o → IsAnswer (P (head m t)) rows o
of_front P rows n m s t o e f h =
    subst (λ (k : ℕ). IsAnswer (P (head k t)) rows o) e (subst (λ (b : List ℕ). IsAnswer (P (head n b)) rows o) f h)

pub returns : goal.returns
returns g c =
    let first : length c.get_from_reader_in.new.room ≡ 64 = search rules in
    let second : length c.get_from_reader_in-2.new.room ≡ 64 = search rules in
    c.readers.ensures 64 c.args.a.now c.args.b.now (Ok c.in_ok-one.one) (Ok c.in_ok-other.other) c.requires
    (of_front AnyAccepts (rows c.args.infer.now) _ _ _ _ _ first (ap (λ r. r.now) c.new.ensures.reader) c.in_ok-one.ensures.answer.answer)
    (of_front AnyAccepts (rows c.args.infer.now) _ _ _ _ _ second (ap (λ r. r.now) c.new-2.ensures.reader) c.in_ok-other.ensures.answer.answer)
