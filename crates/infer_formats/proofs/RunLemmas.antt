-- A run ends at one place, and what follows a byte begins at one.
use Rattle.infer_formats.proofs.Common.{◌≡◌, ℕ, ◌-◌, ◌<◌, List, arith, IsAfterLast, IsRun}

pub one_run_end : (P : ℕ → Type 0) (b : List ℕ) (from to other : ℕ) → IsRun P b from to → IsRun P b from other → to ≡ other
one_run_end P b from to other r s =
    let early = λ (lt : to < other). r.ends (s.bytes to r.order lt) in
    let late = λ (lt : other < to). s.ends (r.bytes other s.order lt) in
    grind arith

pub one_after_last : (x : ℕ) (b : List ℕ) (from to at other : ℕ) → IsAfterLast x b from to at → IsAfterLast x b from to other → at ≡ other
one_after_last x b from to at other n m =
    let early = λ (lt : at < other). n.last (other - 1) (omega arith) (omega arith) (m.begins (omega arith)) in
    let late = λ (lt : other < at). m.last (at - 1) (omega arith) (omega arith) (n.begins (omega arith)) in
    grind arith
