use Rattle.std.proofs.Common.{rules}
use Rattle.std.proofs.Math.Seq.{take-append_seam}
use Rattle.infer.specs.Buffer.{IsBuffer}
use Rattle.infer.proofs.Common.{◌≡◌, ◌⊎◌, ◌++◌, ◌∙◌, ℕ, List, ap, length, subst, sym, take, Consumes, IsAtEnd, IsDue, inner}
use Rattle.infer.proofs.read.head.read_until.Given as given
use Rattle.infer.proofs.read.head.read_until.Goals as goal

front_kept : (n m : ℕ) (xs rest : List ℕ) → length xs ≡ m → take n (take m (xs ++ rest)) ≡ take n xs
front_kept n m xs rest e = subst (λ k. take n (take k (xs ++ rest)) ≡ take n xs) e (ap (take n) (take-append_seam xs rest))

-- what is left of the room is what was read
read : (g : given.Over) (c : goal.After-are_bytes g) → take c.in-Ok.count c.fill.new.out ≡ c.truncate.new.self.items
read g c = sym (c.truncate.ensures.items ∙ front_kept _ _ _ _ (search rules))

pub returns-in-Err-clause-fault : goal.returns-in-Err-clause-fault
returns-in-Err-clause-fault g c = c.in-Err.ensures.fault

pub returns-in-Err-clause-memory : goal.returns-in-Err-clause-memory
returns-in-Err-clause-memory g c = λ e. absurd (cc)

pub returns-in-Err-clause-lost : goal.returns-in-Err-clause-lost
returns-in-Err-clause-lost g c = let l = c.in-Err.ensures.lost in (l.0, search rules, l.2)

pub returns-in-Ok-clause-bytes : goal.returns-in-Ok-clause-bytes
returns-in-Ok-clause-bytes g c = subst IsBuffer c.as_slice.ensures.value c.are_bytes.ensures

pub returns-in-Ok-clause-taken : goal.returns-in-Ok-clause-taken
returns-in-Ok-clause-taken g c = subst (Consumes _ _) (read g c) c.in-Ok.ensures.bytes

pub returns-in-Ok-clause-end : goal.returns-in-Ok-clause-end
returns-in-Ok-clause-end g c = λ few.
    let now = c.truncate.ensures.len in
    subst (λ bytes. IsAtEnd (g.R.Read.remaining (inner c.fill.new.reader)) ⊎ g.E.Enough.suffices c.args.enough.now bytes) (read g c)
    (c.in-Ok.ensures.end (search rules))

pub returns-in-Ok-clause-due : goal.returns-in-Ok-clause-due
returns-in-Ok-clause-due g c = subst (IsDue _ _) (read g c) c.in-Ok.ensures.due

pub returns-in-Ok-clause-kept : goal.returns-in-Ok-clause-kept
returns-in-Ok-clause-kept g c = subst (g.E.Enough.keeps c.fill.new.enough) (read g c) c.in-Ok.ensures.kept
