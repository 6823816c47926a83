-- What a buffer's first rows tell of it, as it is and as it grows.
use Rattle.std.proofs.Common.{◌≡◌, ◌≢◌, ◌↔◌, ◌<◌, ◌∙◌, ℕ, Bool, true, false, not, List, [], ◌++◌, Option, None, Some, IsTrue, length, take, subst, sym, refl}
use Rattle.std.proofs.lemmas.List.{append-nil}
use Rattle.infer.specs.Arrivals.{Begins}
use Rattle.infer.specs.Buffer.{IsBuffer}
use Rattle.infer.specs.First.{IsFirst, IsFirstOf}
use Rattle.infer.specs.Laws.{Breaks}
use Rattle.infer.specs.Row.{Accepts}
use Rattle.infer.specs.Table.{table}
use Rattle.infer.proofs.FirstLemmas.{IsFirstOf-same}
use Rattle.infer_sniff.specs.Verdicts.{IsOneShort, IsSettled, RowStaysFinal, StaysFinal}
use Rattle.infer.specs.declared.beginnings.Beginning.{Beginning}
use Rattle.infer_sniff.specs.declared.verdict.Verdict.TheVariants.{Final}

negated : {X : Type 0} (told : Bool) → IsTrue told ↔ X → IsTrue (not told) ↔ (¬ X)
negated true tells = (λ t. absurd (cc), λ never. absurd (never (tells.0 refl)))
negated false tells = (λ t x. absurd (let e = tells.1 x in cc), λ never. refl)

-- the first row of the buffer, and whether it is told that it stays
module _ (b : List ℕ) (o : Option ℕ) (settled : Bool) (first : IsFirstOf (Accepts b) table o) (told : IsTrue settled ↔ IsSettled b)
    (lasts : IsTrue settled → RowStaysFinal b o) where
  is_now : (row : Option ℕ) → RowStaysFinal b row → IsFirstOf (Accepts b) table row × IsSettled b
  is_now row stays = subst (λ u. IsFirstOf (Accepts u) table row × IsSettled u) (append-nil b) (stays [])

  pub stays : (row : Option ℕ) → o ≡ row → IsTrue settled ↔ RowStaysFinal b row
  stays row e = (λ t. subst (RowStaysFinal b) e (lasts t), λ h. told.1 (is_now row h).1)

  pub stays_not : (row : Option ℕ) → o ≢ row → IsTrue false ↔ RowStaysFinal b row
  stays_not row other = (λ t. absurd (cc), λ h. absurd (other (IsFirstOf-same (Accepts b) table o row first (is_now row h).0)))

pub verdict_stays : (b : List ℕ) (told : Bool) → IsTrue told ↔ RowStaysFinal b None → IsTrue told ↔ StaysFinal b (Final None)
verdict_stays b told tells = (
  λ t more. let h = tells.0 t more in (h.0, (h.1, h.0)),
  λ h. tells.1 (λ more. ((h more).0, (h more).1.0)),
)

-- the first row of a beginning of the buffer is told to be row i, or not
module _ (n i : ℕ) (b : List ℕ) (o : Option ℕ) (same : Bool) (bytes : IsBuffer b) (long : n < length b) (first : IsFirst (Accepts b) table i)
    (front : IsFirstOf (Accepts (take n b)) table o) (told : IsTrue same ↔ (o ≡ Some i)) where
  pub breaks : IsTrue (not same) ↔ Breaks n i b
  breaks = (
    λ t. record { bytes = bytes; long = long; first = first; front = o; front_first = front; other = (negated same told).0 t },
    λ h. (negated same told).1 (λ e. h.other (IsFirstOf-same (Accepts (take n b)) table h.front o h.front_first front ∙ e)),
  )

-- the first row of the buffer, and that with one byte more, are told to be the same, or not
module _ (b more : List ℕ) (o p : Option ℕ) (same : Bool) (short : length b ≡ 1023) (one : length more ≡ 1) (none : (how : Beginning) → ¬ Begins how b)
    (first : IsFirstOf (Accepts b) table o) (then : IsFirstOf (Accepts (b ++ more)) table p) (told : IsTrue same ↔ (o ≡ p)) where
  changes : o ≢ p → (row : Option ℕ) → IsFirstOf (Accepts b) table row → ¬ IsFirstOf (Accepts (b ++ more)) table row
  changes other row here there =
      other (IsFirstOf-same (Accepts b) table o row first here ∙ IsFirstOf-same (Accepts (b ++ more)) table row p there then)

  pub one_short : IsTrue (not same) ↔ IsOneShort b more
  one_short = (
    λ t. record { short = short; one = one; none = none; changes = changes ((negated same told).0 t) },
    λ h. (negated same told).1 (λ e. h.changes o first (subst (IsFirstOf (Accepts (b ++ more)) table) (sym e) then)),
  )
