-- A buffer for each case that it alone keeps open, and one that is a byte too short.
use Rattle.infer_sniff.proofs.Common.{◌≡◌, ℕ, List, ◌++◌, length, take, drop, Option, Some, sym, subst, ap, ◌∙◌, arith, length-append, length-take-le, take-append-drop, Begins, BeginsAlone, last_after, IsFirst, IsFirstOf, Breaks, Accepts, table, IsOneShort, IsSettled, KeepsOpen, RowStaysFinal}
use Rattle.infer.specs.Buffer.{IsBuffer}
use Rattle.infer.specs.declared.beginnings.Beginning.{Beginning}

module _ (single : (b : List ℕ) (o p : Option ℕ) → IsFirstOf (Accepts b) table o → IsFirstOf (Accepts b) table p → o ≡ p) where
  module _ (n i : ℕ) (buf : List ℕ) (h : Breaks n i buf) where
    short : length (take n buf) ≡ n
    short = length-take-le n buf (let l = h.long in omega arith)

    brought : IsFirst (Accepts (take n buf ++ drop n buf)) table i
    brought = subst (λ b. IsFirst (Accepts b) table i) (sym (take-append-drop n buf)) h.first

    changed : (row : Option ℕ) → IsFirstOf (Accepts (take n buf)) table row → ¬ IsFirstOf (Accepts (take n buf ++ drop n buf)) table row
    changed row before after =
        h.other (single (take n buf) h.front row h.front_first before ∙ single (take n buf ++ drop n buf) row (Some i) after brought)

  -- a buffer is one also cut in two
  pub joined_bytes : (n i : ℕ) (buf : List ℕ) → Breaks n i buf → IsBuffer (take n buf ++ drop n buf)
  joined_bytes n i buf h = subst IsBuffer (sym (take-append-drop n buf)) h.bytes

  pub one_short : (i : ℕ) (buf : List ℕ) → length buf ≡ 1024 → Breaks 1023 i buf → ((how : Beginning) → ¬ Begins how (take 1023 buf))
      → IsOneShort (take 1023 buf) (drop 1023 buf)
  one_short i buf long h none = record {
    short = short 1023 i buf h;
    one = (let e = ap length (take-append-drop 1023 buf) in omega (arith, e, long, length-append (take 1023 buf) (drop 1023 buf), short 1023 i buf h));
    none = none;
    changes = changed 1023 i buf h;
  }

  pub kept_open : ((b : List ℕ) (row : Option ℕ) → IsFirstOf (Accepts b) table row → IsSettled b → RowStaysFinal b row) → (how : Beginning) (buf : List ℕ)
      → Breaks 1024 (last_after how) buf → BeginsAlone how (take 1024 buf) → KeepsOpen how (take 1024 buf) (drop 1024 buf)
  kept_open stays how buf h alone =
      let b = take 1024 buf in
      let other = changed 1024 (last_after how) buf h in
      record {
        long = (let e = short 1024 (last_after how) buf h in omega arith);
        holds = alone.0;
        alone = alone.1;
        unsettled = λ settled. other h.front h.front_first (stays b h.front h.front_first settled (drop 1024 buf)).0;
        own = λ first. h.other (single b h.front (Some (last_after how)) h.front_first first);
        brought = brought 1024 (last_after how) buf h;
      }
