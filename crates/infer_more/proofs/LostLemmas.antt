-- Which texts are lost: some buffer is JSON, or JSON lines, and with more bytes no longer.
use Rattle.infer_more.proofs.Common.{ℕ, List, inl, inr, [], ◌∷◌, ◌++◌, ap, codes, get_or, refl, arith, CanBe, Stands, IsLost, related, json_lines, json_text, plain_text}
use Rattle.infer_formats.specs.Json.{blanks, by_rule, byte, items, next_line, nothing, one, same_line, text}
use Rattle.infer_formats.specs.Laws.{Single}
use Rattle.infer_formats.proofs.JsonLemmas.{begins}
use Rattle.infer_more.specs.Laws.{OthersAreLost}
use Rattle.infer_more.proofs.LawLemmas.{are_bytes, text_lost}

-- a list without items, and what the symbols after it stand for
list_stands : {ss : List _} {v : List ℕ} → Stands ss v → Stands (text ∷ ss) (0x5B ∷ 0x5D ∷ v)
list_stands rest =
    by_rule (byte 0x5B ∷ blanks ∷ items 127 ∷ []) (inl refl) (one (omega arith) (omega arith)
    (by_rule [] (inl refl) (by_rule (byte 0x5D ∷ []) (inl refl) (one (omega arith) (omega arith) rest))))

json_lost : Single → IsLost (related json_text)
json_lost single = (
  codes "[]",
  codes "\n[",
  are_bytes (codes "[]" ++ codes "\n[") refl,
  inl ((inl (inl refl, inl (inl (inr (inl refl))))), ([], by_rule [] (inl refl) (list_stands (by_rule [] (inl refl) nothing)))),
  λ is. elim is [
    | inl t ↦ single.json (codes "[") [] t.1
    | inr (w, e, t) ↦ omega (arith, ap (λ b. get_or b 0 0) e)
  ],
)

-- two lists, of which the second is cut, and what cannot stand in it
lines_can : CanBe (blanks ∷ text ∷ same_line ∷ []) (codes "[]\n[")
lines_can = (
  codes "]",
  by_rule [] (inl refl) (list_stands (by_rule (byte 0x0A ∷ next_line ∷ []) (inr (inr (inr (inr (inl refl))))) (one (omega arith) (omega arith)
      (by_rule (text ∷ same_line ∷ []) (inr (inr (inr (inr (inr (inl refl)))))) (list_stands (by_rule [] (inl refl) nothing)))))),
)

colon_ends : ¬ CanBe (blanks ∷ text ∷ same_line ∷ []) (codes "[]\n[:")
colon_ends (v, d) =
    let opened : Stands (blanks ∷ items 127 ∷ same_line ∷ []) (0x5D ∷ 0x0A ∷ 0x5B ∷ 0x3A ∷ v) =
    let f = (begins 3 0x5B (0x5D ∷ 0x0A ∷ 0x5B ∷ 0x3A ∷ v) (blanks ∷ text ∷ same_line ∷ [])).0 d in grind arith in
    let closed : Stands (same_line ∷ []) (0x0A ∷ 0x5B ∷ 0x3A ∷ v) =
    let f = (begins 6 0x5D (0x0A ∷ 0x5B ∷ 0x3A ∷ v) (blanks ∷ items 127 ∷ same_line ∷ [])).0 opened in grind arith in
    let ended : Stands (next_line ∷ []) (0x5B ∷ 0x3A ∷ v) = let f = (begins 2 0x0A (0x5B ∷ 0x3A ∷ v) (same_line ∷ [])).0 closed in grind arith in
    let second : Stands (blanks ∷ items 127 ∷ same_line ∷ []) (0x3A ∷ v) = let f = (begins 3 0x5B (0x3A ∷ v) (next_line ∷ [])).0 ended in grind arith in
    let f = (begins 6 0x3A v (blanks ∷ items 127 ∷ same_line ∷ [])).0 second in grind arith

lines_lost : Single → IsLost (related json_lines)
lines_lost single = (
  codes "[]\n[",
  codes ":",
  are_bytes (codes "[]\n[" ++ codes ":") refl,
  inl (lines_can, single.json (codes "[") []),
  λ is. elim is [
    | inl t ↦ colon_ends t.0
    | inr (w, e, t) ↦ omega (arith, ap (λ b. get_or b 0 0) e)
  ],
)

pub others_lost : Single → OthersAreLost
others_lost single (related json_text) other = json_lost single
others_lost single (related json_lines) other = lines_lost single
others_lost single (related plain_text) other = text_lost
others_lost single a other = absurd (cc)
