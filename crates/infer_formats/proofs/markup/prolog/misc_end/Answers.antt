use Rattle.infer_formats.proofs.Common.{◌≡◌, ℕ, ◌+◌, List, Option, None, Some, inl, inr, arith, codes, get_or, FindsPlace, BeginsElement, IsEnclosed, IsMisc, IsXmlSpace}
use Rattle.infer_formats.proofs.MarkupLemmas.{no_misc}
use Rattle.infer_formats.proofs.SubsetLemmas.{comment_first, instruction_first}
use Rattle.infer_formats.proofs.markup.prolog.misc_end.Goals as goal

module _ (b : List ℕ) (p : ℕ) (no_space : ¬ IsXmlSpace (get_or b p 0)) where
  unmarked : BeginsElement (get_or b (p + 1) 0) → (q : ℕ) → ¬ IsMisc b p q
  unmarked (no_mark, no_question) = no_misc b p no_space
      (λ q i. no_question (instruction_first b p q i).1) (λ q c. no_mark (comment_first b p q c).1)

  unstarted : (¬ (get_or b p 0 ≡ 0x3C)) → (q : ℕ) → ¬ IsMisc b p q
  unstarted other = no_misc b p no_space (λ q i. other (instruction_first b p q i).0) (λ q c. other (comment_first b p q c).0)

  instruction_at_most : get_or b (p + 1) 0 ≡ 0x3F → (r : Option ℕ) → FindsPlace (IsEnclosed b (codes "<?") (codes "?>") p) r
      → FindsPlace (IsMisc b p) r
  instruction_at_most is (Some q) instruction = inr (inl instruction)
  instruction_at_most is None none =
      no_misc b p no_space none (λ q c. let mark = (comment_first b p q c).1 in omega arith)

  comment_at_most : get_or b (p + 1) 0 ≡ 0x21 → (r : Option ℕ) → FindsPlace (IsEnclosed b (codes "<!--") (codes "-->") p) r
      → FindsPlace (IsMisc b p) r
  comment_at_most is (Some q) comment = inr (inr comment)
  comment_at_most is None none =
      no_misc b p no_space (λ q i. let question = (instruction_first b p q i).1 in omega arith) none

pub returns-in-63 : goal.returns-in-63
returns-in-63 c = instruction_at_most c.args.buf.now c.args.place c.requires.no_space c.in-63.is _ c.instruction_end.ensures

pub returns-in-33 : goal.returns-in-33
returns-in-33 c = comment_at_most c.args.buf.now c.args.place c.requires.no_space c.in-33.is _ c.enclosed_end.ensures

pub returns-in_default : goal.returns-in_default
returns-in_default c =
    unmarked c.args.buf.now c.args.place c.requires.no_space (λ is. grind (arith, c.in_default), λ is. grind (arith, c.in_default))
