use Rattle.infer_deep.proofs.Common.{◌+◌, ◌<◌, ◌≡◌, ℕ, List, get_or, length, arith, HasClassId, IsRoot, compound_header, word_id, old_excel_id, excel_id, powerpoint_id, IsDecidingPlace, zip_header, AreApart}
use Rattle.infer_deep.proofs.FrameLemmas.{IsFramed-apart}
use Rattle.infer_deep.proofs.OfficeLemmas.{IsDecidingPlace-one}
use Rattle.infer_deep.proofs.PlaceLemmas.{OccursAt-agree, apart_at_one}
use Rattle.infer_deep.proofs.TextLemmas.{IsHtml-apart_IsXml}
use Rattle.infer_deep.proofs.laws.apart.Goals as goal

ids_apart : (v w : List ℕ) (i : ℕ) → i < length v → i < length w → (get_or v i 0 ≡ get_or w i 0 → ⊥) → AreApart (HasClassId v) (HasClassId w)
ids_apart v w i in_v in_w differ b = apart_at_one (IsRoot b) (λ p q r s. grind arith) b (λ p. p + 80) v w i in_v in_w differ

pub returns : goal.returns
returns c = record {
  framed = IsFramed-apart;
  office = λ v w (some_v, some_w, differ) b. apart_at_one (IsDecidingPlace b) (IsDecidingPlace-one b) b (λ p. p) v w 0 some_v some_w differ;
  class_id = ids_apart;
  doc_xls = λ b doc xls. grind (arith, ids_apart word_id old_excel_id 0, ids_apart word_id excel_id 0);
  doc_ppt = ids_apart word_id powerpoint_id 0 (omega arith) (omega arith) (λ e. omega arith);
  xls_ppt = λ b xls ppt. grind (arith, ids_apart old_excel_id powerpoint_id 1, ids_apart excel_id powerpoint_id 1);
  compound_zip = λ b compound zip. grind (arith, OccursAt-agree b compound_header zip_header 0 0);
  open_boxed = λ b o box. omega arith;
  html_xml = IsHtml-apart_IsXml;
}
