use Rattle.infer.proofs.Common.{◌≡◌, ◌++◌, [], Option, Some, ap, drop, length, option_map, ◌∙◌, option_map_or, drop-replicate, Triple, triple_of}
use Rattle.infer.specs.declared.table.file_type.FileType.{FileType}
use Rattle.infer_uses.specs.Fields.{filled}
use Rattle.infer_uses.proofs.catalogue.write_mime_type.Goals as goal

-- a text written over the front of zeros fills the field
put_over_zeros : (t : FileType) (shown : Option Triple) → option_map triple_of (Some t) ≡ shown
    → t.mime_type.now ++ drop (length t.mime_type.now) (filled []) ≡ filled (option_map_or (λ s. s.mime_type) shown [])
put_over_zeros t shown is =
    let text = t.mime_type.now in
    ap (λ rest. text ++ rest) (drop-replicate (length text) 73 0) ∙ ap (λ o. filled (option_map_or (λ (s : Triple). s.mime_type) o [])) is

pub returns-in-Some : goal.returns-in-Some
returns-in-Some c =
    c.put.ensures ∙ ap (λ text. text ++ drop (length text) (filled [])) c.mime_type.ensures ∙ put_over_zeros c.in-Some.found _ c.in-Some.ensures
