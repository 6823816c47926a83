use Rattle.infer_more.proofs.Common.{◌≡◌, Some, ap, sym, ◌∙◌, Triple, fields_listed}
use Rattle.infer.specs.Triple.{triple}
use Rattle.infer_more.specs.Line.{Row}
use Rattle.infer_more.proofs.FieldLemmas.{says}
use Rattle.infer_more.proofs.NameLemmas.{mime_type_ascii, name_ascii}
use Rattle.infer_more.proofs.types.line.shown.Goals as goal

pub returns-in_err-matcher_type : goal.returns-in_err-matcher_type
returns-in_err-matcher_type c = λ own e.
    let said = says (fields_listed c.args.fields) own e in
    let none = c.in_err-matcher_type.ensures ∙ said.is_class in
    absurd cc

pub returns-in_err-mime_type : goal.returns-in_err-mime_type
returns-in_err-mime_type c = λ own e.
    let said = says (fields_listed c.args.fields) own e in
    let some = c.in_err-mime_type.ensures (mime_type_ascii _ said.is_mime) in
    absurd cc

pub returns-in_err-extension : goal.returns-in_err-extension
returns-in_err-extension c = λ own e.
    let said = says (fields_listed c.args.fields) own e in
    let some = c.in_err-extension.ensures (name_ascii _ said.is_extension) in
    absurd cc

pub returns : goal.returns
returns c = λ own e.
    let f = c.args.fields in
    let said = says (fields_listed f) own e in
    let same_class : Some c.in_ok-matcher_type.matcher_type ≡ Some said.class = c.in_ok-matcher_type.ensures ∙ said.is_class in
    let class : c.in_ok-matcher_type.matcher_type ≡ said.class = cc in
    let same_mime : Some c.in_ok-mime_type.mime_type.now ≡ Some f.mime_type.now = c.in_ok-mime_type.ensures (mime_type_ascii _ said.is_mime) in
    let mime : c.in_ok-mime_type.mime_type.now ≡ f.mime_type.now = cc in
    let same_extension : Some c.in_ok-extension.extension.now ≡ Some f.extension.now = c.in_ok-extension.ensures (name_ascii _ said.is_extension) in
    let extension : c.in_ok-extension.extension.now ≡ f.extension.now = cc in
    ap (λ k. Some (triple k c.in_ok-mime_type.mime_type.now c.in_ok-extension.extension.now)) class
    ∙ ap (λ m. Some (triple said.class m c.in_ok-extension.extension.now)) mime
    ∙ ap (λ x. Some (triple said.class f.mime_type.now x)) extension
    ∙ ap (λ (t : Triple). Some t) (sym (ap (λ (r : Row). r.shows) said.is))
