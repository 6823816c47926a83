use Rattle.std.proofs.Common.{◌++◌, List, ℕ, Option, None, Some, IsNone, subst, refl, arith}
use Rattle.std.specs.Option.{option_map}
use Rattle.infer.specs.Buffer.{IsBuffer}
use Rattle.infer.specs.First.{IsAnswer, IsFirstOf}
use Rattle.infer.specs.Laws.{IsNotLater}
use Rattle.infer.specs.Row.{Row}
use Rattle.infer.specs.Rows.{AnyAccepts, rows}
use Rattle.infer.specs.Triple.{triple_of}
use Rattle.infer.specs.declared.table.file_type.FileType.{FileType}
use Rattle.test_infer.proofs.BufferLemmas.{IsBuffer-bytes}
use Rattle.test_infer.proofs.laws.get_both.Goals as goal

none_before : {S : Type 0} (P Q : Row S → Type 0) (all : List (Row S))
    → ((before after : Option ℕ) → IsFirstOf P all before → IsFirstOf Q all after → IsNotLater after before)
    → (o p : Option FileType) → IsAnswer P all (option_map triple_of o) → IsAnswer Q all (option_map triple_of p) → IsNone p → IsNone o
none_before P Q all steady None p before after e = refl
none_before P Q all steady (Some t) None before after e = absurd (steady (Some before.0) None before.1 after)
none_before P Q all steady (Some t) (Some u) before after e = absurd (cc)

pub returns : goal.returns
returns g c =
    let bytes : IsBuffer c.args.long.now = IsBuffer-bytes c.args.long.now (λ i. omega (arith, c.type_inv.long i)) in
    let same = c.requires.begins.1 in
    let after = subst (λ (b : List ℕ). IsAnswer (AnyAccepts b) (rows c.args.infer.now) (option_map triple_of c.get-2.result)) same c.get-2.ensures in
    none_before (AnyAccepts c.args.short.now) (AnyAccepts (c.args.short.now ++ c.requires.begins.0)) (rows c.args.infer.now)
    (λ o p. c.index.ensures c.args.short.now c.requires.begins.0 o p (subst IsBuffer same bytes)) c.get.result c.get-2.result c.get.ensures after
