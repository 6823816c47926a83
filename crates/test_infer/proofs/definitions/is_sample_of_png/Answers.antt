use Rattle.std.proofs.Common.{◌↔◌, ◌≡◌, ◌++◌, ◌-◌, [], get_or, length, take}
use Rattle.infer.specs.BuiltIn.{BuiltIn, html}
use Rattle.infer.specs.Row.{Row}
use Rattle.infer.specs.Samples.{HoldsSample, zeros}
use Rattle.infer.specs.Table.{row, table}
use Rattle.infer.specs.declared.samples.TheConstants.{SAMPLE_SIZE}
use Rattle.infer.specs.declared.table.file_type.MatcherType.TheVariants.{Text}
use Rattle.infer.specs.declared.table.rows.TheConstants.{PNG}
use Rattle.test_infer.proofs.OneLemmas.{told_sample}
use Rattle.test_infer.proofs.definitions.is_sample_of_png.Goals as goal

pub returns-in-Some : goal.returns-in-Some
returns-in-Some c =
    let front = c.args.front.now in
    let told : (d : Row BuiltIn) → (take c.in-Some.count c.sample.new.out ≡ front) ↔ HoldsSample (length front) (front ++ zeros (SAMPLE_SIZE - length front)) (get_or table PNG d) =
    λ d. told_sample c.in-Some.count front c.sample.new.out (get_or table PNG d) (c.in-Some.ensures.holds d)
    in
    (λ t d. (told d).0 (c.are_equal.ensures.0 t), λ h. let d = row Text [] [] html in c.are_equal.ensures.1 ((told d).1 (h d)))
