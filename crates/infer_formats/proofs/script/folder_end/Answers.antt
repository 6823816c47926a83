use Rattle.infer_formats.proofs.Common.{codes, refl}
use Rattle.infer_formats.proofs.ScriptLemmas.{path_is_folder}
use Rattle.infer_formats.proofs.script.folder_end.Goals as goal

pub returns-then-same_at : goal.returns-then-same_at
returns-then-same_at c = path_is_folder c.args.buf.now (codes "/usr/bin/") c.args.from refl refl (c.same_at.ensures.0 c.if-same_at.true)

pub returns-then-same_at-2 : goal.returns-then-same_at-2
returns-then-same_at-2 c = path_is_folder c.args.buf.now (codes "/usr/local/bin/") c.args.from refl refl (c.same_at-2.ensures.0 c.if-same_at-2.true)
