use Rattle.std.proofs.Common.{◌≡◌, drop}
use Rattle.infer_named.specs.Listed.{texts}
use Rattle.infer_uses.specs.Uploads.{has}
use Rattle.infer_uses.proofs.upload.has.Given as goal

abbrev pub invariant-loop-it : goal.invariant-loop-it
invariant-loop-it l = has (texts (drop l.it-index l.list)) l.fn.mime_type ≡ has (texts l.list) l.fn.mime_type
