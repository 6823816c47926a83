use Rattle.std.proofs.Common.{option_map}
use Rattle.mime_types.specs.Seen.{mime_of}
use Rattle.infer_c.proofs.MimeLemmas.{says_of}
use Rattle.infer_c.proofs.mime.said.Goals as goal

pub returns-clause-says : goal.returns-clause-says
returns-clause-says c = says_of c.args.text.now (option_map mime_of c.parse.result) c.parse.ensures.says
