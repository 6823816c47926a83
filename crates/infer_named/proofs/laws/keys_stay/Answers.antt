use Rattle.infer_named.proofs.SameLemmas.{case_same, copy_same, folder_same}
use Rattle.infer_named.proofs.laws.keys_stay.Goals as goal

pub returns-clause-case : goal.returns-clause-case
returns-clause-case c = case_same

pub returns-clause-folders : goal.returns-clause-folders
returns-clause-folders c = folder_same

pub returns-clause-copies : goal.returns-clause-copies
returns-clause-copies c = copy_same
