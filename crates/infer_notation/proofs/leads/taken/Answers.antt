use Rattle.infer_notation.proofs.Common.{refl}
use Rattle.infer_notation.specs.declared.leads.Known.TheVariants as known
use Rattle.infer_notation.proofs.LeadLemmas.{taken_more, taken_part}
use Rattle.infer_notation.proofs.leads.taken.Goals as goal

pub returns-in-Has-clause-known : goal.returns-in-Has-clause-known
returns-in-Has-clause-known c =
    taken_part c.args.reading (record { cursor = c.args.cursor; any = c.args.reading.any; last = c.both.result }) c.args.cursor c.args.effect c.args.lead c.in-Has.field-0 c.in-Has.is refl c.both.ensures

pub returns-in-Opens-clause-known : goal.returns-in-Opens-clause-known
returns-in-Opens-clause-known c =
    taken_more c.args.reading (record { cursor = c.args.cursor; any = c.either.result; last = known.Nothing }) c.args.cursor c.args.effect c.args.lead c.in-Opens.field-0 c.in-Opens.is refl c.either.ensures
