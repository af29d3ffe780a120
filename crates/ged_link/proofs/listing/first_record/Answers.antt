use Rattle.ged_link.proofs.RecordLemmas.{whole_run, records_after, records_none, empty_run}
use Rattle.ged_link.proofs.listing.first_record.Goals as goal

pub next_in_run-requires : goal.next_in_run-requires
next_in_run-requires g c = record { run = whole_run (g.F.Forest.trees c.args.forest.now) c.args.end c.requires.end }

pub returns-in-Some-clause-records : goal.returns-in-Some-clause-records
returns-in-Some-clause-records g c = records_after (g.F.Forest.trees c.args.forest.now) c.args.end c.requires.end c.in-Some.first c.in-Some.ensures

pub returns-in-None-clause-run : goal.returns-in-None-clause-run
returns-in-None-clause-run g c = empty_run (g.F.Forest.trees c.args.forest.now) c.args.end c.requires.end

pub returns-in-None-clause-records : goal.returns-in-None-clause-records
returns-in-None-clause-records g c = records_none (g.F.Forest.trees c.args.forest.now) c.args.end c.requires.end c.in-None.ensures
