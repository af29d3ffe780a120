use Rattle.ged_link.proofs.KeyLemmas.{keyed_same}
use Rattle.ged_link.proofs.ListingLemmas.{halves_within, digits_within}
use Rattle.ged_link.proofs.resolving.add_record.Goals as goal

pub name_at-name-requires-clause-names : goal.name_at-name-requires-clause-names
name_at-name-requires-clause-names g c =
    let found = c.args.found in
    let (end, after, step, listed) = c.requires.listed in
    halves_within (g.F.Forest.trees c.args.forest.now) c.args.listed found.number found.place end after listed step

pub name_at-name-requires-clause-digits : goal.name_at-name-requires-clause-digits
name_at-name-requires-clause-digits g c =
    let found = c.args.found in
    let (end, after, step, listed) = c.requires.listed in
    digits_within (g.F.Forest.trees c.args.forest.now) c.args.listed found.number found.place end after listed step

pub returns-in-Some-clause-keyed : goal.returns-in-Some-clause-keyed
returns-in-Some-clause-keyed g c names halves among =
    keyed_same names c.args.records.now c.keep_listed.new.self c.keep_listed.ensures.others.0 c.keep_listed.ensures.others.1

pub returns-in-None-clause-keyed : goal.returns-in-None-clause-keyed
returns-in-None-clause-keyed g c names halves among keyed =
    c.add_other.ensures.keyed names halves among (keyed_same names c.args.records.now c.keep_listed.new.self c.keep_listed.ensures.others.0 c.keep_listed.ensures.others.1 keyed)
