use Rattle.std.proofs.Common.{◌∙◌}
use Rattle.ged_link.proofs.KeyLemmas.{keyed_short}
use Rattle.ged_link.proofs.resolving.add_short.Goals as goal

pub returns-clause-keyed : goal.returns-clause-keyed
returns-clause-keyed c names name halves is among keyed =
    let begun = c.begin_short.ensures.keyed names halves keyed.0 in
    keyed_short names c.args.records.now c.insert_short.new.self c.insert_short.result (c.insert_short.ensures.long ∙ c.begin_short.ensures.long) (c.insert_short.ensures.keyed ∙ begun.0) keyed
    (c.insert_short.ensures.held names name is among begun.1)
