use Rattle.std.proofs.Common.{sym, ◌∙◌}
use Rattle.ged_link.specs.Indexes.{place_in}
use Rattle.ged_link.proofs.PairLemmas.{no_one_way}
use Rattle.ged_link.proofs.links.find_one_way.Goals as goal

pub returns-then-are_answered : goal.returns-then-are_answered
returns-then-are_answered g c =
    c.new.ensures.items ∙ sym (no_one_way (place_in c.args.records.now.names.now) (g.F.Forest.trees c.args.forest.now) c.args.lists c.requires.links (c.are_answered.ensures c.if-are_answered.true))
