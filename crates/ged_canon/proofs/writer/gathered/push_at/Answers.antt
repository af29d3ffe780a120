use Rattle.ged_canon.proofs.writer.RankGroups.{members_placed}
use Rattle.ged_canon.proofs.writer.gathered.push_at.Goals as goal

pub returns : goal.returns
returns c = members_placed c.args.groups.now c.args.at c.index-groups-at.result c.push.new.self c.args.sibling c.requires c.in_ok-push.ensures.items
