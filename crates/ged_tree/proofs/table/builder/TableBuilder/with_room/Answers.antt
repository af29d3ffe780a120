use Rattle.std.proofs.Common.{[], refl}
use Rattle.ged_tree.proofs.table.Taking.{roomier}
use Rattle.ged_tree.proofs.table.builder.TableBuilder.with_room.Goals as goal

pub returns-clause-lines : goal.returns-clause-lines
returns-clause-lines c = roomier c.new-table.result _ [] refl refl refl refl refl c.in_ok-reserve.ensures.items c.in_ok-reserve-2.ensures c.new-table.ensures.lines
