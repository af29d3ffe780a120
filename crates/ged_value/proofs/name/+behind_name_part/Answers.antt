use Rattle.ged_value.proofs.NameLaws.{one_byte_more}
use Rattle.ged_value.proofs.name.+behind_name_part.Goals as goal

pub returns-in-len1-up : goal.returns-in-len1-up
returns-in-len1-up t c = one_byte_more c.args.bytes.now c.behind_name_part.result.now c.is_name_byte.result c.in-len1-up.len_at_least c.if-is_name_byte.true c.is_name_byte.ensures c.behind_name_part.ensures
