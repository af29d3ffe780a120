use Rattle.std.proofs.Common.{arith}
use Rattle.ged_value.proofs.NameLaws.{about_surname, without_surname}
use Rattle.ged_value.proofs.name.is_plain_name.Goals as goal

pub returns-in-47 : goal.returns-in-47
returns-in-47 c is =
    rw (← c.as_bytes.ensures.value) (about_surname c.as_bytes.result.now c.behind_name_part.result.now c.behind_name_part.ensures c.in-47.len_at_least (omega arith) (c.is_surname_and_more.ensures is))

pub returns-in_default : goal.returns-in_default
returns-in_default c is = rw (← c.as_bytes.ensures.value) (without_surname c.as_bytes.result.now c.behind_name_part.result.now c.behind_name_part.ensures (grind (arith, is, c.is_empty.ensures)))
