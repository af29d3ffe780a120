use Rattle.std.proofs.Common.{◌≤◌, ◌+◌, length, arith}
use Rattle.ged_line.specs.Files.{joined_parts}
use Rattle.ged_c.proofs.Lengths.{respelling_fits}
use Rattle.ged_c.proofs.respelling.respell_into.Goals as goal
use Rattle.ged_tool.specs.Limits.{greatest_limit}

pub put_parts-requires : goal.put_parts-requires
put_parts-requires c =
    let within : length c.args.file.now ≤ greatest_limit = c.requires in
    let fits : length (joined_parts c.in-Ok.parts.items) ≤ length c.args.file.now + 4 = respelling_fits c.args.file.now (joined_parts c.in-Ok.parts.items) c.in-Ok.ensures.spelled in
    rw c.deref.ensures.value (omega (arith, within, fits))
