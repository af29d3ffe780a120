use Rattle.std.proofs.Common.{ap, ◌∙◌, rules}
use Rattle.ged_schema.specs.declared.context.Context.TheVariants.{File}
use Rattle.ged_accept.specs.Shown.{shown}
use Rattle.ged_accept.proofs.Showing.{stops_emptied}
use Rattle.ged_accept.proofs.show.write_shown.Goals as goal

pub returns-in_err-flush_buffer-clause-err : goal.returns-in_err-flush_buffer-clause-err
returns-in_err-flush_buffer-clause-err g c =
    let (written, took, front) = stops_emptied c.clear.ensures.items c.in_ok-write_run.ensures.ok.1 c.in_err-flush_buffer.ensures.err.1 in
    let told = ap (shown 0 File) (c.end_of_all.ensures.all ∙ c.flat-flat.ensures) in
    search rules
