use Rattle.std.proofs.Common.{◌-◌, ◌&&◌, length, arith}
use Rattle.std.proofs.lemmas.Bool.{and_parts}
use Rattle.ged_canon.proofs.writer.SameRuns.{same_few}
use Rattle.ged_canon.proofs.writer.same.are_same_few.Goals as goal

pub returns : goal.returns
returns c = λ set.
    let halves = and_parts (c.is_same_short_run.result && c.is_same_short_run-2.result) (c.is_same_short_run-3.result && c.is_same_short_run-4.result) set in
    let front = and_parts c.is_same_short_run.result c.is_same_short_run-2.result halves.0 in
    let back = and_parts c.is_same_short_run-3.result c.is_same_short_run-4.result halves.1 in
    let last = length c.args.text.now - 8 in
    same_few c.args.text.now c.args.other.now 8 c.min-second.result c.saturating_sub-third.result last
    (omega (arith, c.min-second.ensures)) (omega (arith, c.min-second.ensures, c.saturating_sub-third.ensures, c.requires.few)) (omega (arith, c.saturating_sub-third.ensures))
    (omega (arith, c.requires.some)) (omega (arith, c.requires.some, c.requires.alike))
    (c.is_same_short_run.ensures front.0) (c.is_same_short_run-2.ensures front.1) (c.is_same_short_run-3.ensures back.0) (c.is_same_short_run-4.ensures back.1)
