use Rattle.std.proofs.Common.{sym, ◌∙◌}
use Rattle.std.proofs.lemmas.Bool.{OnTrue_from}
use Rattle.ged_value.proofs.QuickLaws.{day_of}
use Rattle.ged_value.proofs.quick.is_day.Goals as goal

pub returns : goal.returns
returns c =
    OnTrue_from _ _ (λ t. day_of c.args.bytes.now c.args.count c.args.greatest c.requires.0 c.requires.1
    (rw (c.is_day_number-day.ensures, c.either.ensures, c.either-2.ensures, c.either-3.ensures) at (sym c.are_all.ensures ∙ t)))
