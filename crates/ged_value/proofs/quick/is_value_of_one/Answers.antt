use Rattle.std.proofs.lemmas.Bool.{OnTrue_at, OnTrue_from}
use Rattle.ged_value.proofs.QuickLaws.{keyword_before}
use Rattle.ged_value.proofs.quick.is_value_of_one.Goals as goal

pub returns : goal.returns
returns c = OnTrue_from _ _ (λ t. keyword_before c.args.bytes.now c.behind_keyword.result.now c.behind_keyword.ensures (OnTrue_at t c.is_date.ensures))
