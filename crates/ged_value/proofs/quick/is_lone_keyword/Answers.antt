use Rattle.std.proofs.Common.{[], ◌∷◌}
use Rattle.std.proofs.lemmas.Bool.{OnTrue_from, eqb-true}
use Rattle.ged_value.proofs.QuickLaws.{keyword_of}
use Rattle.ged_value.proofs.quick.is_lone_keyword.Goals as goal

pub returns-in-Some : goal.returns-in-Some
returns-in-Some c = OnTrue_from _ _ (λ t. keyword_of (c.args.first ∷ c.args.second ∷ c.args.third ∷ []) c.in-Some.days c.in-Some.ensures (eqb-true c.in-Some.days 0 t))
