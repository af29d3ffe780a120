use Rattle.std.proofs.Common.{◌∙◌, ap, ◌++◌, map}
use Rattle.ged_schema.specs.Unlisted.{unlisted_notice}
use Rattle.ged_schema.proofs.ListingLaws.{are_unlisted}
use Rattle.ged_schema.proofs.notices.unlisted.Goals as goal

pub returns : goal.returns
returns g c =
    let d = g.F.Forest.trees c.args.forest.now in
    let (places, lists, items) = c.in_ok-push_unlisted.ensures in
    (places, are_unlisted d places (rw c.end_of_all.ensures.all at lists), items ∙ ap (λ before. before ++ map (unlisted_notice d) places) c.new-notices.ensures.items)
