use Rattle.std.proofs.Common.{arith, ◌≤◌}
use Rattle.ged_schema.proofs.NoticeLaws.{one_way_lines, unlisted_lines, first_link, first_tag, no_unlisted, no_one_way}
use Rattle.ged_schema.proofs.profile.first_notice.Goals as goal

pub returns-then-link-tag : goal.returns-then-link-tag
returns-then-link-tag g c =
    let d = g.F.Forest.trees c.args.forest.now in
    let link = c.in-Some-Some.link in
    let tag = c.in-Some-Some.tag in
    let before : link ≤ tag = omega (arith, c.if-link-tag.true) in
    first_link d link c.in-Some-Some.ensures (λ q h. let l = unlisted_lines d tag c.in-Some-Some.ensures' q h in omega (arith, before, l))

pub returns-else-link-tag : goal.returns-else-link-tag
returns-else-link-tag g c =
    let d = g.F.Forest.trees c.args.forest.now in
    let link = c.in-Some-Some.link in
    let tag = c.in-Some-Some.tag in
    let before : tag ≤ link = omega (arith, c.if-link-tag.false) in
    first_tag d tag c.in-Some-Some.ensures' (λ q h. let l = one_way_lines d link c.in-Some-Some.ensures q h in omega (arith, before, l))

pub returns-in-Some-None : goal.returns-in-Some-None
returns-in-Some-None g c =
    let d = g.F.Forest.trees c.args.forest.now in
    first_link d c.in-Some-None.link c.in-Some-None.ensures (no_unlisted d c.in-Some-None.link c.in-Some-None.ensures')

pub returns-in-None-Some : goal.returns-in-None-Some
returns-in-None-Some g c =
    let d = g.F.Forest.trees c.args.forest.now in
    first_tag d c.in-None-Some.tag c.in-None-Some.ensures (no_one_way d c.in-None-Some.tag (rw c.in-None-Some.is-0 at c.first_one_way.ensures))
