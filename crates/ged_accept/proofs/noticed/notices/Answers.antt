use Rattle.std.proofs.Common.{◌≡◌, [], ◌∷◌, List, length, nat_eq, true, ap, sym, subst, ◌∙◌, arith}
use Rattle.std.proofs.lemmas.Result.{IfOk-weaker}
use Rattle.ged_link.specs.declared.notices.Notice.{Notice}
use Rattle.ged_accept.specs.Notices.{AreNotices}
use Rattle.ged_accept.specs.inner.Merges.{IsMerge, second_left}
use Rattle.ged_accept.proofs.Noticing.{are_notices, are_links}
use Rattle.ged_accept.proofs.noticed.notices.Goals as goal

pub returns-in-Whole : goal.returns-in-Whole
returns-in-Whole c =
    let same = c.flat-flat.ensures in
    are_links c.args.accepted.now c.in_ok-links.links.items (rw same at c.in_ok-links.ensures) c.in-Whole.ensures

-- where there are no others, these are all
alone : (links tags : List Notice) → nat_eq (length links) 0 ≡ true → IsMerge links tags tags
alone [] tags is = second_left tags
alone (x ∷ xs) tags is = absurd (grind (arith, is))

pub returns-then-is_empty : goal.returns-then-is_empty
returns-then-is_empty c =
    let tags = c.in_ok-tags-in-Partial.tags.items in
    let merged = alone c.in_ok-links.links.items tags (ap (λ count. nat_eq count 0) (sym c.in_ok-links.links.ok.0) ∙ sym c.is_empty.ensures ∙ c.if-is_empty.true) in
    subst (λ d. AreNotices d tags) c.flat-flat.ensures
    (are_notices c.flat-flat.result.now c.in_ok-links.links.items tags tags c.in_ok-links.ensures c.in_ok-tags-in-Partial.ensures merged)

pub returns-else-is_empty : goal.returns-else-is_empty
returns-else-is_empty c = IfOk-weaker c.merge.result _ _
    (λ merged m. subst (λ d. AreNotices d merged.items) c.flat-flat.ensures
    (are_notices c.flat-flat.result.now c.in_ok-links.links.items c.in_ok-tags-in-Partial.tags.items merged.items c.in_ok-links.ensures c.in_ok-tags-in-Partial.ensures (rw (c.deref.ensures.value, c.deref-in-Partial.ensures.value) at m))) c.merge.ensures
