use Rattle.std.proofs.Common.{List, take, sym, ap, ◌∙◌, subst}
use Rattle.std.specs.List.{AllByRecursion}
use Rattle.std.proofs.lemmas.List.{take_more, take_all}
use Rattle.ged_canon.specs.declared.writer.rank.TaggedSibling.{TaggedSibling}
use Rattle.ged_canon.specs.inner.Siblings.{HasOwnTag, untagged}
use Rattle.ged_canon.proofs.writer.SortKeys.{untagged_next, tagged_next}
use Rattle.ged_canon.proofs.writer.compared.tagged_siblings.Goals as goal

pub loop-each-init : goal.loop-each-init
loop-each-init g c = record {
  siblings = ap untagged c.in_ok-tagged.ensures.items;
  tags = subst (λ (l : List TaggedSibling). AllByRecursion (HasOwnTag (g.F.Forest.trees c.args.forest.now)) l) (sym c.in_ok-tagged.ensures.items) tt;
}

pub loop-each-preserved : goal.loop-each-preserved
loop-each-preserved g c =
    let more = c.in_ok-push.ensures.items in
    let so_far = c.loop-each.invariant in
    record {
      siblings = untagged_next _ _ _ (take c.loop-each.each-index c.args.siblings.now) more so_far.siblings ∙ sym (take_more c.args.siblings.now c.loop-each.each-index _ c.loop-each-test.true);
      tags = tagged_next (g.F.Forest.trees c.args.forest.now) _ _ _ more so_far.tags c.tag-tag.ensures;
    }

pub returns-clause-siblings : goal.returns-clause-siblings
returns-clause-siblings g c = c.loop-each.invariant.siblings ∙ take_all c.loop-each.each-index c.args.siblings.now c.loop-each-test.false

pub returns-clause-tags : goal.returns-clause-tags
returns-clause-tags g c = c.loop-each.invariant.tags
