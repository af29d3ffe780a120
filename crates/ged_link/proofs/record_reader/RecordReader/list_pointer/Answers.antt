use Rattle.std.proofs.Common.{sym, subst, List, ◌∷◌, ◌++◌, []}
use Rattle.ged_link.specs.declared.targets.Target.{Target}
use Rattle.ged_link.specs.inner.PointerLists.{AreListedPointers}
use Rattle.ged_link.proofs.PointerLemmas.{listed_more}
use Rattle.ged_link.proofs.record_reader.RecordReader.list_pointer.Goals as goal

pub returns-clause-pointers : goal.returns-clause-pointers
returns-clause-pointers c all are =
    let old = c.args.self.now.pointers.items in
    subst (λ (ts : List Target). AreListedPointers ts (all ++ (c.args.tag.now, c.args.name.now) ∷ [])) (sym c.in_ok-push.ensures.items)
    (listed_more old all c.list_pointer.result c.args.tag.now c.args.name.now c.list_pointer.ensures.told are)
