use Rattle.std.proofs.Common.{◌∙◌, ◌+◌, sym, subst}
use Rattle.std.proofs.lemmas.Bool.{false≢true}
use Rattle.ged_tree.specs.Trees.{tree}
use Rattle.ged_tree.specs.Places.{structure_at}
use Rattle.ged_tree.specs.Runs.{trees_between}
use Rattle.ged_schema.specs.declared.context.Context.TheVariants.{File}
use Rattle.std.specs.Prelude.{◌≡◌, ◌↔◌, Bool, true, refl, IsTrue}
use Rattle.ged_canon.specs.Normal.{AreNormal}
use Rattle.ged_canon.proofs.NumberTests.{seen_as, normal_from, numbers_of_normal}
use Rattle.ged_canon.proofs.normal.is_normal_in.Goals as goal
use Rattle.ged_canon.proofs.normal.is_normal_in.Goals.{then-are_normal, else-are_normal}

tested : {P : Type 0} (b : Bool) → IsTrue b ↔ P → b ≡ true → P
tested b h e = h.0 (rw e refl)

pub returns-then-are_in_order : goal.returns-then-are_in_order
returns-then-are_in_order g c =
    let d = g.F.Forest.trees c.args.forest.now in
    let s = structure_at d 0 in
    let below = trees_between d (0 + 1) c.in-Some.records in
    let records = trees_between d c.in-Some.records c.end_of_all-end.result in
    let is = seen_as d (trees_between d 0 c.end_of_all-end.result) (tree s below records) c.end_of_all-end.ensures.all c.in-Some.ensures.first in
    let document = c.end_of_all-end.ensures.document in
    elim c.if-are_normal.branch [
      | then-are_normal w ↦
          let places = subst (AreNormal c.args.edition File) c.end_of_all-end.ensures.all (tested c.are_normal.result c.are_normal.ensures w.if-are_normal.true) in
          let order = tested w.are_in_order.result w.are_in_order.ensures (sym w.value-is ∙ c.if-are_in_order.true) in
          ((λ t. normal_from c.args.edition d s below records is document places order (c.have_own_numbers.ensures.0 t)), (λ n. c.have_own_numbers.ensures.1 (numbers_of_normal c.args.edition d s below records is document n)))
      | else-are_normal w ↦ absurd (false≢true (sym w.if-are_normal.false ∙ sym w.value-is ∙ c.if-are_in_order.true))
    ]
