use Rattle.std.proofs.Common.{◌∙◌, length, refl, arith}
use Rattle.ged_tree.proofs.table.Tags.{tag_boundary, part_boundary, tag_fits, rest_alone, rest_whole}
use Rattle.ged_tree.proofs.table.structure.rest_between.Goals as goal

pub overflow_add-end : goal.overflow_add-end
overflow_add-end c =
    let line = c.requires.0 in
    let fits = tag_fits line c.args.text.now c.requires.1.0 c.args.start (length line.tag) c.requires.1.1 refl in
    omega (arith, c.requires.1.2, fits)

pub range-requires-clause-start_boundary : goal.range-requires-clause-start_boundary
range-requires-clause-start_boundary c =
    let line = c.requires.0 in
    λ l. tag_boundary line c.args.text.now c.requires.1.0 c.args.start (length line.tag) c.requires.1.1 refl

pub range-requires-clause-end_boundary : goal.range-requires-clause-end_boundary
range-requires-clause-end_boundary c =
    let line = c.requires.0 in
    rw c.requires.1.2 (part_boundary line c.args.text.now c.requires.1.0 c.args.start (length line.tag) c.requires.1.1 refl)

pub range_from-requires : goal.range_from-requires
range_from-requires c =
    let line = c.requires.0 in
    λ l. tag_boundary line c.args.text.now c.requires.1.0 c.args.start (length line.tag) c.requires.1.1 refl

pub returns-then-text-end : goal.returns-then-text-end
returns-then-text-end c line h =
    (rw h.2 at c.range.ensures.value)
    ∙ rest_alone line c.args.text.now h.0 c.args.start (length line.tag) h.1 refl (omega (arith, c.if-text-end.true, h.2))

pub returns : goal.returns
returns c line h =
    c.range_from.ensures.value
    ∙ rest_whole line c.args.text.now h.0 c.args.start (length line.tag) h.1 refl (λ z. c.if-text-end.false (omega (arith, z, h.2)))
