use Rattle.std.proofs.Common.{List, ◌∙◌, ap, arith}
use Rattle.ged_tree.specs.Rows.{text_at}
use Rattle.ged_tree.specs.declared.table.packed.TextApart.{TextApart}
use Rattle.ged_tree.proofs.table.Answers.{kept_count, kept_slice, kept_text, kept_shows, kept_pointer}
use Rattle.ged_tree.proofs.table.flat.Flat.at.Goals as goal

pub index-requires : goal.index-requires
index-requires c =
    let size = kept_count c.self.inside.file.now c.self.inside.apart.items c.self.inside.structures.items c.self.inside.sizes c.self.inside.further c.self.invariant in
    let below = rw (← c.self.view_is) at c.requires in
    omega (arith, size, below, c.self.inside.structures.ok.0)

pub text_of-text-requires : goal.text_of-text-requires
text_of-text-requires c =
    let size = kept_count c.self.inside.file.now c.self.inside.apart.items c.self.inside.structures.items c.self.inside.sizes c.self.inside.further c.self.invariant in
    let below = rw (← c.self.view_is) at c.requires in
    let kept = c.by_fields-kept.result in
    let here = rw (← c.by_fields-kept.ensures) at c.index.ensures in
    rw c.as_slice.ensures.value (record {
      slice = kept_slice c.self.inside.file.now c.self.inside.apart.items c.self.inside.structures.items c.self.inside.sizes c.self.inside.further c.self.invariant c.args.place kept (omega (arith, size, below)) here;
      in_order = c.self.invariant.apart_in_order;
      some = kept_text c.self.inside.file.now c.self.inside.apart.items c.self.inside.structures.items c.self.inside.sizes c.self.inside.further c.self.invariant c.args.place kept (omega (arith, size, below)) here;
    })

pub returns : goal.returns
returns c =
    let size = kept_count c.self.inside.file.now c.self.inside.apart.items c.self.inside.structures.items c.self.inside.sizes c.self.inside.further c.self.invariant in
    let below = rw (← c.self.view_is) at c.requires in
    let kept = c.by_fields-kept.result in
    let here = rw (← c.by_fields-kept.ensures) at c.index.ensures in
    let text = c.text_of-text.ensures ∙ ap (λ (ts : List TextApart). text_at c.self.inside.file.now ts c.args.place kept) c.as_slice.ensures.value in
    let shows = kept_shows c.self.inside.file.now c.self.inside.apart.items c.self.inside.structures.items c.self.inside.sizes c.self.inside.further c.self.invariant c.args.place kept (omega (arith, size, below)) here c.text_of-text.result.now text in
    rw (← c.self.view_is) (record { tag = shows.tag; xref = shows.xref; payload = shows.payload; rest = shows.rest; spelled = shows.spelled; points = kept_pointer c.self.inside.file.now c.self.inside.apart.items c.self.inside.structures.items c.self.inside.sizes c.self.inside.further c.self.invariant c.args.place kept (omega (arith, size, below)) here })
