use Rattle.std.proofs.Common.{IfSome, Option, true, refl, sym, subst, ◌∙◌}
use Rattle.ged_line.specs.Bytes.{Bytes}
use Rattle.ged_link.specs.inner.Resolving.{AddsRecord}
use Rattle.ged_link.proofs.ListingLemmas.{is_listed, is_unnamed, missed_short, missed_long}
use Rattle.ged_link.proofs.names.Names.keep_listed.Goals as goal

pub returns-clause-added : goal.returns-clause-added
returns-clause-added c xref e =
    let is = is_listed c.args.listed xref e c.if-listed-eq0.false in
    subst (λ (x : Option Bytes). IfSome c.keep_in.result (AddsRecord c.args.self.now c.keep_in.new.self x c.args.found)) (sym is.is)
    (c.keep_in.ensures.added is.name is.number (is.slot c.args.self.now.slots.regions.items ∙ sym c.slot_behind-slot.ensures))

pub returns-then-listed-eq0-2-clause-added : goal.returns-then-listed-eq0-2-clause-added
returns-then-listed-eq0-2-clause-added c xref e =
    subst (λ (x : Option Bytes). AddsRecord c.args.self.now c.args.self.now x c.args.found true)
    (sym (is_unnamed c.args.listed xref e c.if-listed-eq0.true c.if-listed-eq0-2.true)) (refl, refl)

pub returns-clause-missed : goal.returns-clause-missed
returns-clause-missed c xref e named none =
    let is = is_listed c.args.listed xref e c.if-listed-eq0.false in
    missed_short c.args.self.now c.args.listed xref is c.slot_behind-slot.result (is.slot c.args.self.now.slots.regions.items ∙ sym c.slot_behind-slot.ensures)
    (c.keep_in.ensures.missed none) c.if-listed-eq0.false

pub returns-else-listed-eq0-2-clause-missed : goal.returns-else-listed-eq0-2-clause-missed
returns-else-listed-eq0-2-clause-missed c xref e named none = missed_long c.args.self.now c.args.listed xref e named c.if-listed-eq0.true c.if-listed-eq0-2.false
