use Rattle.std.proofs.Common.{◌≡◌, true, Bool, Some, is_none, sym, ◌∙◌, ap, refl, subst}
use Rattle.ged_link.specs.declared.names.Names.{Names}
use Rattle.ged_link.specs.inner.Resolving.{AddsRecord}
use Rattle.ged_link.specs.inner.Slots.{kept_at}
use Rattle.ged_link.proofs.NameLemmas.{adds_kept, told_none}
use Rattle.ged_link.proofs.names.Names.keep_in.Goals as goal

pub returns-in-Some-true-clause-added : goal.returns-in-Some-true-clause-added
returns-in-Some-true-clause-added c name is at =
    let old : Names = c.args.self.now in
    let new : Names = record { slots = c.keep.new.self; short = old.short; long = old.long } in
    let kept = c.keep.ensures.kept (c.in-Some-true.is ∙ ap Some c.in-Some-true.field-0-test) in
    let free : is_none (kept_at old.slots c.args.slot c.args.number) ≡ true = sym c.in-Some-true.ensures.is_new ∙ c.in-Some-true.field-0-test in
    subst (λ (is_new : Bool). AddsRecord old new (Some name) c.args.found is_new)
    (sym (told_none c.is_none.result c.copied.result c.is_none.ensures ∙ ap is_none (c.copied.ensures ∙ c.find_short.ensures)))
    (adds_kept old new name c.args.found c.args.number is c.args.slot at free kept refl refl)
