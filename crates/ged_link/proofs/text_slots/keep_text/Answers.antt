use Rattle.std.proofs.Common.{refl, ◌≡◌, ◌++◌, rules, set, subst, sym, List, ℕ, length}
use Rattle.ged_link.proofs.TextLemmas.{keeps_text, stays_crowded}
use Rattle.ged_link.specs.inner.Texts.{KeepsText, IsSlotFor}
use Rattle.ged_link.proofs.text_slots.keep_text.Goals as goal

pub returns-clause-kept : goal.returns-clause-kept
returns-clause-kept c told =
    let slots = c.args.slots.now in
    let texts = c.args.texts.now.items in
    let slot = c.in-Some-slot_for.slot in
    let grown : c.extend_from_slice.new.self.items ≡ texts ++ c.args.name.now = search rules in
    let may = c.in-Some.ensures.free in
    let is : IsSlotFor c.args.hash (length texts) c.args.name.now c.args.found slot = search rules in
    subst (λ (bytes : List ℕ). KeepsText slots texts (set slots c.in-Some.at slot) bytes c.args.name.now c.args.hash c.args.found) (sym grown)
    (keeps_text slots texts c.args.name.now c.args.hash c.in-Some.at c.args.found slot c.requires.within may is c.requires.named c.requires.missed)

pub returns-in_default-clause-full : goal.returns-in_default-clause-full
returns-in_default-clause-full c told fits = c.in_default.ensures.full refl

pub returns-clause-crowded : goal.returns-clause-crowded
returns-clause-crowded c other = stays_crowded c.args.slots.now other c.in-Some.at c.in-Some-slot_for.slot (search rules)
