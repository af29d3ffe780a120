use Rattle.std.proofs.Common.{rules, ◌≡◌, ◌∙◌, ap, sym, subst, List, ℕ, None}
use Rattle.std.specs.HashMap.{get_by_text}
use Rattle.std.specs.Vec.{with_items}
use Rattle.std.proofs.lemmas.List.{with_items_is}
use Rattle.ged_link.specs.declared.text_slots.TextSlot.{TextSlot}
use Rattle.ged_link.specs.Texts.{kept_for, text_hash, found_text, AreWithin, HasNoRoom}
use Rattle.ged_link.proofs.TextLemmas.{added_slot, added_other}
use Rattle.ged_link.proofs.records_by_text.RecordsByText.insert.Goals as goal

pub returns-in_ok-keep_apart-clause-added : goal.returns-in_ok-keep_apart-clause-added
returns-in_ok-keep_apart-clause-added c told other =
    let key = c.args.self.now.key in
    let before = c.args.self.now.slots.items in
    let texts = c.args.self.now.texts.items in
    let kept : List ℕ → _ = λ name. kept_for before texts name (text_hash key name) in
    let first : c.deref_mut.result.now ≡ before = search rules in
    let same = c.keep_text.ensures.same (search rules) in
    let slots : (with_items c.args.self.now.slots c.keep_text.new.slots).items ≡ before = with_items_is c.args.self.now.slots c.keep_text.new.slots (search rules) ∙ same.0 ∙ first in
    let missed : kept c.args.name.now ≡ None = search rules in
    let records = c.keep_apart.new.self in
    ap (λ key. found_text key records.slots.items records.texts.items (get_by_text records.others) other) c.keep_apart.ensures.key
    ∙ ap (λ (slots : _). found_text key slots.items records.texts.items (get_by_text records.others) other) c.keep_apart.ensures.slots
    ∙ ap (λ (texts : _). found_text key (with_items c.args.self.now.slots c.keep_text.new.slots).items texts.items (get_by_text records.others) other) c.keep_apart.ensures.texts
    ∙ ap (λ (slots : List TextSlot). found_text key slots c.keep_text.new.texts.items (get_by_text records.others) other) slots
    ∙ ap (λ texts. found_text key before texts.items (get_by_text records.others) other) same.1
    ∙ added_other c.args.name.now c.args.found other kept (get_by_text c.args.self.now.others other) (get_by_text records.others other) missed (c.in_ok-keep_apart.ensures.kept other)

pub returns-else-not-branch-clause-added : goal.returns-else-not-branch-clause-added
returns-else-not-branch-clause-added c told other =
    let key = c.args.self.now.key in
    let before = c.args.self.now.slots.items in
    let texts = c.args.self.now.texts.items in
    let slots : (with_items c.args.self.now.slots c.keep_text.new.slots).items ≡ c.keep_text.new.slots = with_items_is c.args.self.now.slots c.keep_text.new.slots (search rules) in
    let first : c.deref_mut.result.now ≡ before = search rules in
    let own : c.as_bytes-3.result.now ≡ c.args.name.now = search rules in
    let keeps = rw (own, first) at (c.keep_text.ensures.kept (search rules) (text_hash key) (search rules) other) in
    ap (λ (slots : List TextSlot). found_text key slots c.keep_text.new.texts.items (get_by_text c.args.self.now.others) other) slots
    ∙ added_slot c.args.name.now c.args.found other (kept_for before texts other (text_hash key other)) (kept_for c.keep_text.new.slots c.keep_text.new.texts.items other (text_hash key other)) (get_by_text c.args.self.now.others other) keeps

pub invariant_of-self-2-clause-crowded : goal.invariant_of-self-2-clause-crowded
invariant_of-self-2-clause-crowded c told name found kept =
    let records = c.args.self.now in
    let hash = text_hash records.key name in
    let slots : (with_items records.slots c.keep_text.new.slots).items ≡ c.keep_text.new.slots = with_items_is records.slots c.keep_text.new.slots (search rules) in
    let first : c.deref_mut.result.now ≡ records.slots.items = search rules in
    let before = subst (λ slots. HasNoRoom slots hash) (sym first) (records.crowded told name found kept) in
    subst (λ slots. HasNoRoom slots hash) (sym slots) (c.keep_text.ensures.crowded hash before)

pub invariant_of-self-2-clause-within : goal.invariant_of-self-2-clause-within
invariant_of-self-2-clause-within c =
    let slots : (with_items c.args.self.now.slots c.keep_text.new.slots).items ≡ c.keep_text.new.slots = with_items_is c.args.self.now.slots c.keep_text.new.slots (search rules) in
    subst (AreWithin c.keep_text.new.texts.items) (sym slots) c.keep_text.ensures.within
