use Rattle.std.proofs.Common.{◌≡◌, ℕ, ◌∷◌, List, Option, None, ◌+◌, ◌-◌, ◌<◌, ◌≤◌, ◌&&◌, ◌||◌, nat_eq, sym, ap, refl, subst, ◌∙◌, arith, rules}
use Rattle.std.specs.Prelude.{◌==◌}
use Rattle.ged_tree.specs.Trees.{records_of, trees_count}
use Rattle.ged_tree.specs.Places.{structure_at, level_at}
use Rattle.ged_link.specs.Indexes.{place_in}
use Rattle.ged_link.specs.declared.pairs.Role.{Role}
use Rattle.ged_link.specs.inner.LinkWalks.{is_place, linked}
use Rattle.ged_link.specs.inner.PairSets.{lists_have}
use Rattle.ged_link.proofs.LevelWalks.{IsIn, begins, goes_on, pair_before, pair_zero, pair_step, pair_all, record_place, record_tag}
use Rattle.ged_link.specs.declared.record_type.RecordType.{RecordType}
use Rattle.ged_link.proofs.TypeWalks.{IsTypedIn, type_begins, type_stays, types_start}
use Rattle.ged_link.specs.inner.PointerLists.{pointers_from, AreListedFirst}
use Rattle.ged_link.proofs.ListingLemmas.{types_long}
use Rattle.ged_link.proofs.PointerLemmas.{from_all}
use Rattle.ged_link.proofs.UseLemmas.{used_none, used_all, dangles_all}
use Rattle.ged_link.proofs.LedLemmas.{led_all}
use Rattle.ged_link.proofs.pointers.follow_pointers.Goals.{then-level-eq0+in_ok-begin_record, else-level-eq0}
use Rattle.ged_link.proofs.pointers.follow_pointers.Goals as goal

pub loop-place-init : goal.loop-place-init
loop-place-init g c =
    let w = g.F.Forest.trees c.args.forest.now in
    let types = c.args.records.now.types.now in
    record {
      used = record {
        long = sym c.in_ok-used.used.ok.0 ∙ c.in_ok-used.ensures.len ∙ types_long types (records_of w) c.requires.types;
        marked = used_none w c.in_ok-used.used.items _ (c.in_ok-used.ensures.items_if_clones_equal (λ y same. same));
        list = c.new.ensures w (pointers_from w 0) (subst (λ left. AreListedFirst c.args.listed.items left) (sym (from_all w)) c.requires.listed);
        found = search rules;
        led = search rules;
      };
      told = λ role pair. c.requires.none role pair ∙ sym (pair_zero (place_in c.args.records.now.names.now) role 0 w 0 pair refl);
      before = λ some. absurd (omega (arith, some));
      from_is = λ some. absurd (omega (arith, some));
      tag_is = λ some. absurd (omega (arith, some));
      type_is = λ some. absurd (omega (arith, some));
      left = types_start w types c.requires.records.document c.requires.types;
      few = omega arith;
    }

pub loop-place-preserved : goal.loop-place-preserved
loop-place-preserved g c =
    let w = g.F.Forest.trees c.args.forest.now in
    let find = place_in c.args.records.now.names.now in
    let types : List (Option RecordType) = None ∷ c.args.records.now.types.now in
    let p = c.loop-place.place in
    let from = c.if-level-eq0.from in
    let inv = c.loop-place.invariant in
    let inside : p < trees_count w = omega (arith, c.loop-place-test.true, c.size-place-end.ensures.count) in
    let is_in : IsIn w p c.loop-place.from inside from = elim c.if-level-eq0.branch [
      | then-level-eq0+in_ok-begin_record b ↦ begins w p c.loop-place.from inside from b.from-is (sym c.level.ensures ∙ b.if-level-eq0.true)
      | else-level-eq0 b ↦ goes_on w p c.loop-place.from inside from b.from-is (λ z. b.if-level-eq0.false (c.level.ensures ∙ z)) inv.before inv.from_is inv.tag_is
    ] in
    let kept : (role : Role) (pair : ℕ × ℕ) → lists_have c.if-level-eq0.lists role pair ≡ pair_before find role 0 w p pair = elim c.if-level-eq0.branch [
      | then-level-eq0+in_ok-begin_record b ↦ λ role pair. ap (λ lists. lists_have lists role pair) b.lists-is ∙ b.in_ok-begin_record.ensures role pair ∙ inv.told role pair
      | else-level-eq0 b ↦ λ role pair. ap (λ lists. lists_have lists role pair) b.lists-is ∙ inv.told role pair
    ] in
    let typed : IsTypedIn w types p c.loop-place.begun inside inv.left inv.few c.if-level-eq0.from c.if-level-eq0.from_type c.if-level-eq0.begun = elim c.if-level-eq0.branch [
      | then-level-eq0+in_ok-begin_record b ↦ type_begins w types p c.loop-place.begun inside inv.left inv.few c.if-level-eq0.from c.if-level-eq0.from_type c.if-level-eq0.begun
          b.from-is (b.from_type-is ∙ b.type_behind_head-from_type.ensures) b.begun-is (sym c.level.ensures ∙ b.if-level-eq0.true)
      | else-level-eq0 b ↦ type_stays w types p c.loop-place.begun inside inv.left inv.few c.if-level-eq0.from c.loop-place.from c.if-level-eq0.from_type c.loop-place.from_type c.if-level-eq0.begun
          b.from-is b.from_type-is b.begun-is (λ z. b.if-level-eq0.false (c.level.ensures ∙ z)) inv.type_is
    ] in
    let last : p + 1 - 1 ≡ p = omega arith in
    record {
      used = c.in_ok-follow_link.ensures.used;
      told = λ role pair.
          c.in_ok-follow_link.ensures.links role pair
          ∙ (λ i. ((level_at 0 w p == 1 && nat_eq pair.0 (is_in.place_is i)) && is_place (linked find role (is_in.tag_is i) (structure_at w p)) pair.1) || kept role pair i)
          ∙ sym (pair_step find role 0 w p pair inside);
      before = λ _. is_in.before;
      from_is = λ _. is_in.place_is ∙ ap (record_place 0 w) (sym last);
      tag_is = λ _. is_in.tag_is ∙ ap (record_tag w) (sym last);
      type_is = λ _. typed.is;
      left = typed.left;
      few = typed.few;
    }

pub returns-clause-used : goal.returns-clause-used
returns-clause-used g c =
    let w = g.F.Forest.trees c.args.forest.now in
    let over : c.loop-place.place ≡ trees_count w = omega (arith, c.loop-place-test.false, c.loop-place.auto.place-end, c.size-place-end.ensures.count) in
    used_all w c.loop-place.place c.loop-place.followed.used.items over c.loop-place.invariant.used.marked

pub returns-clause-led : goal.returns-clause-led
returns-clause-led g c =
    let w = g.F.Forest.trees c.args.forest.now in
    let inv = c.loop-place.invariant in
    let over : c.loop-place.place ≡ trees_count w = omega (arith, c.loop-place-test.false, c.loop-place.auto.place-end, c.size-place-end.ensures.count) in
    let all = led_all w c.loop-place.place over in
    (λ is. all.0 (inv.used.led.0 is), λ led. inv.used.led.1 (all.1 led))

pub returns-clause-found : goal.returns-clause-found
returns-clause-found g c =
    let w = g.F.Forest.trees c.args.forest.now in
    let over : c.loop-place.place ≡ trees_count w = omega (arith, c.loop-place-test.false, c.loop-place.auto.place-end, c.size-place-end.ensures.count) in
    dangles_all w c.loop-place.place over c.loop-place.invariant.used.found

pub returns-clause-links : goal.returns-clause-links
returns-clause-links g c role pair =
    let w = g.F.Forest.trees c.args.forest.now in
    let all : trees_count w ≤ c.loop-place.place = omega (arith, c.loop-place-test.false, c.size-place-end.ensures.count) in
    c.loop-place.invariant.told role pair ∙ pair_all (place_in c.args.records.now.names.now) role 0 w c.loop-place.place pair all

pub follow_link-requires-clause-from : goal.follow_link-requires-clause-from
follow_link-requires-clause-from g c =
    let w = g.F.Forest.trees c.args.forest.now in
    let types : List (Option RecordType) = None ∷ c.args.records.now.types.now in
    let p = c.loop-place.place in
    let inv = c.loop-place.invariant in
    let inside : p < trees_count w = omega (arith, c.loop-place-test.true, c.size-place-end.ensures.count) in
    let typed : IsTypedIn w types p c.loop-place.begun inside inv.left inv.few c.if-level-eq0.from c.if-level-eq0.from_type c.if-level-eq0.begun = elim c.if-level-eq0.branch [
      | then-level-eq0+in_ok-begin_record b ↦ type_begins w types p c.loop-place.begun inside inv.left inv.few c.if-level-eq0.from c.if-level-eq0.from_type c.if-level-eq0.begun
          b.from-is (b.from_type-is ∙ b.type_behind_head-from_type.ensures) b.begun-is (sym c.level.ensures ∙ b.if-level-eq0.true)
      | else-level-eq0 b ↦ type_stays w types p c.loop-place.begun inside inv.left inv.few c.if-level-eq0.from c.loop-place.from c.if-level-eq0.from_type c.loop-place.from_type c.if-level-eq0.begun
          b.from-is b.from_type-is b.begun-is (λ z. b.if-level-eq0.false (c.level.ensures ∙ z)) inv.type_is
    ] in
    typed.is

pub returns-clause-targets : goal.returns-clause-targets
returns-clause-targets g c =
    let w = g.F.Forest.trees c.args.forest.now in
    c.into_targets-targets.ensures w (pointers_from w c.loop-place.place) c.loop-place.invariant.used.list
