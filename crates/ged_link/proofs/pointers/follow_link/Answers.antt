use Rattle.std.proofs.Common.{◌≡◌, ℕ, Bool, true, false, ◌||◌, subst, Some, None, sym, ap, ◌∙◌, nat_eq, ◌&&◌}
use Rattle.std.specs.Prelude.{◌==◌}
use Rattle.ged_tree.specs.Places.{structure_at, level_at}
use Rattle.ged_tree.specs.Views.{is_pointer}
use Rattle.ged_link.specs.Indexes.{place_in}
use Rattle.ged_link.specs.inner.LinkWalks.{target, role_under, is_place, linked}
use Rattle.ged_link.specs.inner.PairSets.{lists_have}
use Rattle.ged_link.specs.inner.PointerLists.{IsPointerList}
use Rattle.ged_link.specs.inner.PointerTags.{IsTold}
use Rattle.ged_link.proofs.LedLemmas.{tells_on}
use Rattle.ged_link.proofs.PointerLemmas.{from_other}
use Rattle.ged_link.proofs.UseLemmas.{told_not_pointer, told_no_target, used_kept, dangles_kept}
use Rattle.ged_link.proofs.WalkLemmas.{no_role, no_target, not_linked, one_linked}
use Rattle.ged_link.proofs.pointers.follow_link.Goals as goal

pub returns-then-not-points : goal.returns-then-not-points
returns-then-not-points g c =
    let w = g.F.Forest.trees c.args.forest.now in
    let p = c.args.place in
    let find = place_in c.args.records.now.names.now in
    let s = structure_at w p in
    let at = (structure_at w c.args.from).tag in
    let denied : is_pointer s.payload ≡ false = sym c.points.ensures ∙ c.if-not-points.true in
    let other = told_not_pointer s.payload denied in
    record {
      used = record {
        long = c.requires.used.long;
        marked = used_kept w p c.requires.within c.args.followed.now.used.items other c.requires.used.marked;
        list = subst (λ left. IsPointerList w left c.args.followed.now.list) (from_other w p c.requires.within denied) c.requires.used.list;
        found = dangles_kept w p c.requires.within other c.requires.used.found;
        led = tells_on w p c.args.followed.now.led other c.requires.used.led;
      };
      links = λ role pair. not_linked find role at pair.1 s (level_at 0 w p == 1 && nat_eq pair.0 c.args.from) (lists_have c.args.lists.now role pair)
          (no_target find role at pair.1 s (sym (told_no_target find s.payload denied)));
      fault = tt;
    }

pub returns-in_default-clause-links : goal.returns-in_default-clause-links
returns-in_default-clause-links g c role pair =
    let w = g.F.Forest.trees c.args.forest.now in
    let find = place_in c.args.records.now.names.now in
    let s = structure_at w c.args.place in
    let at = (structure_at w c.args.from).tag in
    let here = level_at 0 w c.args.place == 1 && nat_eq pair.0 c.args.from in
    let tag : IsTold c.in_ok-pointed.pointed.told s.tag = c.in_ok-pointed.ensures.tag in
    let told : None ≡ role_under at s.tag = sym c.in_default.is ∙ c.role_under.ensures at c.requires.from ∙ sym (tag.role at) in
    not_linked find role at pair.1 s here (lists_have c.args.lists.now role pair) (no_role find role at pair.1 s told)

pub returns-clause-links : goal.returns-clause-links
returns-clause-links g c role pair =
    let w = g.F.Forest.trees c.args.forest.now in
    let find = place_in c.args.records.now.names.now in
    let s = structure_at w c.args.place in
    let at = (structure_at w c.args.from).tag in
    let direct : (level_at 0 w c.args.place == 1) ≡ true = ap (λ (level : ℕ). level == 1) (sym c.level.ensures ∙ c.if-level-ne1.false) in
    let tag : IsTold c.in_ok-pointed.pointed.told s.tag = c.in_ok-pointed.ensures.tag in
    let told : Some c.in-Some.role ≡ role_under at s.tag = sym c.in-Some.is ∙ c.role_under.ensures at c.requires.from ∙ sym (tag.role at) in
    let to : Some c.in_ok-pointed.pointed.to.place ≡ target find s.payload = sym c.in_ok-pointed.ensures.target in
    subst (λ (level : Bool). lists_have c.push.new.self role pair ≡ (((level && nat_eq pair.0 c.args.from) && is_place (linked find role at s) pair.1) || lists_have c.args.lists.now role pair)) (sym direct)
    (one_linked find role c.in-Some.role at pair.1 c.in_ok-pointed.pointed.to.place s (nat_eq pair.0 c.args.from) (lists_have c.args.lists.now role pair) (lists_have c.push.new.self role pair) told to (c.in_ok-push.ensures role pair))

pub returns-in_default-clause-fault : goal.returns-in_default-clause-fault
returns-in_default-clause-fault g c = tt

pub returns-clause-fault : goal.returns-clause-fault
returns-clause-fault g c = tt

pub returns-in_default-clause-used : goal.returns-in_default-clause-used
returns-in_default-clause-used g c = c.in_ok-pointed.ensures.used

pub returns-clause-used : goal.returns-clause-used
returns-clause-used g c = c.in_ok-pointed.ensures.used

pub follow-requires-clause-within : goal.follow-requires-clause-within
follow-requires-clause-within g c = c.requires.within

pub follow-requires-clause-records : goal.follow-requires-clause-records
follow-requires-clause-records g c = c.requires.records

pub follow-requires-clause-distinct : goal.follow-requires-clause-distinct
follow-requires-clause-distinct g c = c.requires.distinct

pub follow-requires-clause-used : goal.follow-requires-clause-used
follow-requires-clause-used g c = c.requires.used
