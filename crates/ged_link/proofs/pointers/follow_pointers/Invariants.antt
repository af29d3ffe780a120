use Rattle.std.proofs.Common.{◌≡◌, ℕ, ◌<◌, ◌≤◌, ◌-◌, ◌∷◌, drop, None}
use Rattle.ged_tree.specs.Places.{structure_at}
use Rattle.ged_link.specs.Indexes.{place_in}
use Rattle.ged_link.specs.RecordTypes.{IsTypeOf}
use Rattle.ged_link.specs.inner.PairSets.{lists_have}
use Rattle.ged_link.specs.inner.Resolving.{AreFollowed}
use Rattle.ged_link.specs.declared.pairs.Role.{Role}
use Rattle.ged_link.proofs.LevelWalks.{pair_before, record_place, record_tag}
use Rattle.ged_link.proofs.TypeWalks.{tags_from, AreTyped}
use Rattle.ged_link.proofs.pointers.follow_pointers.Given as goal

-- the pointers before the place are followed, and it is known in which record the one before the place stands, and of which type that is
abbrev pub invariant-loop-place : goal.invariant-loop-place
invariant-loop-place g l =
    let trees = g.F.Forest.trees l.forest in
    record {
      used : AreFollowed trees l.place l.followed;
      told : (role : Role) (pair : ℕ × ℕ) → lists_have l.lists role pair ≡ pair_before (place_in l.records.names.now) role 0 trees l.place pair;
      before : 0 < l.place → l.from < l.place;
      from_is : 0 < l.place → l.from ≡ record_place 0 trees (l.place - 1);
      tag_is : 0 < l.place → (structure_at trees l.from).tag ≡ record_tag trees (l.place - 1);
      type_is : 0 < l.place → IsTypeOf l.from_type (structure_at trees l.from).tag;
      left : AreTyped (drop l.begun (None ∷ l.records.types.now)) (tags_from trees l.place);
      few : l.begun ≤ l.place;
    }
