-- Pointers of a kind whose pointers lead to records of one tag.
use Rattle.std.proofs.Common.{◌≡◌, true, false, Some, refl}
use Rattle.std.specs.Prelude.{◌↔◌, Bool, IsTrue}
use Rattle.std.specs.Bool.{OnTrue}
use Rattle.ged_line.specs.Bytes.{Bytes}
use Rattle.ged_tree.specs.Trees.{Trees}
use Rattle.ged_tree.specs.declared.payload.Payload.TheVariants.{Pointer}
use Rattle.ged_value.specs.Kinds.{takes_links}
use Rattle.ged_value.specs.declared.kind.Kind.{Kind}
use Rattle.ged_value.specs.declared.kind.Kind.TheVariants as kinds
use Rattle.ged_link.specs.Links.{SomeTree}
use Rattle.ged_value.specs.Kinds.{target}
use Rattle.ged_schema.specs.Checked.{PointsRight}
use Rattle.ged_schema.specs.inner.Lookups.{IsRecordNamed}

takes_pointers : (kind : Kind) (tag : Bytes) → target kind ≡ Some tag → takes_links kind ≡ true
unfolding target
takes_pointers kinds.ToFam tag leads = refl
takes_pointers kinds.ToIndi tag leads = refl
takes_pointers kinds.ToSubm tag leads = refl
takes_pointers kinds.ToSnote tag leads = refl
takes_pointers kinds.ToSour tag leads = refl
takes_pointers kinds.ToObje tag leads = refl
takes_pointers kind tag leads = cc

pub pointer_right : (d : Trees) (kind : Kind) (name tag : Bytes) (led : Bool) → target kind ≡ Some tag → IsTrue led ↔ SomeTree (IsRecordNamed name tag) d
    → OnTrue led ((takes_links kind ≡ true) × PointsRight d (target kind) (Pointer name))
pointer_right d kind name tag true leads same = (takes_pointers kind tag leads, rw leads (same.0 refl))
pointer_right d kind name tag false leads same = tt
