-- The place after a structure, by the levels behind it.
use Rattle.std.proofs.Common.{◌≡◌, ℕ, ◌+◌, ◌<◌, ◌≤◌, List, ◌∷◌, length, drop, get_or, refl, sym, ◌∙◌, ap, arith}
use Rattle.std.proofs.lemmas.Bool.{lt-ltb, le-ltb}
use Rattle.std.proofs.lemmas.List.{drop_more}
use Rattle.ged_tree.specs.declared.table.packed.KeptStructure.{KeptStructure}
use Rattle.ged_tree.specs.declared.table.closing.Sizes.{Sizes}
use Rattle.ged_tree.specs.Rows.{deeper, kept_level, kept_levels, size_of_first, AreSizes}
use Rattle.ged_tree.specs.inner.Tables.{end_from, size_at}

-- sizes that are kept from a place on are kept from a later place on
pub sizes_later : (items : List KeptStructure) (sizes : Sizes) (from place : ℕ) → from ≤ place → AreSizes items sizes from → AreSizes items sizes place
sizes_later items sizes from place h a = record { count = a.count; bytes = λ at past. a.bytes at (omega (arith, h, past)); large = a.large }

pub deeper_more : (level next : ℕ) (levels : List ℕ) → level < next → deeper level (next ∷ levels) ≡ 1 + deeper level levels
deeper_more level next levels h = rw (lt-ltb level next h) refl

pub deeper_none : (level next : ℕ) (levels : List ℕ) → next ≤ level → deeper level (next ∷ levels) ≡ 0
deeper_none level next levels h = rw (le-ltb level next h) refl

module _ (items : List KeptStructure) (place level : ℕ) (s d : KeptStructure) (is : s ≡ get_or items place d) (h : place < length items) where
  pub here : drop place items ≡ s ∷ drop (place + 1) items
  here = drop_more items place d h ∙ ap (λ (x : KeptStructure). x ∷ drop (place + 1) items) (sym is)

  pub step_here : level < kept_level s → end_from level items place ≡ end_from level items (place + 1)
  step_here e = rw (here, deeper_more level (kept_level s) (kept_levels (drop (place + 1) items)) e) (omega arith)

  pub size_here : size_at items place ≡ deeper (kept_level s) (kept_levels (drop (place + 1) items))
  size_here = ap size_of_first here
