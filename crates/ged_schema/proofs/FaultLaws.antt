-- A document has one first fault at most, and none where it is as the tables ask.
use Rattle.std.proofs.Common.{◌≡◌, ℕ, zero, suc, ◌+◌, ◌<◌, ◌≤◌, sym, ◌∙◌, ap, refl, arith, List, [], ◌∷◌, Option, Some, None, inl, inr}
use Rattle.std.specs.List.{AllByRecursion}
use Rattle.std.proofs.lemmas.Slice.Eq.{bytes_eq-Decides}
use Rattle.ged_line.specs.Bytes.{Bytes}
use Rattle.ged_tree.specs.declared.payload.Payload.{Payload}
use Rattle.ged_tree.specs.Trees.{Trees, none, tree, trees_count}
use Rattle.ged_schema.specs.declared.context.Context.{Context}
use Rattle.ged_schema.specs.declared.context.Context.TheVariants.{File}
use Rattle.ged_schema.specs.declared.fault.FaultPlace.{FaultPlace}
use Rattle.ged_schema.specs.declared.fault.SchemaAt.{SchemaAt}
use Rattle.ged_schema.specs.Rows.{Row}
use Rattle.ged_schema.specs.Tables.{rows, row, context_below}
use Rattle.ged_schema.specs.Checked.{count_of, CountsRight, MeetsRow, AreChecked, Checked}
use Rattle.ged_schema.specs.declared.fault.SchemaFault.TheVariants.{TooMany}
use Rattle.ged_schema.specs.Faults.{fault_at, StandsAfter, IsOneTooMany, CountFault, FirstCountFault, OwnFault, FirstFault, IsFirstFault}
use Rattle.ged_tree.specs.Places.{line_at}

-- a tree that has so many before it is one more
stands_within : (tag : Bytes) (n place : ℕ) (t : Trees) (at : ℕ) → StandsAfter tag n place t at → n < count_of tag t
stands_within tag n place none at h = absurd h
stands_within tag zero place (tree s below next) at (inl h) = rw ((bytes_eq-Decides s.tag tag).1 h.0) (omega arith)
stands_within tag zero place (tree s below next) at (inr h) = let more = stands_within tag zero (place + 1 + trees_count below) next at h.1 in omega (arith, more)
stands_within tag (suc n) place (tree s below next) at (inl h) = let more = stands_within tag n (place + 1 + trees_count below) next at h.1 in rw ((bytes_eq-Decides s.tag tag).1 h.0) (omega (arith, more))
stands_within tag (suc n) place (tree s below next) at (inr h) = let more = stands_within tag (suc n) (place + 1 + trees_count below) next at h.1 in omega (arith, more)

one_stands : (tag : Bytes) (n place : ℕ) (t : Trees) (a b : ℕ) → StandsAfter tag n place t a → StandsAfter tag n place t b → a ≡ b
one_stands tag n place none a b h k = absurd h
one_stands tag zero place (tree s below next) a b (inl h) (inl k) = h.1 ∙ sym k.1
one_stands tag zero place (tree s below next) a b (inl h) (inr k) = absurd (k.0 h.0)
one_stands tag zero place (tree s below next) a b (inr h) (inl k) = absurd (h.0 k.0)
one_stands tag zero place (tree s below next) a b (inr h) (inr k) = one_stands tag zero (place + 1 + trees_count below) next a b h.1 k.1
one_stands tag (suc n) place (tree s below next) a b (inl h) (inl k) = one_stands tag n (place + 1 + trees_count below) next a b h.1 k.1
one_stands tag (suc n) place (tree s below next) a b (inl h) (inr k) = absurd (k.0 h.0)
one_stands tag (suc n) place (tree s below next) a b (inr h) (inl k) = absurd (h.0 k.0)
one_stands tag (suc n) place (tree s below next) a b (inr h) (inr k) = one_stands tag (suc n) (place + 1 + trees_count below) next a b h.1 k.1

too_many_within : (tag : Bytes) (most : Option ℕ) (place : ℕ) (t : Trees) (at : ℕ) → IsOneTooMany tag most place t at → (m : ℕ) × (most ≡ Some m) × (m < count_of tag t)
too_many_within tag None place t at h = absurd h
too_many_within tag (Some m) place t at h = (m, refl, stands_within tag m place t at h)

one_too_many : (tag : Bytes) (most : Option ℕ) (place : ℕ) (t : Trees) (a b : ℕ) → IsOneTooMany tag most place t a → IsOneTooMany tag most place t b → a ≡ b
one_too_many tag None place t a b h k = absurd h
one_too_many tag (Some m) place t a b h k = one_stands tag m place t a b h k

-- nothing is wrong with the count of a row that is right
no_count_fault : (place : ℕ) (below : Trees) (r : Row) (f : FaultPlace) → CountsRight below r → CountFault place below r f → ⊥
no_count_fault place below r f right (inl h) = omega (arith, right.0, h.0)
no_count_fault place below r f right (inr (least, at, many, told)) =
    let (m, e, more) = too_many_within r.tag r.most (place + 1) below at many in
    let most : count_of r.tag below ≤ m = rw e at right.1 in
    omega (arith, more, most)

no_counts_fault : (place : ℕ) (below : Trees) (rs : List Row) (f : FaultPlace) → AllByRecursion (CountsRight below) rs → FirstCountFault place below rs f → ⊥
no_counts_fault place below [] f right h = h
no_counts_fault place below (r ∷ rs) f right (inl h) = no_count_fault place below r f right.0 h
no_counts_fault place below (r ∷ rs) f right (inr h) = no_counts_fault place below rs f right.1 h.1

no_own_fault : (d : Trees) (place : ℕ) (o : Option Row) (payload : Payload) (below : Trees) (f : FaultPlace) → MeetsRow d o payload below → OwnFault d place o payload below f → ⊥
no_own_fault d place None payload below f meets h = h
no_own_fault d place (Some r) payload below f meets (inl h) = h.0 meets.0
no_own_fault d place (Some r) payload below f meets (inr (fits, inl h)) = h.0 meets.1
no_own_fault d place (Some r) payload below f meets (inr (fits, inr h)) = no_counts_fault place below (rows r.below) f meets.2 h.1

pub no_fault : (d : Trees) (c : Context) (place : ℕ) (t : Trees) (f : FaultPlace) → AreChecked d c t → FirstFault d c place t f → ⊥
no_fault d c place none f checked h = h
no_fault d c place (tree s below next) f checked (inl h) = no_own_fault d place (row c s.tag) s.payload below f checked.0 h
no_fault d c place (tree s below next) f checked (inr (meets, inl h)) = no_fault d (context_below c s.tag) (place + 1) below f checked.1 h
no_fault d c place (tree s below next) f checked (inr (meets, inr h)) = no_fault d c (place + 1 + trees_count below) next f checked.2 h.1

one_count_fault : (place : ℕ) (below : Trees) (r : Row) (f g : FaultPlace) → CountFault place below r f → CountFault place below r g → f ≡ g
one_count_fault place below r f g (inl h) (inl k) = h.1 ∙ sym k.1
one_count_fault place below r f g (inl h) (inr k) = absurd (omega (arith, h.0, k.0))
one_count_fault place below r f g (inr h) (inl k) = absurd (omega (arith, h.0, k.0))
one_count_fault place below r f g (inr (_, a, h, e)) (inr (_, b, k, e')) = e ∙ ap (λ at. fault_at at TooMany) (one_too_many r.tag r.most (place + 1) below a b h k) ∙ sym e'

one_counts_fault : (place : ℕ) (below : Trees) (rs : List Row) (f g : FaultPlace) → FirstCountFault place below rs f → FirstCountFault place below rs g → f ≡ g
one_counts_fault place below [] f g h k = absurd h
one_counts_fault place below (r ∷ rs) f g (inl h) (inl k) = one_count_fault place below r f g h k
one_counts_fault place below (r ∷ rs) f g (inl h) (inr k) = absurd (no_count_fault place below r f k.0 h)
one_counts_fault place below (r ∷ rs) f g (inr h) (inl k) = absurd (no_count_fault place below r g h.0 k)
one_counts_fault place below (r ∷ rs) f g (inr h) (inr k) = one_counts_fault place below rs f g h.1 k.1

one_own_fault : (d : Trees) (place : ℕ) (o : Option Row) (payload : Payload) (below : Trees) (f g : FaultPlace) → OwnFault d place o payload below f → OwnFault d place o payload below g → f ≡ g
one_own_fault d place None payload below f g h k = absurd h
one_own_fault d place (Some r) payload below f g (inl h) (inl k) = h.1 ∙ sym k.1
one_own_fault d place (Some r) payload below f g (inl h) (inr k) = absurd (h.0 k.0)
one_own_fault d place (Some r) payload below f g (inr h) (inl k) = absurd (k.0 h.0)
one_own_fault d place (Some r) payload below f g (inr (_, inl h)) (inr (_, inl k)) = h.1 ∙ sym k.1
one_own_fault d place (Some r) payload below f g (inr (_, inl h)) (inr (_, inr k)) = absurd (h.0 k.0)
one_own_fault d place (Some r) payload below f g (inr (_, inr h)) (inr (_, inl k)) = absurd (k.0 h.0)
one_own_fault d place (Some r) payload below f g (inr (_, inr h)) (inr (_, inr k)) = one_counts_fault place below (rows r.below) f g h.1 k.1

one_fault : (d : Trees) (c : Context) (place : ℕ) (t : Trees) (f g : FaultPlace) → FirstFault d c place t f → FirstFault d c place t g → f ≡ g
one_fault d c place none f g h k = absurd h
one_fault d c place (tree s below next) f g (inl h) (inl k) = one_own_fault d place (row c s.tag) s.payload below f g h k
one_fault d c place (tree s below next) f g (inl h) (inr k) = absurd (no_own_fault d place (row c s.tag) s.payload below f k.0 h)
one_fault d c place (tree s below next) f g (inr h) (inl k) = absurd (no_own_fault d place (row c s.tag) s.payload below g h.0 k)
one_fault d c place (tree s below next) f g (inr (_, inl h)) (inr (_, inl k)) = one_fault d (context_below c s.tag) (place + 1) below f g h k
one_fault d c place (tree s below next) f g (inr (_, inl h)) (inr (_, inr k)) = absurd (no_fault d (context_below c s.tag) (place + 1) below f k.0 h)
one_fault d c place (tree s below next) f g (inr (_, inr h)) (inr (_, inl k)) = absurd (no_fault d (context_below c s.tag) (place + 1) below g h.0 k)
one_fault d c place (tree s below next) f g (inr (_, inr h)) (inr (_, inr k)) = one_fault d c (place + 1 + trees_count below) next f g h.1 k.1

pub one_first_fault : (d : Trees) (at other : SchemaAt) → IsFirstFault d at → IsFirstFault d other → at ≡ other
one_first_fault d at other (f, h, e) (g, k, e') = e ∙ ap (λ (x : FaultPlace). line_of d x) (one_fault d File 0 d f g h k) ∙ sym e'
  where
    line_of : Trees → FaultPlace → SchemaAt
    line_of d x = record { line = line_at 1 d x.place; fault = x.fault }

pub no_first_fault : (d : Trees) (at : SchemaAt) → Checked d → IsFirstFault d at → ⊥
no_first_fault d at checked (f, h, e) = no_fault d File 0 d f checked h
