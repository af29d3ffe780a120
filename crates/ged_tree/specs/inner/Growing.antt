-- Nothing here need be believed: only private contracts and proofs cite it.
-- The sizes of a table that grows. They follow from the levels of its structures alone.
use Rattle.std.specs.Prelude.{◌≡◌, ℕ, ◌+◌, ◌-◌, ◌<◌, ◌≤◌, List, [], ◌∷◌, drop, get_or, length, min}
use Rattle.std.specs.List.{All}
use Rattle.ged_tree.specs.Rows.{deeper}
use Rattle.ged_tree.specs.declared.table.closing.LargeSize.{LargeSize}
use Rattle.ged_tree.specs.declared.table.closing.Sizes.{Sizes}
use Rattle.ged_tree.specs.declared.table.growing.GrowingSizes.{GrowingSizes}

-- the first level is at most this one, and each other one at most one above the level before it
abbrev pub RiseByOne : ℕ → List ℕ → Type 0
RiseByOne most [] = Unit {0}
RiseByOne most (level ∷ levels) = (level ≤ most) × RiseByOne (level + 1) levels

-- how many structures stand below the first of these
abbrev pub below_first : List ℕ → ℕ
below_first [] = 0
below_first (level ∷ levels) = deeper level levels

-- how many structures stand below the one at a place
abbrev pub below : List ℕ → ℕ → ℕ
below levels place = below_first (drop place levels)

-- so many structures stand below the one at a place, and another one follows them
pub record IsClosed (levels : List ℕ) (place size : ℕ) : Type 0 where
  pub size_is : size ≡ below levels place
  pub followed : place + 1 + size < length levels

abbrev pub AreClosed : List ℕ → List LargeSize → Type 0
AreClosed levels large = All (λ (entry : LargeSize). IsClosed levels entry.place entry.size) large

-- the structure at a place has this level, and all that follow stand below it
pub record IsOpen (levels : List ℕ) (place level : ℕ) : Type 0 where
  pub within : place < length levels
  pub level_is : get_or levels place 0 ≡ level
  pub unfollowed : place + 1 + below levels place ≡ length levels

-- the byte of a place, 0 where it has none, and the place that is kept for a level
abbrev pub byte_at : Sizes → ℕ → ℕ
byte_at sizes place = get_or sizes.bytes.items place 0

abbrev pub place_at : List ℕ → ℕ → ℕ
place_at places level = get_or places level 0

-- The sizes of all closed structures are kept, and where the open ones are: one stands at each level up to that of the last
-- structure, and there is no other one. The bytes of the last structure and of places behind it are 0.
pub record AreGrowing (levels : List ℕ) (growing : GrowingSizes) : Type 0 where
  pub last : 0 < length levels → get_or levels (length levels - 1) 0 ≡ growing.last
  pub open_ones : 0 < length levels → (level : ℕ) → level ≤ growing.last → IsOpen levels (place_at growing.places level) level
  pub all_open : (place : ℕ) → place < length levels → place + 1 + below levels place ≡ length levels
      → (get_or levels place 0 ≤ growing.last) × (place_at growing.places (get_or levels place 0) ≡ place)
  pub bytes : (place : ℕ) → place + 1 + below levels place < length levels → byte_at growing.sizes place < 255
      → byte_at growing.sizes place ≡ below levels place
  pub rest : (place : ℕ) → length levels ≤ place + 1 → byte_at growing.sizes place ≡ 0
  pub large : AreClosed levels growing.sizes.large.items

-- the same, where the levels are such as a document has
abbrev pub HasSizes : List ℕ → GrowingSizes → Type 0
HasSizes levels growing = RiseByOne 0 levels → AreGrowing levels growing

-- the sizes of the structures that are kept for these levels are told: all that follow them up to this end stand below them
pub record Closes (places : List ℕ) (from to end : ℕ) (old new : Sizes) : Type 0 where
  pub closed : (level : ℕ) → from ≤ level → level < to → place_at places level < end
      → byte_at new (place_at places level) ≡ min (end - place_at places level - 1) 255
  pub others : (place : ℕ)
      → ((level : ℕ) → from ≤ level → level < to → place_at places level < end → ¬ (place_at places level ≡ place))
      → byte_at new place ≡ byte_at old place
  pub large : (levels : List ℕ) → AreClosed levels old.large.items
      → ((level : ℕ) → from ≤ level → level < to → place_at places level < end → 255 ≤ end - place_at places level - 1
      → IsClosed levels (place_at places level) (end - place_at places level - 1))
      → AreClosed levels new.large.items
