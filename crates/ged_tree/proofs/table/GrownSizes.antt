-- The sizes of a table that grows are true.
use Rattle.std.proofs.Common.{◌≡◌, ℕ, ◌+◌, ◌-◌, ◌<◌, ◌≤◌, List, [], ◌∷◌, ◌++◌, length, drop, get_or, slice_set, min, max, inl, inr, refl, sym, subst, ◌∙◌, ap, arith, length-append}
use Rattle.std.specs.List.{All}
use Rattle.std.specs.List.Sorted.{IsPermutation}
use Rattle.std.proofs.Math.Seq.{get_or-append_seam}
use Rattle.std.proofs.lemmas.Bool.{cases_lt, cases_eq}
use Rattle.std.proofs.lemmas.List.{length-map, get_or-set_same, get_or-set_other, get_or_append_left, get_or_past, drop_all, drop-map}
use Rattle.std.proofs.lemmas.List.Elements.{All-nil, All-weaker, recursion_from_All}
use Rattle.std.proofs.lemmas.List.Sorted.{All-permutation}
use Rattle.ged_tree.specs.Rows.{kept_level, kept_levels, size_of_first, AreSizes}
use Rattle.ged_tree.specs.declared.table.closing.LargeSize.{LargeSize}
use Rattle.ged_tree.specs.declared.table.closing.Sizes.{Sizes}
use Rattle.ged_tree.specs.declared.table.growing.GrowingSizes.{GrowingSizes}
use Rattle.ged_tree.specs.declared.table.packed.KeptStructure.{KeptStructure}
use Rattle.ged_tree.specs.inner.Growing.{RiseByOne, below_first, below, IsClosed, AreClosed, IsOpen, byte_at, place_at, AreGrowing, Closes}
use Rattle.ged_tree.proofs.table.ClosedSizes.{below_within, below_stays, below_grows, below_ends, below_last, last_rises, some_rise, lowest_rises}

-- ---- sizes that are told, level by level

-- none is told
pub closes_empty : (places : List ℕ) (from to end : ℕ) (old new : Sizes) → to ≤ from → ((place : ℕ) → byte_at new place ≡ byte_at old place)
    → new.large.items ≡ old.large.items → Closes places from to end old new
closes_empty places from to end old new none bytes large = record {
  closed = λ l low high near. absurd (omega (arith, low, high, none));
  others = λ place other. bytes place;
  large = λ levels all each. rw large all;
}

-- the place that is kept for the level is no structure's
pub closes_none : (places : List ℕ) (level end : ℕ) (sizes : Sizes) → end ≤ place_at places level → Closes places level (level + 1) end sizes sizes
closes_none places level end sizes none = record {
  closed = λ l low high near. absurd (let e : l ≡ level = omega (arith, low, high) in let far = rw e at near in omega (arith, none, far));
  others = λ place other. refl;
  large = λ levels all each. all;
}

-- one is told
pub closes_one : (places : List ℕ) (level end : ℕ) (old new : Sizes) → place_at places level < length old.bytes.items → place_at places level < end
    → new.bytes.items ≡ slice_set old.bytes.items (place_at places level) (min (end - place_at places level - 1) 255)
    → ((levels : List ℕ) → AreClosed levels old.large.items
    → (255 ≤ end - place_at places level - 1 → IsClosed levels (place_at places level) (end - place_at places level - 1)) → AreClosed levels new.large.items)
    → Closes places level (level + 1) end old new
closes_one places level end old new there near bytes large = record {
  closed = λ l low high within.
      let e : l ≡ level = omega (arith, low, high) in
      rw (e, bytes) (get_or-set_same old.bytes.items (place_at places level) _ 0 there);
  others = λ place other. rw bytes (get_or-set_other old.bytes.items (place_at places level) place _ 0 (λ e. other level (omega arith) (omega arith) near (sym e)));
  large = λ levels all each. large levels all (each level (omega arith) (omega arith) near);
}

-- one more is told
pub closes_more : (places : List ℕ) (from next end : ℕ) (a b c : Sizes) → from ≤ next → Closes places from next end a b → Closes places next (next + 1) end b c
    → Closes places from (next + 1) end a c
closes_more places from next end a b c low first second = record {
  closed = λ level past before near. elim (cases_eq (place_at places next) (place_at places level)) [
    | inl e ↦ (
        let near_next = rw (sym e) at near in
        rw (sym e) (second.closed next (omega arith) (omega arith) near_next))
    | inr other ↦ (
        let only : (l : ℕ) → next ≤ l → l < next + 1 → place_at places l < end → ¬ (place_at places l ≡ place_at places level) =
        λ l above under within. (let is : l ≡ next = omega (arith, above, under) in rw is other) in
        let under : level < next = elim (cases_eq level next) [
          | inl is ↦ absurd (other (ap (place_at places) (sym is)))
          | inr differs ↦ omega (arith, before, differs)
        ] in
        second.others (place_at places level) only ∙ first.closed level past under near)
  ];
  others = λ place other.
      second.others place (λ l above under. other l (omega (arith, low, above)) under)
      ∙ first.others place (λ l above under. other l above (omega (arith, under)));
  large = λ levels all each.
      second.large levels (first.large levels all (λ l above under. each l above (omega (arith, under))))
      (λ l above under. each l (omega (arith, low, above)) under);
}

-- ---- a structure more, at this level

module _ (levels : List ℕ) (more : ℕ) (old : GrowingSizes) (mid : Sizes) (rises : RiseByOne 0 (levels ++ more ∷ [])) (sized : AreGrowing levels old)
    (closes : Closes old.places more (max more old.last) (length levels) old.sizes mid) where
  abbrev all : List ℕ
  all = levels ++ more ∷ []

  size : length all ≡ length levels + 1
  size = length-append levels (more ∷ [])

  reach : 0 < length levels → more ≤ old.last + 1
  reach some = (let top = last_rises 0 levels more some rises in omega (arith, top, sized.last some))

  -- the size of a structure that is closed is not told again
  closed_stays : (place : ℕ) → place + 1 + below levels place < length levels → byte_at mid place ≡ byte_at old.sizes place
  closed_stays place h = closes.others place other
    where
      other : (level : ℕ) → more ≤ level → level < max more old.last → place_at old.places level < length levels → ¬ (place_at old.places level ≡ place)
      other level low high near e =
          let o = sized.open_ones (omega (arith, h)) level (omega (arith, low, high)) in
          let all_below = rw e at o.unfollowed in
          omega (arith, all_below, h)

  -- what is kept for the level of the last structure is the last structure
  last_one : (place : ℕ) → place < length levels → place_at old.places old.last ≡ place → place + 1 ≡ length levels
  last_one place h kept =
      let z = length levels - 1 in
      let unfollowed : z + 1 + below levels z ≡ length levels = (let w = below_within levels z (omega (arith, h)) in omega (arith, h, w)) in
      let told = sized.all_open z (omega (arith, h)) unfollowed in
      let kept_z = rw (sized.last (omega (arith, h))) at told.1 in
      omega (arith, kept, kept_z, h)

  -- it keeps its byte, where its level is not ended
  last_stays : (place : ℕ) → place < length levels → get_or levels place 0 ≡ old.last → more ≤ old.last → place_at old.places old.last ≡ place
      → byte_at mid place ≡ 0
  last_stays place h level_is lower kept =
      let e = last_one place h kept in
      closes.others place other ∙ sized.rest place (omega (arith, e))
    where
      other : (level : ℕ) → more ≤ level → level < max more old.last → place_at old.places level < length levels → ¬ (place_at old.places level ≡ place)
      other level low high near e =
          let o = sized.open_ones (omega (arith, h)) level (omega (arith, low, high)) in
          let here = rw e at o.level_is in
          omega (arith, here, level_is, high, lower)

  -- as the new structure follows, the sizes that are kept of those before it are true
  size_told : (place : ℕ) → place < length levels → place + 1 + below all place < length all → byte_at mid place < 255 → byte_at mid place ≡ below all place
  size_told place h followed few = elim (cases_lt (place + 1 + below levels place) (length levels)) [
    | inl closed ↦ (
        let same = closed_stays place closed in
        same ∙ sized.bytes place closed (omega (arith, few, same)) ∙ sym (below_stays levels more place closed))
    | inr far ↦ (
        let unfollowed : place + 1 + below levels place ≡ length levels = (let w = below_within levels place h in omega (arith, w, far)) in
        elim (cases_lt (get_or levels place 0) more) [
          | inl lower ↦ absurd (let g = below_grows levels more place h unfollowed lower in omega (arith, g, unfollowed, followed, size))
          | inr level_ends ↦ (
              let same = below_ends levels more place h level_ends in
              let told = sized.all_open place h unfollowed in
              elim (cases_lt (get_or levels place 0) (max more old.last)) [
                | inl stored ↦ (
                    let byte = rw told.1 at (closes.closed (get_or levels place 0) level_ends stored (omega (arith, h, told.1))) in
                    omega (arith, byte, few, unfollowed, same))
                | inr top ↦ (
                    let level_is : get_or levels place 0 ≡ old.last = omega (arith, told.0, top) in
                    let kept = rw level_is at told.1 in
                    let byte = last_stays place h level_is (omega (arith, top, level_is)) kept in
                    let z = last_one place h kept in
                    omega (arith, byte, same, unfollowed, z))
              ])
        ])
  ]

  large_told : AreClosed all mid.large.items
  large_told = closes.large all (All-weaker (λ (e : LargeSize). IsClosed levels e.place e.size) (λ (e : LargeSize). IsClosed all e.place e.size) before old.sizes.large.items sized.large) each
    where
      before : (e : LargeSize) → IsClosed levels e.place e.size → IsClosed all e.place e.size
      before e c =
          let closed : e.place + 1 + below levels e.place < length levels = omega (arith, c.followed, c.size_is) in
          record { size_is = c.size_is ∙ sym (below_stays levels more e.place closed); followed = omega (arith, c.followed, size) }

      each : (level : ℕ) → more ≤ level → level < max more old.last → place_at old.places level < length levels → 255 ≤ length levels - place_at old.places level - 1
          → IsClosed all (place_at old.places level) (length levels - place_at old.places level - 1)
      each level low high near far =
          let o = sized.open_ones (omega (arith, near)) level (omega (arith, low, high)) in
          let same = below_ends levels more (place_at old.places level) near (omega (arith, o.level_is, low)) in
          record { size_is = omega (arith, same, o.unfollowed); followed = omega (arith, near, size) }

  -- the sizes with the new structure
  module _ (new : GrowingSizes) (room : length old.places ≡ 256) (byte : more < 256) (sizes : new.sizes ≡ mid) (last : new.last ≡ more)
      (places : new.places ≡ slice_set old.places more (length levels)) where
    place_here : place_at new.places more ≡ length levels
    place_here = rw places (get_or-set_same old.places more (length levels) 0 (omega (arith, room, byte)))

    place_lower : (level : ℕ) → level < more → place_at new.places level ≡ place_at old.places level
    place_lower level lower = rw places (get_or-set_other old.places more level (length levels) 0 (λ e. omega (arith, e, lower)))

    level_before : (place : ℕ) → place < length levels → get_or all place 0 ≡ get_or levels place 0
    level_before place h = get_or_append_left levels (more ∷ []) 0 place h

    level_last : get_or all (length levels) 0 ≡ more
    level_last = get_or-append_seam levels more [] 0

    open_ones : (level : ℕ) → level ≤ more → IsOpen all (place_at new.places level) level
    open_ones level within = elim (cases_lt level more) [
      | inl lower ↦ (
          let some = some_rise levels more rises (omega (arith, lower)) in
          let o = sized.open_ones some level (omega (arith, reach some, lower)) in
          let grown = below_grows levels more (place_at old.places level) o.within o.unfollowed (omega (arith, o.level_is, lower)) in
          subst (λ (place : ℕ). IsOpen all place level) (sym (place_lower level lower)) (record {
            within = omega (arith, o.within, size);
            level_is = level_before (place_at old.places level) o.within ∙ o.level_is;
            unfollowed = omega (arith, grown, o.unfollowed, size);
          }))
      | inr top ↦ (
          let e : more ≡ level = omega (arith, within, top) in
          subst (λ (l : ℕ). IsOpen all (place_at new.places l) l) e (subst (λ (place : ℕ). IsOpen all place more) (sym place_here) (record {
            within = omega (arith, size);
            level_is = level_last;
            unfollowed = omega (arith, below_last levels more, size);
          })))
    ]

    all_open : (place : ℕ) → place < length all → place + 1 + below all place ≡ length all
        → (get_or all place 0 ≤ more) × (place_at new.places (get_or all place 0) ≡ place)
    all_open place h unfollowed = elim (cases_lt place (length levels)) [
      | inl before ↦ elim (cases_lt (place + 1 + below levels place) (length levels)) [
        | inl closed ↦ absurd (let same = below_stays levels more place closed in omega (arith, same, closed, unfollowed, size))
        | inr far ↦ elim (cases_lt (get_or levels place 0) more) [
          | inl lower ↦ (
              let told = sized.all_open place before (let w = below_within levels place before in omega (arith, w, far)) in
              rw (level_before place before) (omega (arith, lower), place_lower (get_or levels place 0) lower ∙ told.1))
          | inr level_ends ↦ absurd (let same = below_ends levels more place before level_ends in let w = below_within levels place before in omega (arith, same, w, unfollowed, size))
        ]
      ]
      | inr behind ↦ (
          let e : length levels ≡ place = omega (arith, h, behind, size) in
          subst (λ (p : ℕ). (get_or all p 0 ≤ more) × (place_at new.places (get_or all p 0) ≡ p)) e (rw level_last (omega arith, place_here)))
    ]

    rest : (place : ℕ) → length all ≤ place + 1 → byte_at mid place ≡ 0
    rest place behind = closes.others place other ∙ sized.rest place (omega (arith, behind, size))
      where
        other : (level : ℕ) → more ≤ level → level < max more old.last → place_at old.places level < length levels → ¬ (place_at old.places level ≡ place)
        other level low high near e = omega (arith, near, e, behind, size)

    pub grown : AreGrowing all new
    grown = record {
      last = λ some. rw (last_place, last) level_last;
      open_ones = λ some level within. open_ones level (omega (arith, within, last));
      all_open = λ place h unfollowed. rw last (all_open place h unfollowed);
      bytes = rw sizes (λ place followed few. size_told place (omega (arith, followed, size)) followed few);
      rest = rw sizes rest;
      large = rw sizes large_told;
    }
      where
        last_place : length all - 1 ≡ length levels
        last_place = omega (arith, size)

-- ---- no structure more

below_is : (structures : List KeptStructure) (place : ℕ) → below (kept_levels structures) place ≡ size_of_first (drop place structures)
below_is structures place = ap below_first (drop-map kept_level place structures) ∙ first (drop place structures)
  where
    first : (rest : List KeptStructure) → below_first (kept_levels rest) ≡ size_of_first rest
    first [] = refl
    first (s ∷ rest) = refl

-- as before a structure at level 0, each other one has ended
module _ (structures : List KeptStructure) (growing : GrowingSizes) (mid done : Sizes) (rises : RiseByOne 0 (kept_levels structures)) (sized : AreGrowing (kept_levels structures) growing)
    (closes : Closes growing.places 0 (max 0 growing.last) (length (kept_levels structures)) growing.sizes mid)
    (count : length done.bytes.items ≡ length structures) (bytes : (place : ℕ) → place < length structures → byte_at done place ≡ byte_at mid place) (sorted : IsPermutation mid.large.items done.large.items) where
  abbrev levels : List ℕ
  levels = kept_levels structures

  next : RiseByOne 0 (levels ++ 0 ∷ [])
  next = lowest_rises 0 levels rises

  size_next : length (levels ++ 0 ∷ []) ≡ length levels + 1
  size_next = length-append levels (0 ∷ [])

  same_size : (place : ℕ) → place < length levels → below (levels ++ 0 ∷ []) place ≡ size_of_first (drop place structures)
  same_size place h = below_ends levels 0 place h (omega arith) ∙ below_is structures place

  byte_told : (place : ℕ) → byte_at done place < 255 → byte_at done place ≡ size_of_first (drop place structures)
  byte_told place few = elim (cases_lt place (length levels)) [
    | inl h ↦ (
        let same = below_ends levels 0 place h (omega arith) in
        let followed : place + 1 + below (levels ++ 0 ∷ []) place < length (levels ++ 0 ∷ []) = (let w = below_within levels place h in omega (arith, same, w, size_next)) in
        let same_byte = bytes place (omega (arith, h, length-map structures kept_level)) in
        same_byte ∙ size_told levels 0 growing mid next sized closes place h followed (omega (arith, few, same_byte)) ∙ same_size place h)
    | inr past ↦ (
        let behind : length structures ≤ place = omega (arith, length-map structures kept_level, past) in
        get_or_past done.bytes.items place 0 (omega (arith, count, behind)) ∙ sym (ap size_of_first (drop_all place structures behind)))
  ]

  abbrev IsTold : LargeSize → Type 0
  IsTold e = e.size ≡ size_of_first (drop e.place structures)

  entry_told : (e : LargeSize) → IsClosed (levels ++ 0 ∷ []) e.place e.size → IsTold e
  entry_told e c = c.size_is ∙ same_size e.place (omega (arith, c.followed, size_next))

  entries_told : All IsTold mid.large.items
  entries_told = All-weaker (λ (e : LargeSize). IsClosed (levels ++ 0 ∷ []) e.place e.size) IsTold entry_told mid.large.items (large_told levels 0 growing mid next sized closes)

  pub all_closed : AreSizes structures done 0
  all_closed = record {
    count = count;
    bytes = λ place from few. byte_told place few;
    large = recursion_from_All IsTold done.large.items (All-permutation IsTold mid.large.items done.large.items sorted entries_told);
  }

-- no structure has been added
pub none_grown : (growing : GrowingSizes) → growing.sizes.bytes.items ≡ [] → growing.sizes.large.items ≡ [] → AreGrowing [] growing
none_grown growing bytes large = record {
  last = λ some. absurd (omega (arith, some));
  open_ones = λ some level within. absurd (omega (arith, some));
  all_open = λ place h unfollowed. absurd (omega (arith, h));
  bytes = λ place followed few. absurd (omega (arith, followed));
  rest = λ place behind. rw bytes refl;
  large = rw large (All-nil (λ (e : LargeSize). IsClosed [] e.place e.size));
}

-- the sizes are the same where the bytes and the large sizes are
pub same_grown : (levels : List ℕ) (old new : GrowingSizes) → new.sizes.bytes.items ≡ old.sizes.bytes.items → new.sizes.large.items ≡ old.sizes.large.items
    → new.places ≡ old.places → new.last ≡ old.last → AreGrowing levels old → AreGrowing levels new
same_grown levels old new bytes large places last sized = record {
  last = rw last sized.last;
  open_ones = rw (places, last) sized.open_ones;
  all_open = rw (places, last) sized.all_open;
  bytes = rw bytes sized.bytes;
  rest = rw bytes sized.rest;
  large = rw large sized.large;
}
