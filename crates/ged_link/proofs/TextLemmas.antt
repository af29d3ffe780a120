-- Slots of names, looked for by the names' texts.
use Rattle.std.proofs.Common.{◌≡◌, ◌≢◌, ℕ, zero, suc, ◌+◌, ◌-◌, ◌%◌, ◌<◌, ◌≤◌, ◌&&◌, min, Bool, true, false, cond, nat_eq, nat_le, nat_lt, List, [], ◌∷◌, ◌++◌, Option, Some, None, length, take, drop, set, replicate, slice_index_or, refl, sym, ap, ◌∙◌, arith, subst}
use Rattle.std.specs.Bool.{if◌then◌else◌, Decides}
use Rattle.std.specs.List.{All}
use Rattle.std.specs.Option.{option_or}
use Rattle.std.specs.Str.{bytes_eq}
use Rattle.std.proofs.lemmas.List.{length-take, length-drop, length-set, length-append, get_or-take, get_or-drop, get_or-set_other, take-append-le, drop-append-le, take_all, drop_at}
use Rattle.std.proofs.lemmas.Grind.{get_or-set_at}
use Rattle.std.proofs.lemmas.List.Elements.{All-head, All-tail, All-take, All-drop, All-replicate}
use Rattle.std.proofs.lemmas.Slice.Eq.{bytes_eq-Decides}
use Rattle.std.proofs.lemmas.Bool.Decides.{nat_tests}
use Rattle.ged_line.specs.Bytes.{Bytes}
use Rattle.ged_link.specs.declared.index.RecordPlace.{RecordPlace}
use Rattle.ged_link.specs.declared.text_slots.TextSlot.{TextSlot}
use Rattle.ged_link.specs.Texts.{text_in, is_slot_of, record_in, kept_among, kept_for, first_slot, slots_of, text_hash, IsWithin, AreWithin, free, HasNoRoom, AreCrowded}
use Rattle.ged_link.specs.inner.Texts.{MayStandAt, IsSlotFor, KeepsText}

-- the slot that is free in the window is a slot of the table
pub may_stand : (slots : List TextSlot) (hash used start : ℕ) (window : List TextSlot) → start ≡ first_slot (length slots) hash → window ≡ slots_of slots hash
    → used < length window → (used < length window → (slice_index_or window used free).length ≡ 0) → MayStandAt slots hash (start + used)
may_stand slots hash used start window is are inside is_free =
    let long : length window ≡ min 8 (length slots - start) = ap length are ∙ length-take 8 (drop (first_slot (length slots) hash) slots) ∙ ap (min 8) (length-drop (first_slot (length slots) hash) slots) ∙ ap (λ n. min 8 (length slots - n)) (sym is) in
    let near : used < 8 = omega (arith, long, inside) in
    let within : start + used < length slots = omega (arith, long, inside) in
    let same : slice_index_or window used free ≡ slice_index_or slots (start + used) free =
    ap (λ (w : List TextSlot). slice_index_or w used free) are ∙ get_or-take 8 (drop (first_slot (length slots) hash) slots) used free near ∙ get_or-drop (first_slot (length slots) hash) slots used free ∙ ap (λ n. slice_index_or slots (n + used) free) (sym is) in
    record {
      from = omega (arith, is);
      near = omega (arith, is, near);
      within = within;
      free = ap (λ (s : TextSlot). s.length) (sym same) ∙ is_free inside;
    }

-- a text within the first of the bytes stays when more come
pub same_text : (texts more : Bytes) (slot : TextSlot) → IsWithin texts slot → text_in (texts ++ more) slot ≡ text_in texts slot
same_text texts more slot within =
    let longer : slot.start + slot.length ≤ length (texts ++ more) = omega (arith, within, length-append texts more) in
    let left : slot.length ≤ length (drop slot.start texts) = omega (arith, within, length-drop slot.start texts) in
    ap (λ b. cond b (take slot.length (drop slot.start (texts ++ more))) []) (fits (slot.start + slot.length) (length (texts ++ more)) longer)
    ∙ ap (take slot.length) (drop-append-le slot.start texts more (omega (arith, within)))
    ∙ take-append-le slot.length (drop slot.start texts) more left
    ∙ sym (ap (λ b. cond b (take slot.length (drop slot.start texts)) []) (fits (slot.start + slot.length) (length texts) within))
  where
    fits : (m n : ℕ) → m ≤ n → nat_le m n ≡ true
    fits m n h = grind (arith, nat_tests)

-- the text that comes behind them is that of a slot which says so
pub new_text : (texts name : Bytes) (slot : TextSlot) → slot.start ≡ length texts → slot.length ≡ length name → text_in (texts ++ name) slot ≡ name
new_text texts name slot begins long =
    let longer : slot.start + slot.length ≤ length (texts ++ name) = omega (arith, begins, long, length-append texts name) in
    ap (λ b. cond b (take slot.length (drop slot.start (texts ++ name))) []) (fits (slot.start + slot.length) (length (texts ++ name)) longer)
    ∙ ap (take slot.length) (drop_at texts name slot.start (sym begins))
    ∙ take_all slot.length name (omega (arith, long))
  where
    fits : (m n : ℕ) → m ≤ n → nat_le m n ≡ true
    fits m n h = grind (arith, nat_tests)

-- a slot of those that a name may have is a slot of the table
slot_in : (slots : List TextSlot) (hash at : ℕ) → at < 8 → slice_index_or (slots_of slots hash) at free ≡ slice_index_or slots (first_slot (length slots) hash + at) free
slot_in slots hash at near = get_or-take 8 (drop (first_slot (length slots) hash) slots) at free near ∙ get_or-drop (first_slot (length slots) hash) slots at free

how_many : (slots : List TextSlot) (hash : ℕ) → length (slots_of slots hash) ≡ min 8 (length slots - first_slot (length slots) hash)
how_many slots hash = length-take 8 (drop (first_slot (length slots) hash) slots) ∙ ap (min 8) (length-drop (first_slot (length slots) hash) slots)

-- a name that has a slot free is not crowded
pub not_crowded : (slots : List TextSlot) (hash at : ℕ) → MayStandAt slots hash at → HasNoRoom slots hash → ⊥
not_crowded slots hash at may crowded =
    let first = first_slot (length slots) hash in
    let near : at - first < 8 = omega (arith, may.from, may.near) in
    let inside : at - first < length (slots_of slots hash) = omega (arith, may.from, may.near, may.within, how_many slots hash) in
    let back : first + (at - first) ≡ at = omega (arith, may.from) in
    let used : 0 < (slice_index_or slots (first + (at - first)) free).length = subst (λ (s : TextSlot). 0 < s.length) (slot_in slots hash (at - first) near) (crowded (at - first) inside) in
    let none : (slice_index_or slots (first + (at - first)) free).length ≡ 0 = ap (λ n. (slice_index_or slots n free).length) back ∙ may.free in
    omega (arith, used, none)

-- where a name has a slot free, its record is not found elsewhere
pub none_apart : (key : ℕ) (slots : List TextSlot) (other : Bytes → Option RecordPlace) → AreCrowded key slots other → (name : Bytes) (at : ℕ) → MayStandAt slots (text_hash key name) at → other name ≡ None
none_apart key slots other crowded name at may = go (other name) refl
  where
    go : (found : Option RecordPlace) → other name ≡ found → found ≡ None
    go None e = refl
    go (Some found) e = absurd (not_crowded slots (text_hash key name) at may (crowded name found e))

-- one more that is found elsewhere and has no slot free
pub one_more_crowded : (key : ℕ) (slots : List TextSlot) (old new : Bytes → Option RecordPlace) (name : Bytes) (found : RecordPlace) → AreCrowded key slots old → HasNoRoom slots (text_hash key name)
    → ((other : Bytes) → new other ≡ (if bytes_eq name other then Some found else old other)) → AreCrowded key slots new
one_more_crowded key slots old new name found crowded full is other kept e = go (bytes_eq name other) (bytes_eq-Decides name other) (sym (is other) ∙ e)
  where
    go : (same : Bool) → Decides same (name ≡ other) → (if same then Some found else old other) ≡ Some kept → HasNoRoom slots (text_hash key other)
    go true d e = subst (λ (n : Bytes). HasNoRoom slots (text_hash key n)) (d.0 refl) full
    go false d e = crowded other kept e

-- no slot becomes free by one that is written
pub stays_crowded : (slots : List TextSlot) (hash at : ℕ) (slot : TextSlot) → 0 < slot.length → HasNoRoom slots hash → HasNoRoom (set slots at slot) hash
stays_crowded slots hash at slot used crowded k inside =
    let first = first_slot (length slots) hash in
    let same : first_slot (length (set slots at slot)) hash ≡ first = ap (λ n. first_slot n hash) (length-set slots at slot) in
    let before : k < length (slots_of slots hash) = omega (arith, inside, how_many (set slots at slot) hash, how_many slots hash, length-set slots at slot, same) in
    let near : k < 8 = omega (arith, before, how_many slots hash) in
    let within : first + k < length slots = omega (arith, before, how_many slots hash) in
    let was : 0 < (slice_index_or slots (first + k) free).length = subst (λ (s : TextSlot). 0 < s.length) (slot_in slots hash k near) (crowded k before) in
    let now : slice_index_or (slots_of (set slots at slot) hash) k free ≡ slice_index_or (set slots at slot) (first + k) free =
    slot_in (set slots at slot) hash k near ∙ ap (λ n. slice_index_or (set slots at slot) (n + k) free) same in
    subst (λ (s : TextSlot). 0 < s.length) (sym now) (go within was (nat_eq (first + k) at) refl)
  where
    go : first_slot (length slots) hash + k < length slots → 0 < (slice_index_or slots (first_slot (length slots) hash + k) free).length → (b : Bool) → nat_eq (first_slot (length slots) hash + k) at ≡ b → 0 < (slice_index_or (set slots at slot) (first_slot (length slots) hash + k) free).length
    go within was true e =
        let is : first_slot (length slots) hash + k ≡ at = grind (arith, nat_tests, e) in
        subst (λ (s : TextSlot). 0 < s.length) (sym (get_or-set_at slots at (first_slot (length slots) hash + k) slot free is (omega (arith, within, is)))) used
    go within was false e =
        let differs : first_slot (length slots) hash + k ≢ at = λ (is : first_slot (length slots) hash + k ≡ at). grind (arith, nat_tests, e, is) in
        subst (λ (s : TextSlot). 0 < s.length) (sym (get_or-set_other slots at (first_slot (length slots) hash + k) slot free differs)) was

module _ (texts more name : Bytes) (tag : ℕ) where
  same_slot : (slot : TextSlot) → IsWithin texts slot → is_slot_of (texts ++ more) name tag slot ≡ is_slot_of texts name tag slot
  same_slot slot within = ap (λ text. nat_eq slot.tag tag && (nat_lt 0 slot.length && bytes_eq text name)) (same_text texts more slot within)

  -- and so does what is kept
  pub same_kept : (slots : List TextSlot) → AreWithin texts slots → kept_among (texts ++ more) name tag slots ≡ kept_among texts name tag slots
  same_kept [] within = refl
  same_kept (slot ∷ others) within =
      ap (λ b. cond b (Some (record_in slot)) (kept_among (texts ++ more) name tag others)) (same_slot slot (All-head (IsWithin texts) slot others within))
      ∙ ap (cond (is_slot_of texts name tag slot) (Some (record_in slot))) (same_kept others (All-tail (IsWithin texts) slot others within))

module _ (texts name : Bytes) (tag : ℕ) (slot : TextSlot) where
  -- one more slot that is not the name's, in the place of one that is not either
  pub kept_others : is_slot_of texts name tag slot ≡ false → (start room : ℕ) (slots : List TextSlot) (at : ℕ) → is_slot_of texts name tag (slice_index_or slots at free) ≡ false
      → kept_among texts name tag (take room (drop start (set slots at slot))) ≡ kept_among texts name tag (take room (drop start slots))
  kept_others other zero zero slots at was = refl
  kept_others other zero (suc room) [] at was = refl
  kept_others other zero (suc room) (x ∷ xs) zero was =
      ap (λ b. cond b (Some (record_in slot)) (kept_among texts name tag (take room xs))) other
      ∙ sym (ap (λ b. cond b (Some (record_in x)) (kept_among texts name tag (take room xs))) was)
  kept_others other zero (suc room) (x ∷ xs) (suc at) was = ap (cond (is_slot_of texts name tag x) (Some (record_in x))) (kept_others other zero room xs at was)
  kept_others other (suc start) room [] at was = refl
  kept_others other (suc start) room (x ∷ xs) zero was = refl
  kept_others other (suc start) room (x ∷ xs) (suc at) was = kept_others other start room xs at was

  -- one more slot that is the name's, where none was
  pub kept_new : is_slot_of texts name tag slot ≡ true → (start room : ℕ) (slots : List TextSlot) (at : ℕ) → start ≤ at → at < start + room → at < length slots
      → kept_among texts name tag (take room (drop start slots)) ≡ None → kept_among texts name tag (take room (drop start (set slots at slot))) ≡ Some (record_in slot)
  kept_new is zero zero slots at from near within none = absurd (omega (arith, near))
  kept_new is zero (suc room) [] at from near within none = absurd (omega (arith, within))
  kept_new is zero (suc room) (x ∷ xs) zero from near within none = ap (λ b. cond b (Some (record_in slot)) (kept_among texts name tag (take room xs))) is
  kept_new is zero (suc room) (x ∷ xs) (suc at) from near within none = go (λ k. kept_new is zero room xs at (omega arith) (omega (arith, near)) (omega (arith, within)) k) (is_slot_of texts name tag x) refl none
    where
      go : (kept_among texts name tag (take room xs) ≡ None → kept_among texts name tag (take room (set xs at slot)) ≡ Some (record_in slot)) → (b : Bool) → is_slot_of texts name tag x ≡ b → cond b (Some (record_in x)) (kept_among texts name tag (take room xs)) ≡ None
          → cond b (Some (record_in x)) (kept_among texts name tag (take room (set xs at slot))) ≡ Some (record_in slot)
      go rest true e k = cc
      go rest false e k = rest k
  kept_new is (suc start) room [] at from near within none = absurd (omega (arith, within))
  kept_new is (suc start) room (x ∷ xs) zero from near within none = absurd (omega (arith, from))
  kept_new is (suc start) room (x ∷ xs) (suc at) from near within none = kept_new is start room xs at (omega (arith, from)) (omega (arith, near)) (omega (arith, within)) none

tests : (a b c : Bool) → a ≡ true → b ≡ true → c ≡ true → a && (b && c) ≡ true
tests a b c h k l = cc

text_differs : (a b c : Bool) → c ≡ false → a && (b && c) ≡ false
text_differs true true c h = h
text_differs true false c h = refl
text_differs false b c h = refl

length_differs : (a b c : Bool) → b ≡ false → a && (b && c) ≡ false
length_differs true b c h = ap (λ (x : Bool). x && c) h
length_differs false b c h = refl

same_bytes : (a b : Bytes) → a ≡ b → bytes_eq a b ≡ true
same_bytes a b e = (bytes_eq-Decides a b).1 e

module _ (slots : List TextSlot) (texts name : Bytes) (hash at : ℕ) (found : RecordPlace) (slot : TextSlot) where
  module _ (within : AreWithin texts slots) (may : MayStandAt slots hash at) (is : IsSlotFor hash (length texts) name found slot) where
    -- the slots of a name are among the same, whatever stands in one of them
    moved : (other : Bytes) (h : ℕ) → kept_for (set slots at slot) (texts ++ name) other h ≡ kept_among (texts ++ name) other (h % 65536) (take 8 (drop (first_slot (length slots) h) (set slots at slot)))
    moved other h = ap (λ n. kept_among (texts ++ name) other (h % 65536) (take 8 (drop (first_slot n h) (set slots at slot)))) (length-set slots at slot)

    kept_before : (other : Bytes) (h : ℕ) → kept_among (texts ++ name) other (h % 65536) (slots_of slots h) ≡ kept_for slots texts other h
    kept_before other h = same_kept texts name other (h % 65536) (slots_of slots h) (All-take (IsWithin texts) 8 _ (All-drop (IsWithin texts) (first_slot (length slots) h) slots within))

    is_own : 0 < length name → is_slot_of (texts ++ name) name (hash % 65536) slot ≡ true
    is_own named = tests _ _ _ (same_number slot.tag (hash % 65536) is.tagged) (above slot.length (omega (arith, named, is.long))) (same_bytes _ name (new_text texts name slot is.begins is.long))
      where
        same_number : (m n : ℕ) → m ≡ n → nat_eq m n ≡ true
        same_number m n h = grind (arith, nat_tests)

        above : (n : ℕ) → 0 < n → nat_lt 0 n ≡ true
        above n h = grind (arith, nat_tests)

    own : 0 < length name → kept_for slots texts name hash ≡ None → kept_for (set slots at slot) (texts ++ name) name hash ≡ Some found
    own named missed =
        moved name hash
        ∙ kept_new (texts ++ name) name (hash % 65536) slot (is_own named) (first_slot (length slots) hash) 8 slots at may.from may.near may.within (kept_before name hash ∙ missed)
        ∙ same_record is.numbered is.placed
      where
        record_at : ℕ → ℕ → Option RecordPlace
        record_at number place = Some (record { number = number; place = place })

        same_record : slot.number ≡ found.number → slot.place ≡ found.place → Some (record_in slot) ≡ Some found
        same_record h k = ap (λ n. record_at n slot.place) h ∙ ap (record_at found.number) k

    others : (other : Bytes) (h : ℕ) → bytes_eq name other ≡ false → kept_for (set slots at slot) (texts ++ name) other h ≡ kept_for slots texts other h
    others other h differs =
        moved other h
        ∙ kept_others (texts ++ name) other (h % 65536) slot
        (text_differs _ _ _ (ap (λ text. bytes_eq text other) (new_text texts name slot is.begins is.long) ∙ differs))
        (first_slot (length slots) h) 8 slots at
        (length_differs _ _ _ (ap (λ n. nat_lt 0 n) may.free))
        ∙ kept_before other h

    pub keeps_text : 0 < length name → kept_for slots texts name hash ≡ None → KeepsText slots texts (set slots at slot) (texts ++ name) name hash found
    keeps_text named missed hash_of e other = go (bytes_eq name other) refl (bytes_eq-Decides name other)
      where
        go : (same : Bool) → bytes_eq name other ≡ same → Decides same (name ≡ other)
            → kept_for (set slots at slot) (texts ++ name) other (hash_of other) ≡ (if same then Some found else kept_for slots texts other (hash_of other))
        go true t d =
            let f : name ≡ other = d.0 refl in
            subst (λ (n : Bytes). kept_for (set slots at slot) (texts ++ name) n (hash_of n) ≡ Some found) f
            (ap (kept_for (set slots at slot) (texts ++ name) name) e ∙ own named missed)
        go false t d = others other (hash_of other) t

-- free slots keep nothing
pub none_kept : (texts name : Bytes) (tag : ℕ) (slots : List TextSlot) → All (λ slot. slot.length ≡ 0) slots → kept_among texts name tag slots ≡ None
none_kept texts name tag [] all = refl
none_kept texts name tag (slot ∷ more) all =
    ap (λ b. cond b (Some (record_in slot)) (kept_among texts name tag more)) (length_differs (nat_eq slot.tag tag) (nat_lt 0 slot.length) (bytes_eq (text_in texts slot) name) (ap (λ n. nat_lt 0 n) (All-head (λ slot. slot.length ≡ 0) slot more all)))
    ∙ none_kept texts name tag more (All-tail (λ slot. slot.length ≡ 0) slot more all)

pub none_for : (texts name : Bytes) (hash room : ℕ) → kept_for (replicate room free) texts name hash ≡ None
none_for texts name hash room =
    none_kept texts name (hash % 65536) (slots_of (replicate room free) hash) (All-take IsFree 8 behind (All-drop IsFree (first_slot (length (replicate room free)) hash) (replicate room free) (All-replicate IsFree room free refl)))
  where
    IsFree : TextSlot → Type 0
    IsFree slot = slot.length ≡ 0

    behind : List TextSlot
    behind = drop (first_slot (length (replicate room free)) hash) (replicate room free)

module _ (name : Bytes) (found : RecordPlace) (other : Bytes) where
  -- one more in the slots
  pub added_slot : (kept new : Option RecordPlace) (under : Option RecordPlace) → new ≡ (if bytes_eq name other then Some found else kept)
      → option_or new under ≡ (if bytes_eq name other then Some found else option_or kept under)
  added_slot kept new under is = ap (λ (found : Option RecordPlace). option_or found under) is ∙ go (bytes_eq name other)
    where
      go : (same : Bool) → option_or (if same then Some found else kept) under ≡ (if same then Some found else option_or kept under)
      go true = refl
      go false = refl

  -- one more in the map, where no slot has the name
  pub added_other : (kept : Bytes → Option RecordPlace) (under new : Option RecordPlace) → kept name ≡ None → new ≡ (if bytes_eq name other then Some found else under)
      → option_or (kept other) new ≡ (if bytes_eq name other then Some found else option_or (kept other) under)
  added_other kept under new missed is = ap (option_or (kept other)) is ∙ go (bytes_eq name other) (bytes_eq-Decides name other)
    where
      go : (same : Bool) → Decides same (name ≡ other) → option_or (kept other) (if same then Some found else under) ≡ (if same then Some found else option_or (kept other) under)
      go true d = ap (λ (first : Option RecordPlace). option_or first (Some found)) (sym (ap kept (d.0 refl)) ∙ missed)
      go false d = refl
