-- What is read of the digits of counted names, and where these have their slots.
use Rattle.std.proofs.Common.{◌≡◌, ℕ, ◌+◌, ◌-◌, ◌*◌, ◌/◌, ◌^◌, ◌%◌, ◌<◌, ◌≤◌, Bool, true, false, cond, nat_lt, ◌&&◌, drop, slice_index_or, [], ◌∷◌, Some, None, refl, ap, ◌∙◌, arith, List, length}
use Rattle.std.specs.Char.{is_ascii_digit}
use Rattle.std.proofs.lemmas.List.{drop_more}
use Rattle.ged_line.specs.Bytes.{Bytes}
use Rattle.ged_link.specs.NameNumbers.{count_read, short_number}
use Rattle.ged_link.specs.Slots.{no_region, number_read, slot_in, slot_within}
use Rattle.ged_link.specs.declared.slots.Region.{Region}
use Rattle.ged_link.proofs.LinkLemmas.{both}
use Rattle.ged_link.proofs.NameLemmas.{bounded, digit_bounds, numbered, IsCounted, IsNumbered, shorter, full, counted}

-- one digit more is read
pub digit_read : (so_far : ℕ) (digits : Bytes) (i : ℕ) → i < length digits
    → count_read so_far (drop i digits) ≡ cond (is_ascii_digit (slice_index_or digits i 0) && nat_lt so_far (2 ^ 46)) (count_read (so_far * 10 + (slice_index_or digits i 0 - 48)) (drop (i + 1) digits)) None
digit_read so_far digits i within = ap (count_read so_far) (drop_more digits i 0 within)

-- a count that 32 bits hold is what the digits spell in 32 bits
pub read_as_counted : (so_far : ℕ) (digits : Bytes) (count : ℕ) → count_read so_far digits ≡ Some count → count < 4294967296 → (so_far ≤ count) × (number_read so_far digits ≡ count)
read_as_counted so_far [] count e few = (let f : so_far ≡ count = cc in omega (arith, f), cc)
read_as_counted so_far (b ∷ bs) count e few = go (λ rest. read_as_counted (so_far * 10 + (b - 48)) bs count rest few) (is_ascii_digit b && nat_lt so_far (2 ^ 46)) refl e
  where
    go : (count_read (so_far * 10 + (b - 48)) bs ≡ Some count → (so_far * 10 + (b - 48) ≤ count) × (number_read (so_far * 10 + (b - 48)) bs ≡ count)) → (more : Bool) → is_ascii_digit b && nat_lt so_far (2 ^ 46) ≡ more → cond more (count_read (so_far * 10 + (b - 48)) bs) None ≡ Some count
        → (so_far ≤ count) × (number_read so_far (b ∷ bs) ≡ count)
    go behind true h k =
        let bounds = digit_bounds b (both _ _ h).0 in
        let rest = behind k in
        let next : (so_far * 10 % 4294967296 + b % 16) % 4294967296 ≡ so_far * 10 + (b - 48) = omega (arith, bounds.0, bounds.1, rest.0, few) in
        (omega (arith, rest.0), ap (λ (s : ℕ). number_read s bs) next ∙ rest.1)
    go behind false h k = cc

-- the slot of a counted name follows from its number, where 32 bits hold the count
pub counted_slot : (name : Bytes) (number bits : ℕ) → short_number name ≡ Some number → number ≡ 2 ^ 63 + bits → bits < 2 ^ 44 → (regions : List Region)
    → slot_in regions name ≡ slot_within (slice_index_or regions (bits % 256) no_region) (bits / 4096)
counted_slot name number bits e has few regions = go (numbered name number e)
  where
    parts : (first count long : ℕ) → first < 256 → long < 16 → number ≡ 2 ^ 63 + (first + 256 * (16 * count + long)) → (first ≡ bits % 256) × (count ≡ bits / 4096) × (count < 4294967296)
    parts first count long byte short is = (omega (arith, byte, short, is, has, few), omega (arith, byte, short, is, has, few), omega (arith, byte, short, is, has, few))

    in_slot : (x : IsCounted name number) → slot_in regions name ≡ slot_within (slice_index_or regions (bits % 256) no_region) (bits / 4096)
    in_slot x =
        let (first, count, small) = parts x.first x.count (length x.digits) x.byte x.few x.is in
        ap (slot_in regions) x.parts
        ∙ ap (λ (b : ℕ). slot_within (slice_index_or regions b no_region) (number_read 0 x.digits)) first
        ∙ ap (slot_within (slice_index_or regions (bits % 256) no_region)) ((read_as_counted 0 x.digits x.count x.read small).1 ∙ count)

    go : IsNumbered name number → slot_in regions name ≡ slot_within (slice_index_or regions (bits % 256) no_region) (bits / 4096)
    go (shorter x) = let most = bounded 7 name x.bytes x.long in absurd (omega (arith, most, x.is, has))
    go (full x) = absurd (omega (arith, x.most, has))
    go (counted x) = in_slot x

-- and what is read behind its first byte
pub count_behind : (b : ℕ) (bs : Bytes) (number bits : ℕ) → short_number (b ∷ bs) ≡ Some number → number ≡ 2 ^ 63 + bits → bits / 4096 < 4294967296 → number_read 0 bs ≡ bits / 4096
count_behind b bs number bits e has few = go (numbered (b ∷ bs) number e)
  where
    count_is : (first count long : ℕ) → first < 256 → long < 16 → number ≡ 2 ^ 63 + (first + 256 * (16 * count + long)) → count ≡ bits / 4096
    count_is first count long byte short is = omega (arith, byte, short, is, has)

    in_count : (x : IsCounted (b ∷ bs) number) → number_read 0 bs ≡ bits / 4096
    in_count x =
        let count = count_is x.first x.count (length x.digits) x.byte x.few x.is in
        let parts = x.parts in
        let digits : bs ≡ x.digits = cc in
        ap (number_read 0) digits ∙ (read_as_counted 0 x.digits x.count x.read (omega (arith, count, few))).1 ∙ count

    go : IsNumbered (b ∷ bs) number → number_read 0 bs ≡ bits / 4096
    go (shorter x) = let most = bounded 7 (b ∷ bs) x.bytes x.long in absurd (omega (arith, most, x.is, has))
    go (full x) = absurd (omega (arith, x.most, has))
    go (counted x) = in_count x
