-- No two short names have one number, so a record that is added by its number is added by its name.
use Rattle.std.proofs.Common.{◌≡◌, is_none, is_some, not, subst, ℕ, zero, suc, ◌+◌, ◌-◌, ◌*◌, ◌^◌, ◌%◌, ◌<◌, ◌≤◌, Bool, true, false, cond, nat_eq, nat_le, nat_lt, ◌&&◌, [], ◌∷◌, Option, Some, None, option_map, Result, Ok, Err, IfOk, refl, sym, ap, ◌∙◌, arith, rules, List, length}
use Rattle.std.specs.Bool.{if◌then◌else◌, Decides}
use Rattle.std.specs.Char.{is_ascii_digit}
use Rattle.std.specs.Option.{option_or}
use Rattle.std.specs.List.{list_all}
use Rattle.std.specs.Str.{bytes_eq}
use Rattle.std.specs.HashMap.{get, hash_map_len}
use Rattle.std.proofs.lemmas.Slice.Eq.{bytes_eq-Decides}
use Rattle.std.proofs.lemmas.Bool.Decides.{nat_tests}
use Rattle.ged_line.specs.Bytes.{Bytes}
use Rattle.ged_link.specs.declared.index.RecordPlace.{RecordPlace}
use Rattle.ged_link.specs.declared.names.Names.{Names}
use Rattle.ged_link.specs.NameNumbers.{name_number, digits_number, number_up_to, is_up_to, is_full, count_read, counted_number, number_within, short_number}
use Rattle.ged_link.specs.declared.slots.Slots.{Slots}
use Rattle.ged_link.specs.Indexes.{found_in, found_by, found_short, first_of}
use Rattle.ged_link.specs.Slots.{kept_in, slot_in}
use Rattle.ged_link.specs.TextRecords.{found_by_text}
use Rattle.ged_link.specs.inner.Slots.{KeepsIn, kept_at}
use Rattle.ged_link.specs.inner.Resolving.{AddsName, AddsRecord}
use Rattle.ged_link.proofs.LinkLemmas.{both}

abbrev are_bytes : Bytes → Bool
are_bytes name = list_all (λ b. nat_lt b 256) name

below : (b : ℕ) → nat_lt b 256 ≡ true → b < 256
below b e = grind (arith, nat_tests)

positive : (name : Bytes) → 1 ≤ name_number name
positive [] = omega arith
positive (b ∷ bs) = let h = positive bs in omega (arith, h)

digit_same : (a b m n : ℕ) → a < 256 → b < 256 → a + 256 * m ≡ b + 256 * n → (a ≡ b) × (m ≡ n)
digit_same a b m n h k e = (omega (arith, h, k, e), omega (arith, h, k, e))

number_same : (a b : Bytes) → are_bytes a ≡ true → are_bytes b ≡ true → name_number a ≡ name_number b → a ≡ b
number_same [] [] h k e = refl
number_same [] (b ∷ bs) h k e = let p = positive bs in absurd (omega (arith, p, e))
number_same (a ∷ xs) [] h k e = let p = positive xs in absurd (omega (arith, p, e))
number_same (a ∷ xs) (b ∷ bs) h k e =
    let hs = both _ _ h in
    let ks = both _ _ k in
    let same = digit_same a b (name_number xs) (name_number bs) (below a hs.0) (below b ks.0) e in
    let first = same.0 in
    let rest = number_same xs bs hs.1 ks.1 same.1 in
    cc

digits_same : (a b : Bytes) → are_bytes a ≡ true → are_bytes b ≡ true → length a ≡ length b → digits_number a ≡ digits_number b → a ≡ b
digits_same [] [] h k long e = refl
digits_same [] (b ∷ bs) h k long e = absurd (omega (arith, long))
digits_same (a ∷ xs) [] h k long e = absurd (omega (arith, long))
digits_same (a ∷ xs) (b ∷ bs) h k long e =
    let hs = both _ _ h in
    let ks = both _ _ k in
    let same = digit_same a b (digits_number xs) (digits_number bs) (below a hs.0) (below b ks.0) e in
    let first = same.0 in
    let rest = digits_same xs bs hs.1 ks.1 (omega (arith, long)) same.1 in
    cc

-- a number with a one above so many bytes is less than the two that stands there in none
pub bounded : (most : ℕ) (name : Bytes) → are_bytes name ≡ true → length name ≤ most → name_number name < 2 * 256 ^ most
bounded zero [] h k = omega arith
bounded zero (b ∷ bs) h k = absurd (omega (arith, k))
bounded (suc most) [] h k = let more = bounded most [] refl (omega arith) in omega (arith, more)
bounded (suc most) (b ∷ bs) h k =
    let hs = both _ _ h in
    let digit = below b hs.0 in
    let more = bounded most bs hs.1 (omega (arith, k)) in
    omega (arith, digit, more)

-- what is known of a name that has a number: a one stands above its bytes, or it has eight
pub record IsShorter (name : Bytes) (number : ℕ) : Type 0 where
  pub bytes : are_bytes name ≡ true
  pub long : length name ≤ 7
  pub is : number ≡ name_number name

pub record IsFull (name : Bytes) (number : ℕ) : Type 0 where
  pub bytes : are_bytes name ≡ true
  pub long : length name ≡ 8
  pub is : number ≡ digits_number name
  pub least : 2 * 256 ^ 7 ≤ number
  pub most : number < 2 ^ 63

-- or it is counted
pub record IsCounted (name : Bytes) (number : ℕ) : Type 0 where
  pub first : ℕ
  pub digits : Bytes
  pub count : ℕ
  pub parts : name ≡ first ∷ digits
  pub byte : first < 256
  pub few : length digits < 16
  pub read : count_read 0 digits ≡ Some count
  pub is : number ≡ 2 ^ 63 + (first + 256 * (16 * count + length digits))

pub data IsNumbered (name : Bytes) (number : ℕ) : Type 0 where
  shorter : IsShorter name number → IsNumbered name number
  full : IsFull name number → IsNumbered name number
  counted : IsCounted name number → IsNumbered name number

is_counted : (name : Bytes) (number : ℕ) → counted_number name ≡ Some number → IsCounted name number
is_counted [] number e = cc
is_counted (b ∷ digits) number e = go (nat_lt b 256 && nat_lt (length digits) 16) refl e
  where
    number_from : ℕ → ℕ
    number_from count = 2 ^ 63 + (b + 256 * (16 * count + length digits))

    told : (o : Option ℕ) → count_read 0 digits ≡ o → b < 256 → length digits < 16 → option_map number_from o ≡ Some number → IsCounted (b ∷ digits) number
    told None read byte few e = cc
    told (Some count) read byte few e = record { first = b; digits = digits; count = count; parts = refl; byte = byte; few = few; read = read; is = cc }

    go : (fits : Bool) → nat_lt b 256 && nat_lt (length digits) 16 ≡ fits → cond fits (option_map number_from (count_read 0 digits)) None ≡ Some number → IsCounted (b ∷ digits) number
    go true h k =
        let parts : (nat_lt b 256 ≡ true) × (nat_lt (length digits) 16 ≡ true) = both _ _ h in
        told (count_read 0 digits) refl (below b parts.0) (grind (arith, nat_tests)) k
    go false h k = cc

pub numbered : (name : Bytes) (number : ℕ) → short_number name ≡ Some number → IsNumbered name number
numbered name number e = in_counted (counted_number name) refl e
  where
    in_shorter : (short : Bool) → is_up_to 7 name ≡ short → cond short (Some (name_number name)) None ≡ Some number → IsNumbered name number
    in_shorter true h k =
        let parts : (nat_le (length name) 7 ≡ true) × (are_bytes name ≡ true) = both _ _ h in
        shorter (record { bytes = parts.1; long = grind (arith, nat_tests); is = cc })
    in_shorter false h k = cc

    in_full : (is : Bool) → is_full 8 name ≡ is → cond is (Some (digits_number name)) (number_up_to 7 name) ≡ Some number → IsNumbered name number
    in_full true h k =
        let parts : (nat_eq (length name) 8 ≡ true) × (are_bytes name && (nat_le (2 * 256 ^ 7) (digits_number name) && nat_lt (digits_number name) (128 * 256 ^ 7)) ≡ true) = both _ _ h in
        let more : (are_bytes name ≡ true) × (nat_le (2 * 256 ^ 7) (digits_number name) && nat_lt (digits_number name) (128 * 256 ^ 7) ≡ true) = both _ _ parts.1 in
        let bounds : (nat_le (2 * 256 ^ 7) (digits_number name) ≡ true) × (nat_lt (digits_number name) (128 * 256 ^ 7) ≡ true) = both _ _ more.1 in
        let same : number ≡ digits_number name = cc in
        full (record { bytes = more.0; long = grind (arith, nat_tests); is = same; least = grind (arith, nat_tests); most = grind (arith, nat_tests) })
    in_full false h k = in_shorter (is_up_to 7 name) refl k

    in_counted : (o : Option ℕ) → counted_number name ≡ o → option_or o (number_within 8 name) ≡ Some number → IsNumbered name number
    in_counted (Some other) h k = counted (is_counted name number (h ∙ k))
    in_counted None h k = in_full (is_full 8 name) refl k

apart : (a b : Bytes) (m n : ℕ) → IsShorter a m → IsFull b n → m ≡ n → ⊥
apart a b m n x y e =
    let most = bounded 7 a x.bytes x.long in
    let least = y.least in
    let number = x.is in
    omega (arith, most, least, number, e)

-- no other name reaches the highest of 64 bits
shorter_apart : (a b : Bytes) (m n : ℕ) → IsShorter a m → IsCounted b n → m ≡ n → ⊥
shorter_apart a b m n x y e = let most = bounded 7 a x.bytes x.long in omega (arith, most, x.is, y.is, e)

full_apart : (a b : Bytes) (m n : ℕ) → IsFull a m → IsCounted b n → m ≡ n → ⊥
full_apart a b m n x y e = omega (arith, x.most, y.is, e)

pub digit_bounds : (b : ℕ) → is_ascii_digit b ≡ true → (48 ≤ b) × (b ≤ 57)
digit_bounds b e = let parts : (nat_le 48 b ≡ true) × (nat_le b 57 ≡ true) = both _ _ e in (grind (arith, nat_tests), grind (arith, nat_tests))

one_more : (s t a b : ℕ) → (48 ≤ a) × (a ≤ 57) → (48 ≤ b) × (b ≤ 57) → s * 10 + (a - 48) ≡ t * 10 + (b - 48) → (s ≡ t) × (a ≡ b)
one_more s t a b h k e = (omega (arith, h.0, h.1, k.0, k.1, e), omega (arith, h.0, h.1, k.0, k.1, e))

-- as many digits spell one count in one way
count_same : (s t : ℕ) (a b : Bytes) (m n : ℕ) → length a ≡ length b → count_read s a ≡ Some m → count_read t b ≡ Some n → m ≡ n → (s ≡ t) × (a ≡ b)
count_same s t [] [] m n long h k e = (cc, refl)
count_same s t [] (b ∷ bs) m n long h k e = absurd (omega (arith, long))
count_same s t (a ∷ xs) [] m n long h k e = absurd (omega (arith, long))
count_same s t (a ∷ xs) (b ∷ bs) m n long h k e =
    go (λ more others. count_same (s * 10 + (a - 48)) (t * 10 + (b - 48)) xs bs m n (omega (arith, long)) more others e)
    (is_ascii_digit a && nat_lt s (2 ^ 46)) (is_ascii_digit b && nat_lt t (2 ^ 46)) refl refl h k
  where
    go : (count_read (s * 10 + (a - 48)) xs ≡ Some m → count_read (t * 10 + (b - 48)) bs ≡ Some n → (s * 10 + (a - 48) ≡ t * 10 + (b - 48)) × (xs ≡ bs)) → (x y : Bool) → is_ascii_digit a && nat_lt s (2 ^ 46) ≡ x → is_ascii_digit b && nat_lt t (2 ^ 46) ≡ y
        → cond x (count_read (s * 10 + (a - 48)) xs) None ≡ Some m → cond y (count_read (t * 10 + (b - 48)) bs) None ≡ Some n → (s ≡ t) × (a ∷ xs ≡ b ∷ bs)
    go behind true true p q h k =
        let rest = behind h k in
        let first = one_more s t a b (digit_bounds a (both _ _ p).0) (digit_bounds b (both _ _ q).0) rest.0 in
        let same = first.1 in
        let more = rest.1 in
        (first.0, cc)
    go behind false y p q h k = cc
    go behind true false p q h k = cc

parts_same : (first other count counts long longer : ℕ) → first < 256 → other < 256 → long < 16 → longer < 16
    → 2 ^ 63 + (first + 256 * (16 * count + long)) ≡ 2 ^ 63 + (other + 256 * (16 * counts + longer)) → (first ≡ other) × (count ≡ counts) × (long ≡ longer)
parts_same first other count counts long longer h k l m e =
    (omega (arith, h, k, l, m, e), omega (arith, h, k, l, m, e), omega (arith, h, k, l, m, e))

counted_same : (a b : Bytes) (m n : ℕ) → IsCounted a m → IsCounted b n → m ≡ n → a ≡ b
counted_same a b m n x y e =
    let (first, count, long) = parts_same x.first y.first x.count y.count (length x.digits) (length y.digits) x.byte y.byte x.few y.few (sym x.is ∙ e ∙ y.is) in
    let digits = (count_same 0 0 x.digits y.digits x.count y.count long x.read y.read count).1 in
    let xs = x.parts in
    let ys = y.parts in
    cc

one_name : (a b : Bytes) (m n : ℕ) → short_number a ≡ Some m → short_number b ≡ Some n → m ≡ n → a ≡ b
one_name a b m n h k e = go (numbered a m h) (numbered b n k)
  where
    go : IsNumbered a m → IsNumbered b n → a ≡ b
    go (shorter x) (shorter y) = number_same a b x.bytes y.bytes (sym x.is ∙ e ∙ y.is)
    go (shorter x) (full y) = absurd (apart a b m n x y e)
    go (shorter x) (counted y) = absurd (shorter_apart a b m n x y e)
    go (full x) (shorter y) = absurd (apart b a n m y x (sym e))
    go (full x) (full y) = digits_same a b x.bytes y.bytes (x.long ∙ sym y.long) (sym x.is ∙ e ∙ y.is)
    go (full x) (counted y) = absurd (full_apart a b m n x y e)
    go (counted x) (shorter y) = absurd (shorter_apart b a n m y x (sym e))
    go (counted x) (full y) = absurd (full_apart b a n m y x (sym e))
    go (counted x) (counted y) = counted_same a b m n x y e

one_number : (a b : Bytes) (m n : ℕ) → short_number a ≡ Some m → short_number b ≡ Some n → a ≡ b → m ≡ n
one_number a b m n h k e = some_same m n (sym h ∙ ap short_number e ∙ k)
  where
    some_same : (m n : ℕ) → Some m ≡ Some n → m ≡ n
    some_same m n e = cc

-- a name's number is not zero, which tells that a slot is free
pub above : (name : Bytes) (number : ℕ) → short_number name ≡ Some number → 0 < number
above name number e = go (numbered name number e)
  where
    go : IsNumbered name number → 0 < number
    go (shorter x) = let p = positive name in omega (arith, p, x.is)
    go (full x) = omega (arith, x.least)
    go (counted x) = omega (arith, x.is)

-- its lowest byte is the name's first
pub first_byte : (b : ℕ) (bs : Bytes) (number : ℕ) → short_number (b ∷ bs) ≡ Some number → b ≡ number % 256
first_byte b bs number e = go (numbered (b ∷ bs) number e)
  where
    lowest : (rest : ℕ) → are_bytes (b ∷ bs) ≡ true → number ≡ b + 256 * rest → b ≡ number % 256
    lowest rest h is = let digit = below b (both _ _ h).0 in omega (arith, digit, is)

    same_first : (x : IsCounted (b ∷ bs) number) → b ≡ x.first
    same_first x = let parts = x.parts in cc

    in_counted : (first rest : ℕ) → first < 256 → number ≡ 2 ^ 63 + (first + 256 * rest) → first ≡ number % 256
    in_counted first rest byte is = omega (arith, byte, is)

    go : IsNumbered (b ∷ bs) number → b ≡ number % 256
    go (shorter x) = lowest (name_number bs) x.bytes x.is
    go (full x) = lowest (digits_number bs) x.bytes x.is
    go (counted x) = same_first x ∙ in_counted x.first (16 * x.count + length x.digits) x.byte x.is

equal_numbers : (m n : ℕ) → nat_eq m n ≡ true → m ≡ n
equal_numbers m n e = grind (arith, nat_tests)

same_slot : (m n : ℕ) → m ≡ n → nat_eq m n ≡ true
same_slot m n e = grind (arith, nat_tests)

-- the test of two numbers is the test of their names
same_tests : (m n : ℕ) (a b : Bytes) → (m ≡ n → a ≡ b) → (a ≡ b → m ≡ n) → nat_eq m n ≡ bytes_eq a b
same_tests m n a b there back = go (nat_eq m n) (bytes_eq a b) refl (bytes_eq-Decides a b)
  where
    equal : nat_eq m n ≡ true → m ≡ n
    equal e = grind (arith, nat_tests)

    apart : nat_eq m n ≡ false → m ≡ n → ⊥
    apart e k = grind (arith, nat_tests)

    go : (x y : Bool) → nat_eq m n ≡ x → Decides y (a ≡ b) → x ≡ y
    go true true e d = refl
    go false false e d = refl
    go true false e d = absurd (let f = there (equal e) in search rules)
    go false true e d = let f : a ≡ b = search rules in absurd (apart e (back f))

nothing : {X : Type 0} (xs : List X) → length xs ≡ 0 → xs ≡ []
nothing [] e = refl
nothing (x ∷ xs) e = absurd (omega (arith, e))

-- empty maps hold no name
pub none_short : (records : Names) → hash_map_len records.short ≡ 0 → (n : ℕ) → get nat_eq records.short n ≡ None
none_short records e n = let f = nothing records.short.entries e in search rules

-- so a map of numbers that is empty may be replaced by another that is
pub same_names : (old new : Names) → hash_map_len old.short ≡ 0 → hash_map_len new.short ≡ 0 → new.long ≡ old.long → new.slots ≡ old.slots → (name : Bytes) → found_in new name ≡ found_in old name
same_names old new h k long same name = go (short_number name)
  where
    go : (o : Option ℕ) → found_by new name o ≡ found_by old name o
    go (Some n) =
        ap (first_of (kept_in new.slots name n)) (none_short new k n) ∙ ap (λ (slots : Slots). first_of (kept_in slots name n) None) same ∙ ap (first_of (kept_in old.slots name n)) (sym (none_short old h n))
    go None = ap (λ records. found_by_text records name) long

-- no long name is empty
pub not_empty : (name : Bytes) → short_number name ≡ None → 0 < length name
not_empty [] e = absurd (cc)
not_empty (b ∷ bs) e = omega arith

-- the answer of a test that there is none
pub told_none : (told : Bool) (o : Option RecordPlace) → is_some o ≡ not told → told ≡ is_none o
told_none true None e = refl
told_none false None e = absurd (cc)
told_none true (Some found) e = absurd (cc)
told_none false (Some found) e = refl

module _ (old new : Names) (name : Bytes) (found : RecordPlace) where
  -- by its number
  pub added_short : (number : ℕ) → short_number name ≡ Some number
      → ((other : Bytes) (n : ℕ) → short_number other ≡ Some n → found_short new other n ≡ cond (nat_eq number n) (Some found) (found_short old other n)) → new.long ≡ old.long → AddsName old new name found
  added_short number is updates kept other = go (short_number other) refl
    where
      go : (o : Option ℕ) → short_number other ≡ o → found_by new other o ≡ (if bytes_eq name other then Some found else found_by old other o)
      go (Some n) other_is =
          updates other n other_is ∙ ap (λ (same : Bool). cond same (Some found) (found_short old other n)) (same_tests number n name other (one_name name other number n is other_is) (one_number name other number n is other_is))
      go None other_is = not_here (bytes_eq name other) (bytes_eq-Decides name other)
        where
          none_some : (o : Option ℕ) → o ≡ Some number → o ≡ None → ⊥
          none_some o h k = absurd (let f : None ≡ Some number = sym k ∙ h in cc)

          not_here : (same : Bool) → Decides same (name ≡ other) → found_by_text new.long other ≡ (if same then Some found else found_by_text old.long other)
          not_here false d = ap (λ records. found_by_text records other) kept
          not_here true d = let f : name ≡ other = search rules in absurd (none_some (short_number other) (sym (ap short_number f) ∙ is) other_is)

  -- as a text
  pub added_long : short_number name ≡ None → ((n : Bytes) → found_by_text new.long n ≡ (if bytes_eq name n then Some found else found_by_text old.long n)) → new.short ≡ old.short → new.slots ≡ old.slots → AddsName old new name found
  added_long is updates kept slots_kept other = go (short_number other) refl
    where
      go : (o : Option ℕ) → short_number other ≡ o → found_by new other o ≡ (if bytes_eq name other then Some found else found_by old other o)
      go None other_is = updates other
      go (Some n) other_is = not_here (bytes_eq name other) (bytes_eq-Decides name other)
        where
          none_some : (o : Option ℕ) → o ≡ None → o ≡ Some n → ⊥
          none_some o h k = absurd (let f : None ≡ Some n = sym h ∙ k in cc)

          not_here : (same : Bool) → Decides same (name ≡ other) → found_short new other n ≡ (if same then Some found else found_short old other n)
          not_here false d = ap (λ (slots : Slots). first_of (kept_in slots other n) (get nat_eq new.short n)) slots_kept ∙ ap (λ records. first_of (kept_in old.slots other n) (get nat_eq records n)) kept
          not_here true d = let f : name ≡ other = search rules in absurd (none_some (short_number other) (sym (ap short_number f) ∙ is) other_is)

  -- by what a table of texts answers
  pub added_by_text : {E : Type 0} (r : Result Bool E) → short_number name ≡ None → IfOk r (λ is_new. is_new ≡ is_none (found_by_text old.long name))
      → (r ≡ Ok true → (other : Bytes) → found_by_text new.long other ≡ (if bytes_eq name other then Some found else found_by_text old.long other))
      → new.short ≡ old.short → new.slots ≡ old.slots → IfOk r (AddsRecord old new (Some name) found)
  added_by_text (Ok is_new) is told added kept slots_kept = (
    told ∙ ap (λ o. is_none (found_by old name o)) (sym is),
    λ e. added_long is (added (ap Ok e)) kept slots_kept,
  )
  added_by_text (Err error) is told added kept slots_kept = tt

  module _ (number : ℕ) (is : short_number name ≡ Some number) where
    -- in its slot
    pub kept_short : KeepsIn old.slots new.slots (slot_in old.slots.regions.items name) number found → new.short ≡ old.short → (other : Bytes) (n : ℕ) → short_number other ≡ Some n → found_short new other n ≡ cond (nat_eq number n) (Some found) (found_short old other n)
    kept_short keeps kept other n other_is =
        ap (λ o. first_of o (get nat_eq new.short n)) (keeps other n (above other n other_is))
        ∙ ap (λ records. first_of (cond (nat_eq number n && nat_eq (slot_in old.slots.regions.items name) (slot_in old.slots.regions.items other)) (Some found) (kept_in old.slots other n)) (get nat_eq records n)) kept
        ∙ go (nat_eq number n) refl
      where
        its_slot : nat_eq number n ≡ true → nat_eq (slot_in old.slots.regions.items name) (slot_in old.slots.regions.items other) ≡ true
        its_slot e = same_slot _ _ (ap (slot_in old.slots.regions.items) (one_name name other number n is other_is (equal_numbers number n e)))

        go : (b : Bool) → nat_eq number n ≡ b → first_of (cond (b && nat_eq (slot_in old.slots.regions.items name) (slot_in old.slots.regions.items other)) (Some found) (kept_in old.slots other n)) (get nat_eq old.short n) ≡ cond b (Some found) (found_short old other n)
        go true e = ap (λ b. first_of (cond b (Some found) (kept_in old.slots other n)) (get nat_eq old.short n)) (its_slot e)
        go false e = refl

    -- where it has no slot, it is found by its number
    pub found_missed : kept_in old.slots name number ≡ None → found_in old name ≡ get nat_eq old.short number
    found_missed missed = ap (found_by old name) is ∙ ap (λ o. first_of o (get nat_eq old.short number)) missed

    -- and kept by it
    pub missed_short : kept_in old.slots name number ≡ None → new.slots ≡ old.slots → ((n : ℕ) → get nat_eq new.short n ≡ cond (nat_eq number n) (Some found) (get nat_eq old.short n))
        → (other : Bytes) (n : ℕ) → short_number other ≡ Some n → found_short new other n ≡ cond (nat_eq number n) (Some found) (found_short old other n)
    missed_short missed same_slots updates other n other_is =
        ap (λ (slots : Slots). first_of (kept_in slots other n) (get nat_eq new.short n)) same_slots
        ∙ ap (first_of (kept_in old.slots other n)) (updates n)
        ∙ go (nat_eq number n) refl
      where
        none_there : nat_eq number n ≡ true → kept_in old.slots other n ≡ None
        none_there e =
            let numbers = equal_numbers number n e in
            let names = one_name name other number n is other_is numbers in
            ap (λ m. kept_in old.slots other m) (sym numbers) ∙ ap (λ m. kept_in old.slots m number) (sym names) ∙ missed

        go : (b : Bool) → nat_eq number n ≡ b → first_of (kept_in old.slots other n) (cond b (Some found) (get nat_eq old.short n)) ≡ cond b (Some found) (found_short old other n)
        go true e = ap (λ o. first_of o (Some found)) (none_there e)
        go false e = refl

    module _ (slot : ℕ) (at : slot_in old.slots.regions.items name ≡ slot) where
      found_at : found_in old name ≡ first_of (kept_at old.slots slot number) (get nat_eq old.short number)
      found_at = ap (found_by old name) is ∙ ap (λ s. first_of (kept_at old.slots s number) (get nat_eq old.short number)) at

      -- in its slot, where that was free
      pub adds_kept : is_none (kept_at old.slots slot number) ≡ true → KeepsIn old.slots new.slots slot number found → new.short ≡ old.short → new.long ≡ old.long
          → AddsRecord old new (Some name) found (is_none (get nat_eq old.short number))
      adds_kept free keeps kept kept_long = (
        free_first (kept_at old.slots slot number) free ∙ ap is_none (sym found_at),
        λ _. added_short number is (kept_short (subst (λ s. KeepsIn old.slots new.slots s number found) (sym at) keeps) kept) kept_long,
      )
        where
          free_first : (o : Option RecordPlace) → is_none o ≡ true → is_none (get nat_eq old.short number) ≡ is_none (first_of o (get nat_eq old.short number))
          free_first None e = refl
          free_first (Some other) e = cc

-- what is added once the maps have a key is added to what they held before
pub added_before : {E : Type 0} (old begun new : Names) (name : Bytes) (xref : Option Bytes) (found : RecordPlace) → ((n : Bytes) → found_in begun n ≡ found_in old n) → xref ≡ Some name
    → (r : Result Bool E) → IfOk r (AddsRecord begun new (Some name) found) → IfOk r (AddsRecord old new xref found)
added_before old begun new name xref found same is (Ok is_new) adds = subst (λ (x : Option Bytes). AddsRecord old new x found is_new) (sym is) (
  adds.0 ∙ ap is_none (same name),
  λ new_is other. adds.1 new_is other ∙ ap (λ o. if bytes_eq name other then Some found else o) (same other),
)
added_before old begun new name xref found same is (Err e) adds = tt
