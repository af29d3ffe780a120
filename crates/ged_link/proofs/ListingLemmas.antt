-- What is listed of the records. Of a name it tells the number and the slot.
use Rattle.std.proofs.Common.{◌≡◌, ℕ, suc, ◌+◌, ◌-◌, ◌*◌, ◌/◌, ◌%◌, ◌<◌, ◌≤◌, ◌==◌, arith, drop, [], ◌∷◌, ◌++◌, List, Option, Some, None, is_some, Bool, true, false, not, refl, sym, ap, ◌∙◌, subst, map, fold, length, replicate, append_assoc, slice_index_or, eqb→eq, T, Bor}
use Rattle.std.specs.Option.{option_copied}
use Rattle.std.proofs.lemmas.Grind.{replicate_next}
use Rattle.std.proofs.lemmas.List.{append-nil, length-append, length-map, length-replicate, get_or_append_left, get_or-append_right, get_or-replicate}
use Rattle.ged_line.specs.Bytes.{Bytes}
use Rattle.ged_tree.specs.Trees.{Structure, Trees, none, tree}
use Rattle.ged_tree.specs.Places.{structure_at}
use Rattle.ged_tree.specs.Runs.{trees_between, IsStep}
use Rattle.ged_link.specs.Links.{identifiers}
use Rattle.ged_link.specs.NameNumbers.{short_number}
use Rattle.ged_link.specs.RecordTypes.{IsTypeOf}
use Rattle.ged_link.specs.Slots.{number_read, no_region, slot_within, slot_in, kept_in}
use Rattle.ged_link.specs.inner.Layout.{counted}
use Rattle.ged_link.specs.inner.Listing.{listed_with, listed_text, listed_name, listed_halves, listed_digits, all_halves, all_digits, IsListedFrom, AreTypesOf}
use Rattle.ged_link.specs.inner.Slots.{kept_at, IsMissed}
use Rattle.ged_link.specs.declared.listing.ListedName.{ListedName}
use Rattle.ged_link.specs.declared.listing.ListedNames.{ListedNames}
use Rattle.ged_link.specs.declared.listing.RecordList.{RecordList}
use Rattle.ged_link.specs.declared.names.Names.{Names}
use Rattle.ged_link.specs.declared.record_type.RecordType.{RecordType}
use Rattle.ged_link.specs.declared.slots.Region.{Region}
use Rattle.ged_link.proofs.NameLemmas.{first_byte, above}
use Rattle.ged_link.proofs.RecordLemmas.{left_within, left_first, left_next}

-- a name of which this is listed
pub record IsListed (listed : ListedName) (xref : Option Bytes) : Type 0 where
  pub name : Bytes
  pub is : xref ≡ Some name
  pub number : short_number name ≡ Some listed.number
  pub slot : (regions : List Region) → slot_in regions name ≡ slot_within (slice_index_or regions (listed.number % 256) no_region) listed.digits

pub is_listed : (listed : ListedName) (xref : Option Bytes) → listed ≡ listed_name xref → (listed.number ≡ 0 → ⊥) → IsListed listed xref
is_listed listed None e some = absurd (some (ap (λ (l : ListedName). l.number) e))
is_listed listed (Some []) e some = absurd (some (ap (λ (l : ListedName). l.number) e))
is_listed listed (Some (b ∷ bs)) e some = go (short_number (b ∷ bs)) refl e
  where
    go : (o : Option ℕ) → short_number (b ∷ bs) ≡ o → listed ≡ listed_with (number_read 0 bs) o → IsListed listed (Some (b ∷ bs))
    go None k is = absurd (some (ap (λ (l : ListedName). l.number) is))
    go (Some number) k is =
        let number_is : number ≡ listed.number = sym (ap (λ (l : ListedName). l.number) is) in
        let digits_are : number_read 0 bs ≡ listed.digits = sym (ap (λ (l : ListedName). l.digits) is) in
        let first : b ≡ listed.number % 256 = first_byte b bs number k ∙ ap (λ (n : ℕ). n % 256) number_is in
        record {
          name = b ∷ bs;
          is = refl;
          number = k ∙ ap Some number_is;
          slot = λ regions. ap (λ (byte : ℕ). slot_within (slice_index_or regions byte no_region) (number_read 0 bs)) first
              ∙ ap (slot_within (slice_index_or regions (listed.number % 256) no_region)) digits_are;
        }

-- where a name has a number, and nothing is kept for that in the slot
pub missed_short : (records : Names) (listed : ListedName) (xref : Option Bytes) (is : IsListed listed xref) (slot : ℕ) → slot_in records.slots.regions.items is.name ≡ slot
    → kept_at records.slots slot listed.number ≡ None → (listed.number ≡ 0 → ⊥) → IsMissed records listed.number xref
missed_short records listed xref is slot at missed some = record {
  name = is.name;
  is = is.is;
  short = λ _. is.number;
  long = λ zero. absurd (some zero);
  missed = λ number e.
      ap (kept_in records.slots is.name) (some_same number listed.number (sym e ∙ is.number)) ∙ ap (λ (s : ℕ). kept_at records.slots s listed.number) at ∙ missed;
}
  where
    some_same : (m n : ℕ) → Some m ≡ Some n → m ≡ n
    some_same m n e = cc

-- a name of which no number is listed spells none
pub spells_none : (listed : ListedName) (name : Bytes) → listed ≡ listed_text name → (name ≡ [] → ⊥) → listed.number ≡ 0 → short_number name ≡ None
spells_none listed [] e named zero = absurd (named refl)
spells_none listed (b ∷ bs) e named zero = go (short_number (b ∷ bs)) refl e
  where
    go : (o : Option ℕ) → short_number (b ∷ bs) ≡ o → listed ≡ listed_with (number_read 0 bs) o → short_number (b ∷ bs) ≡ None
    go None k is = k
    go (Some n) k is = absurd (omega (arith, above (b ∷ bs) n k, zero, ap (λ (l : ListedName). l.number) is))

-- where it has none
pub missed_long : (records : Names) (listed : ListedName) (xref : Option Bytes) → listed ≡ listed_name xref → (xref ≡ Some [] → ⊥) → listed.number ≡ 0 → (listed.digits ≡ 0 → ⊥)
    → IsMissed records listed.number xref
missed_long records listed None e named zero some = absurd (some (ap (λ (l : ListedName). l.digits) e))
missed_long records listed (Some name) e named zero some =
    let none = spells_none listed name e (λ empty. named (ap Some empty)) zero in
    record {
      name = name;
      is = refl;
      short = λ other. absurd (other zero);
      long = λ _. none;
      missed = λ number is. absurd (none_some (short_number name) number none is);
    }
  where
    none_some : (o : Option ℕ) (number : ℕ) → o ≡ None → o ≡ Some number → ⊥
    none_some o number h k = absurd (let f : None ≡ Some number = sym h ∙ k in cc)

-- where zeros are listed there is no name
pub is_unnamed : (listed : ListedName) (xref : Option Bytes) → listed ≡ listed_name xref → listed.number ≡ 0 → listed.digits ≡ 0 → xref ≡ None
is_unnamed listed None e number digits = refl
is_unnamed listed (Some []) e number digits = absurd (omega (arith, digits, ap (λ (l : ListedName). l.digits) e))
is_unnamed listed (Some (b ∷ bs)) e number digits = go (short_number (b ∷ bs)) refl e
  where
    go : (o : Option ℕ) → short_number (b ∷ bs) ≡ o → listed ≡ listed_with (number_read 0 bs) o → Some (b ∷ bs) ≡ None
    go None k is = absurd (omega (arith, digits, ap (λ (l : ListedName). l.digits) is))
    go (Some n) k is = absurd (omega (arith, above (b ∷ bs) n k, number, ap (λ (l : ListedName). l.number) is))

-- one more record without a name, where none has one so far
pub has_none : {X : Type 0} (told : Bool) (xref : Option (Bor X)) → is_some xref ≡ not told → told ≡ true → option_copied xref ≡ None
has_none told None e is = refl
has_none true (Some x) e is = absurd (cc)
has_none false (Some x) e is = absurd (cc)

pub are_none : (told : Bool) (counted long : ℕ) → told ≡ (counted == 0) → told ≡ true → counted ≡ long → long ≡ 0
are_none told counted long e is same = sym same ∙ eqb→eq counted 0 (subst T (sym (sym e ∙ is)) tt)

pub unnamed_more : {X Y Z : Type 0} (nothing : X) (names : List Y) (listed : List X) (old new : List Z) (one : Z) → new ≡ old ++ one ∷ [] → length names ≡ 0 → length listed ≡ 0
    → replicate (length new - length names) nothing ++ listed ≡ (replicate (length old - length names) nothing ++ listed) ++ nothing ∷ []
unnamed_more nothing names [] old new one adds empty bare =
    append-nil (replicate (length new - length names) nothing)
    ∙ ap (λ (n : ℕ). replicate n nothing) longer
    ∙ replicate_next (length old - length names) nothing
    ∙ ap (λ xs. xs ++ nothing ∷ []) (sym (append-nil (replicate (length old - length names) nothing)))
  where
    longer : length new - length names ≡ (length old - length names) + 1
    longer = let f = simp length-append at (ap length adds) in omega (arith, f, empty)
unnamed_more nothing names (x ∷ xs) old new one adds empty bare = absurd (omega (arith, bare))

-- as many numbers of names are listed as numbers behind their first bytes
pub as_many : (list : RecordList) (left all : List (Option Bytes)) → all_halves list ++ map listed_halves left ≡ map listed_halves all → all_digits list ++ map listed_digits left ≡ map listed_digits all
    → length list.names.items ≡ length list.digits.items
as_many list left all names digits =
    let f = simp (length-append, length-replicate, length-map) at (ap length names) in
    let k = simp (length-append, length-replicate, length-map) at (ap length digits) in
    omega (arith, f, k)

-- what stands at a place, where so many times the same stands before a list
module _ {X : Type 0} (count : ℕ) (same : X) (list : List X) (k : ℕ) (other : X) where
  pub before_listed : k < count → slice_index_or (replicate count same ++ list) k other ≡ same
  before_listed within =
      get_or_append_left (replicate count same) list other k (rw length-replicate within)
      ∙ get_or-replicate count k same other within

  pub at_listed : count ≤ k → slice_index_or (replicate count same ++ list) k other ≡ slice_index_or list (k - count) other
  at_listed past = get_or-append_right (replicate count same) list count k other (length-replicate count same) past

-- one more name is told and listed; those that are left
module _ (pushed xref : Option Bytes) (same : pushed ≡ xref) (left more : List (Option Bytes)) (is : left ≡ xref ∷ more) where
  pub told_more : {X : Type 0} (tell : X → Option Bytes → X) (old new all : X) → new ≡ tell old pushed → fold tell old left ≡ all → fold tell new more ≡ all
  told_more {X} tell old new all tells before = ap (λ (so_far : X). fold tell so_far more) (tells ∙ ap (tell old) same) ∙ sym (ap (fold tell old) is) ∙ before

  pub listed_more : {X : Type 0} (list : Option Bytes → X) (old new all : List X) → new ≡ old ++ list pushed ∷ [] → old ++ map list left ≡ all → new ++ map list more ≡ all
  listed_more {X} list old new all lists before =
      ap (λ (ns : List X). ns ++ map list more) (lists ∙ ap (λ (x : Option Bytes). old ++ list x ∷ []) same)
      ∙ append_assoc old (list xref ∷ []) (map list more)
      ∙ sym (ap (λ (xs : List (Option Bytes)). old ++ map list xs) is)
      ∙ before

-- one more type, and those that are left
pub types_more : (types : List (Option RecordType)) (known : Option RecordType) (tag : Bytes) (left : Trees) (s : Structure) (below next all : Trees) → left ≡ tree s below next → IsTypeOf known tag → tag ≡ s.tag
    → ((more : List (Option RecordType)) → AreTypesOf more left → AreTypesOf (types ++ more) all) → (more : List (Option RecordType)) → AreTypesOf more next → AreTypesOf ((types ++ known ∷ []) ++ more) all
types_more types known tag left s below next all is of_type same before more are =
    subst (λ (ts : List (Option RecordType)). AreTypesOf ts all) (sym (append_assoc types (known ∷ []) more))
    (before (known ∷ more) (subst (AreTypesOf (known ∷ more)) (sym is) (subst (IsTypeOf known) same of_type, are)))

pub types_all : (types : List (Option RecordType)) (left all : Trees) → left ≡ none → ((more : List (Option RecordType)) → AreTypesOf more left → AreTypesOf (types ++ more) all) → AreTypesOf types all
types_all types left all ends are = subst (λ (ts : List (Option RecordType)). AreTypesOf ts all) (append-nil types) (are [] (subst (AreTypesOf []) (sym ends) tt))

pub types_long : (types : List (Option RecordType)) (all : Trees) → AreTypesOf types all → length types ≡ length (identifiers all)
types_long [] none are = refl
types_long [] (tree s below next) are = absurd are
types_long (known ∷ more) none are = absurd are
types_long (known ∷ more) (tree s below next) are = ap suc (types_long more next are.1)

-- the type of the next record, and those that are left
pub types_next : (types : List (Option RecordType)) (k : ℕ) (left : Trees) (s : Structure) (below next : Trees) → left ≡ tree s below next → AreTypesOf (drop k types) left
    → IsTypeOf (slice_index_or types k None) s.tag × AreTypesOf (drop (k + 1) types) next
types_next types k left s below next is are = go (drop k types) refl (subst (AreTypesOf (drop k types)) is are)
  where
    go : (ts : List (Option RecordType)) → drop k types ≡ ts → AreTypesOf ts (tree s below next) → IsTypeOf (slice_index_or types k None) s.tag × AreTypesOf (drop (k + 1) types) next
    go [] e h = absurd h
    go (known ∷ more) e h = (
      subst (λ (t : Option RecordType). IsTypeOf t s.tag) (sym (left_first types k known more e None)) h.0,
      subst (λ (ts : List (Option RecordType)). AreTypesOf ts next) (sym (left_next types k known more e)) h.1,
    )

-- what is listed of the next record, by the halves of its number
pub listed_here : (names : List (ℕ × ℕ)) (digits : List ℕ) (k : ℕ) (xref : Option Bytes) (more : List (Option Bytes)) → drop k names ≡ map listed_halves (xref ∷ more) → drop k digits ≡ map listed_digits (xref ∷ more)
    → (number read : ℕ) (at beyond : ℕ × ℕ) → at ≡ slice_index_or names k beyond → number ≡ at.0 + at.1 * 4294967296 → (lacking : ℕ) → read ≡ slice_index_or digits k lacking
    → ◌≡◌ {A = ListedName} (record { number = number; digits = read }) (listed_name xref)
listed_here names digits k xref more left left_digits number read at beyond at_is joins lacking read_is =
    let whole = (listed_name xref).number in
    let pair : at ≡ (whole % 4294967296, whole / 4294967296) = at_is ∙ left_first names k (listed_halves xref) (map listed_halves more) left beyond in
    let low : at.0 ≡ whole % 4294967296 = ap (λ (p : ℕ × ℕ). p.0) pair in
    let high : at.1 ≡ whole / 4294967296 = ap (λ (p : ℕ × ℕ). p.1) pair in
    let same : number ≡ whole = whole_of number whole at.0 at.1 joins low high in
    let same_digits : read ≡ (listed_name xref).digits = read_is ∙ left_first digits k (listed_digits xref) (map listed_digits more) left_digits lacking in
    ap (λ (n : ℕ). record { number = n; digits = read }) same ∙ ap (λ (r : ℕ). record { number = whole; digits = r }) same_digits
  where
    whole_of : (number whole low high : ℕ) → number ≡ low + high * 4294967296 → low ≡ whole % 4294967296 → high ≡ whole / 4294967296 → number ≡ whole
    whole_of number whole low high a b c = omega (arith, a, b, c)

-- the next record of those whose names are listed
module _ (d : Trees) (listed : ListedNames) (k p e a : ℕ) (are : IsListedFrom d listed k p e) (step : IsStep d p e a) where
  pub halves_here : drop k (all_halves listed.list.now) ≡ map listed_halves ((structure_at d p).xref ∷ identifiers (trees_between d a e))
  halves_here = are.halves ∙ ap (λ (t : Trees). map listed_halves (identifiers t)) step.first

  pub digits_here : drop k (all_digits listed.list.now) ≡ map listed_digits ((structure_at d p).xref ∷ identifiers (trees_between d a e))
  digits_here = are.digits ∙ ap (λ (t : Trees). map listed_digits (identifiers t)) step.first

  pub halves_within : k < length (all_halves listed.list.now)
  halves_within = left_within (all_halves listed.list.now) k (listed_halves (structure_at d p).xref) (map listed_halves (identifiers (trees_between d a e))) halves_here

  pub digits_within : k < length (all_digits listed.list.now)
  digits_within = left_within (all_digits listed.list.now) k (listed_digits (structure_at d p).xref) (map listed_digits (identifiers (trees_between d a e))) digits_here

  pub listed_next : IsListedFrom d listed (k + 1) a e
  listed_next = record {
    unnamed = are.unnamed;
    halves = left_next (all_halves listed.list.now) k (listed_halves (structure_at d p).xref) (map listed_halves (identifiers (trees_between d a e))) halves_here;
    digits = left_next (all_digits listed.list.now) k (listed_digits (structure_at d p).xref) (map listed_digits (identifiers (trees_between d a e))) digits_here;
  }
