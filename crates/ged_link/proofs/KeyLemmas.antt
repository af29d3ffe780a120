-- What the maps of names hold, and under which keys they hash.
use Rattle.std.proofs.Common.{◌≡◌, subst, sym, ap, ◌∙◌, ℕ, zero, suc, Bool, true, false, cond, fold, drop, map, replicate, nat_eq, List, [], ◌∷◌, Option, None, Some, Result, Ok, Err, OnOk, inl, inr, refl, arith, rules}
use Rattle.std.specs.Bool.{if◌then◌else◌, Decides}
use Rattle.std.specs.Str.{bytes_eq}
use Rattle.std.specs.Hash.DefaultHasher.{initial}
use Rattle.std.specs.declared.hash.DefaultHasher.{DefaultHasher}
use Rattle.std.specs.HashMap.{get, hasher_of, hash_map_len}
use Rattle.std.proofs.lemmas.Slice.Eq.{bytes_eq-Decides}
use Rattle.std.proofs.lemmas.Bool.Decides.{nat_tests}
use Rattle.std.proofs.lemmas.List.Sums.{fold-append}
use Rattle.ged_line.specs.Bytes.{Bytes}
use Rattle.ged_tree.specs.Trees.{Trees, none, tree}
use Rattle.ged_tree.specs.Documents.{are_at}
use Rattle.ged_tree.specs.Places.{structure_at}
use Rattle.ged_tree.specs.Runs.{trees_between, IsStep}
use Rattle.ged_link.specs.declared.index.RecordPlace.{RecordPlace}
use Rattle.ged_link.specs.declared.keys.KeyedNumbers.{KeyedNumbers}
use Rattle.ged_link.specs.declared.listing.RecordList.{RecordList}
use Rattle.ged_link.specs.declared.names.Names.{Names}
use Rattle.ged_link.specs.Links.{IsAmong, identifiers}
use Rattle.ged_link.specs.declared.records_by_text.RecordsByText.{RecordsByText}
use Rattle.ged_link.specs.TextRecords.{found_by_text}
use Rattle.ged_link.specs.NameNumbers.{short_number}
use Rattle.ged_link.specs.inner.Indexes.{HoldsShort, HoldsLong, IsKeyed, IsKeyedShort, IsKeyedLong, numbers_key}
use Rattle.ged_link.specs.inner.Keys.{fed_number, texts_key}
use Rattle.ged_link.specs.inner.Listing.{listed_halves, all_halves, unnamed_in}
use Rattle.ged_link.proofs.LinkLemmas.{level_parts, never_empty}
use Rattle.ged_link.proofs.NameLemmas.{none_short}

-- of records without a name nothing is written to the hasher of a key
none_fed : (n : ℕ) (hasher : DefaultHasher) → fold fed_number hasher (replicate n (0, 0)) ≡ hasher
none_fed zero hasher = refl
none_fed (suc n) hasher = none_fed n hasher

pub fed_all : (list : RecordList) (names : List (Option Bytes)) → all_halves list ≡ map listed_halves names → fold fed_number initial list.names.items ≡ fold fed_number initial (map listed_halves names)
fed_all list names e =
    sym (ap (λ (hasher : DefaultHasher). fold fed_number hasher list.names.items) (none_fed (unnamed_in list) initial))
    ∙ sym (fold-append fed_number initial (replicate (unnamed_in list) (0, 0)) list.names.items)
    ∙ ap (fold fed_number initial) e

same_number : (m n : ℕ) → nat_eq m n ≡ true → m ≡ n
same_number m n e = grind (arith, nat_tests)

module _ (names : List (Option Bytes)) (old new : Names) where
  module _ (name : Bytes) (found : RecordPlace) (among : IsAmong (Some name) names) where
    -- one more name, by its number
    pub holds_short : (number : ℕ) → short_number name ≡ Some number → ((n : ℕ) → get nat_eq new.short n ≡ cond (nat_eq number n) (Some found) (get nat_eq old.short n)) → HoldsShort names old → HoldsShort names new
    holds_short number is updates held n other has = go (nat_eq number n) refl (sym (updates n) ∙ has)
      where
        go : (b : Bool) → nat_eq number n ≡ b → cond b (Some found) (get nat_eq old.short n) ≡ Some other → (m : Bytes) × (short_number m ≡ Some n) × IsAmong (Some m) names
        go true e h = (name, is ∙ ap Some (same_number number n e), among)
        go false e h = held n other h

    -- as a text
    holds_long : ((n : Bytes) → found_by_text new.long n ≡ (if bytes_eq name n then Some found else found_by_text old.long n)) → HoldsLong names old → HoldsLong names new
    holds_long updates held n at has = go (bytes_eq name n) (bytes_eq-Decides name n) (sym (updates n) ∙ has)
      where
        go : (same : Bool) → Decides same (name ≡ n) → (if same then Some found else found_by_text old.long n) ≡ Some at → IsAmong (Some n) names
        go true d h = let f : name ≡ n = search rules in subst (λ (m : Bytes). IsAmong (Some m) names) f among
        go false d h = held n at h

    -- by what a table of texts answers
    pub held_long : {E : Type 0} (r : Result Bool E) → (r ≡ Ok true → (n : Bytes) → found_by_text new.long n ≡ (if bytes_eq name n then Some found else found_by_text old.long n))
        → (r ≡ Ok false → new.long ≡ old.long) → HoldsLong names old → OnOk r (HoldsLong names new)
    held_long (Ok true) added same held = holds_long (added refl) held
    held_long (Ok false) added same held = λ n at has. held n at (sym (ap (λ (records : RecordsByText). found_by_text records n) (same refl)) ∙ has)
    held_long (Err error) added same held = tt

  same_short : new.short ≡ old.short → IsKeyedShort names old → IsKeyedShort names new
  same_short short (inl empty) = inl (ap hash_map_len short ∙ empty)
  same_short short (inr is) = inr (
    ap (λ records. (hasher_of {S = KeyedNumbers} records).key) short ∙ is.0,
    λ number found has. is.1 number found (sym (ap (λ records. get nat_eq records number) short) ∙ has),
  )

  pub same_long : new.long ≡ old.long → IsKeyedLong names old → IsKeyedLong names new
  same_long long is = (
    ap (λ (records : RecordsByText). records.key) long ∙ is.0,
    λ name found has. is.1 name found (sym (ap (λ records. found_by_text records name) long) ∙ has),
  )

  -- the same maps, whatever the slots hold
  pub keyed_same : new.short ≡ old.short → new.long ≡ old.long → IsKeyed names old → IsKeyed names new
  keyed_same short long is = (same_short short is.0, same_long long is.1)

  -- one more name, which the growth of a map may refuse
  pub keyed_short : {E : Type 0} (r : Result Bool E) → new.long ≡ old.long → (hasher_of {S = KeyedNumbers} new.short).key ≡ numbers_key names → IsKeyed names old → OnOk r (HoldsShort names new) → OnOk r (IsKeyed names new)
  keyed_short (Ok is_new) long key is held = (inr (key, held), same_long long is.1)
  keyed_short (Err error) long key is held = tt

  pub keyed_long : {E : Type 0} (r : Result Bool E) → new.short ≡ old.short → new.long.key ≡ old.long.key → IsKeyed names old → OnOk r (HoldsLong names new) → OnOk r (IsKeyed names new)
  keyed_long (Ok is_new) short key is held = (same_short short is.0, (key ∙ is.1.0, held))
  keyed_long (Err error) short key is held = tt

-- a map of numbers that is empty has whatever key it is given
pub begun_short : (names : List (Option Bytes)) (records : Names) → hash_map_len records.short ≡ 0 → HoldsShort names records
begun_short names records empty number found has = absurd (let f = none_short records empty number in let g : None ≡ Some found = sym f ∙ has in cc)

pub kept_short : (names : List (Option Bytes)) (records : Names) → (hash_map_len records.short ≡ 0 → ⊥) → IsKeyedShort names records → ((hasher_of {S = KeyedNumbers} records.short).key ≡ numbers_key names) × HoldsShort names records
kept_short names records some (inl empty) = absurd (some empty)
kept_short names records some (inr is) = is

-- maps that are empty
pub keyed_none : (names : List (Option Bytes)) (records : Names) → hash_map_len records.short ≡ 0 → ((name : Bytes) → found_by_text records.long name ≡ None) → records.long.key ≡ texts_key names → IsKeyed names records
keyed_none names records short long key = (
  inl short,
  (key, λ name found has. absurd (let f = long name in let g : None ≡ Some found = sym f ∙ has in cc)),
)

-- the next of the names that are left is among all
pub among_left : (names : List (Option Bytes)) (k : ℕ) (xref : Option Bytes) (more : List (Option Bytes)) → drop k names ≡ xref ∷ more → IsAmong xref names
among_left [] zero xref more e = cc
among_left [] (suc k) xref more e = cc
among_left (x ∷ xs) zero xref more e = inl (cc)
among_left (x ∷ xs) (suc k) xref more e = inr (among_left xs k xref more e)

module _ (d : Trees) (place end : ℕ) where
  -- what is among those past the record there is among all
  pub among_here : (after : ℕ) → IsStep d place end after → IsAmong (structure_at d place).xref (identifiers (trees_between d place end))
  among_here after step = subst (IsAmong (structure_at d place).xref) (sym (ap identifiers step.first)) (inl refl)

-- no record has an empty identifier
pub none_empty : (trees : Trees) → are_at 0 trees ≡ true → IsAmong (Some []) (identifiers trees) → ⊥
none_empty none level among = among
none_empty (tree s b n) level (inl is) = never_empty 0 s (level_parts 0 s b n level).0 (sym is)
none_empty (tree s b n) level (inr among) = none_empty n (level_parts 0 s b n level).2 among
