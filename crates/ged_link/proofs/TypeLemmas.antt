-- The record that a name leads to, and its type.
use Rattle.std.proofs.Common.{◌≡◌, ◌↔◌, ℕ, Bool, IsTrue, List, Option, Some, None, IfSome, option_map, sym, ap, subst, ◌∙◌, refl, slice_index_or}
use Rattle.std.specs.Str.{bytes_eq}
use Rattle.std.proofs.lemmas.Bool.Decides.{same_from_decides}
use Rattle.std.proofs.lemmas.Slice.Eq.{bytes_eq-Decides}
use Rattle.ged_line.specs.Bytes.{Bytes}
use Rattle.ged_tree.specs.Trees.{Trees}
use Rattle.ged_tree.specs.Places.{structure_at}
use Rattle.ged_link.specs.declared.index.RecordPlace.{RecordPlace}
use Rattle.ged_link.specs.declared.names.Names.{Names}
use Rattle.ged_link.specs.declared.record_type.RecordType.{RecordType}
use Rattle.ged_link.specs.Links.{IsRecordNumber}
use Rattle.ged_link.specs.RecordTypes.{record_tag, HasRecordOf, IsTypeOf}
use Rattle.ged_link.specs.Indexes.{found_in, place_in, AreRecords, AreTyped}

-- the type of a record that is found is listed by its number
pub found_typed : (d : Trees) (records : Names) (types : List (Option RecordType)) (name : Bytes) (o : Option RecordPlace) → AreTyped d records types
    → o ≡ found_in records name → IfSome o (λ r. IsTypeOf (slice_index_or types r.number None) (structure_at d r.place).tag)
found_typed d records types name None typed is = tt
found_typed d records types name (Some found) typed is = typed name found (sym is)

-- a type that is known tells whether the tag is that of a type
pub tag_tested : (known : Option RecordType) (tag : Bytes) (wanted : RecordType) (b : Bool) → IsTypeOf known tag → (IsTrue b ↔ (known ≡ Some wanted)) → b ≡ bytes_eq tag (record_tag wanted)
tag_tested known tag wanted b typed is =
    same_from_decides b (bytes_eq tag (record_tag wanted)) (λ e. (typed wanted).0 (is.0 e), λ e. is.1 ((typed wanted).1 e)) (bytes_eq-Decides tag (record_tag wanted))

pub one_place : (x y : ℕ) → Some x ≡ Some y → x ≡ y
one_place x y e = cc

none_some : (x : ℕ) → ◌≡◌ {A = Option ℕ} None (Some x) → ⊥
none_some x e = cc

module _ (d : Trees) (records : Names) (name : Bytes) where
  placed_at : (o : Option RecordPlace) → found_in records name ≡ o → place_in records name ≡ option_map (λ (r : RecordPlace). r.place) o
  placed_at o is = ap (option_map (λ (r : RecordPlace). r.place)) is

  is_of : (found : RecordPlace) (types : List (Option RecordType)) (wanted : RecordType) → AreRecords d records → AreTyped d records types → found_in records name ≡ Some found
      → (slice_index_or types found.number None ≡ Some wanted) ↔ HasRecordOf d wanted name
  is_of found types wanted are are_typed is =
      let here = placed_at (Some found) is in
      let typed = are_typed name found is wanted in (
        λ told. (found.place, (are.placed name found.place).0 here, typed.0 told),
        λ has. typed.1 (subst (λ (place : ℕ). (structure_at d place).tag ≡ record_tag wanted)
            (one_place has.0 found.place (sym ((are.placed name has.0).1 has.1) ∙ here)) has.2),
      )

  -- the record with this number, which has the name
  pub typed_at : (number : ℕ) (types : List (Option RecordType)) (wanted : RecordType) → AreRecords d records → AreTyped d records types → IsRecordNumber d number name
      → (slice_index_or types number None ≡ Some wanted) ↔ HasRecordOf d wanted name
  typed_at number types wanted are are_typed named = go (found_in records name) refl ((are.numbered name number).1 named)
    where
      go : (o : Option RecordPlace) → found_in records name ≡ o → option_map (λ (r : RecordPlace). r.number) o ≡ Some number → (slice_index_or types number None ≡ Some wanted) ↔ HasRecordOf d wanted name
      go None is e = absurd (none_some number e)
      go (Some found) is e = subst (λ (n : ℕ). (slice_index_or types n None ≡ Some wanted) ↔ HasRecordOf d wanted name) (one_place found.number number e) (is_of found types wanted are are_typed is)

  -- no record has the name
  pub no_number : (wanted : RecordType) → AreRecords d records → ((number : ℕ) → IsRecordNumber d number name → ⊥) → HasRecordOf d wanted name → ⊥
  no_number wanted are missing has = go (found_in records name) refl
    where
      go : (o : Option RecordPlace) → found_in records name ≡ o → ⊥
      go None is = none_some has.0 (sym (placed_at None is) ∙ (are.placed name has.0).1 has.1)
      go (Some found) is = missing found.number ((are.numbered name found.number).0 (ap (option_map (λ (r : RecordPlace). r.number)) is))
