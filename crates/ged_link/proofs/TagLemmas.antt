-- Records of which a type is known.
use Rattle.std.proofs.Common.{◌≡◌, Bool, true, false, Option, Some, refl, rules}
use Rattle.std.specs.Bool.{Decides}
use Rattle.std.specs.Str.{bytes_eq}
use Rattle.std.proofs.lemmas.Slice.Eq.{bytes_eq-Decides}
use Rattle.ged_line.specs.Bytes.{Bytes}
use Rattle.ged_link.specs.RecordTypes.{record_tag, IsTypeOf}
use Rattle.ged_link.specs.declared.record_type.RecordType.{RecordType}

-- a record is of a type exactly where its tag is that of the type's records
pub typed_so : (known : Option RecordType) (at : Bytes) (wanted : RecordType) → IsTypeOf known at → known ≡ Some wanted → bytes_eq at (record_tag wanted) ≡ true
typed_so known at wanted typed is = go (bytes_eq at (record_tag wanted)) (bytes_eq-Decides at (record_tag wanted)) ((typed wanted).0 is)
  where
    go : (same : Bool) → Decides same (at ≡ record_tag wanted) → at ≡ record_tag wanted → same ≡ true
    go true d e = refl
    go false d e = absurd (search rules)

pub typed_not : (known : Option RecordType) (at : Bytes) (wanted : RecordType) → IsTypeOf known at → (known ≡ Some wanted → ⊥) → bytes_eq at (record_tag wanted) ≡ false
typed_not known at wanted typed not = go (bytes_eq at (record_tag wanted)) (bytes_eq-Decides at (record_tag wanted)) (λ e. not ((typed wanted).1 e))
  where
    go : (same : Bool) → Decides same (at ≡ record_tag wanted) → (at ≡ record_tag wanted → ⊥) → same ≡ false
    go true d other = let e : at ≡ record_tag wanted = search rules in absurd (other e)
    go false d other = refl
