-- Readers of a text: what is read is spelled so, and what is spelled so is read.
use Rattle.std.proofs.Common.{◌≡◌, Option, Some, None, sym, ◌∙◌}
use Rattle.std.specs.Option.{option_map}
use Rattle.ged_value.specs.Words.{Bytes}
use Rattle.ged_value.specs.Reading.{Reads}

none_some : {Y : Type 0} (y : Y) → ◌≡◌ {A = Option Y} None (Some y) → ⊥
none_some y h = cc

module _ {X Y : Type 0} (view : X → Y) (spelled : Y → Bytes → Type 0) (read : Bytes → Option Y)
    (again : (y : Y) (text : Bytes) → spelled y text → read text ≡ Some y)
    (found : (y : Y) (text : Bytes) → read text ≡ Some y → spelled y text) where
  pub reads : (text : Bytes) (r : Option X) → option_map view r ≡ read text → Reads r view (λ y. spelled y text)
  reads text None e = λ y s. none_some y (e ∙ again y text s)
  reads text (Some x) e = found (view x) text (sym e)

pub one_value : {Y : Type 0} (x y : Y) → Some x ≡ Some y → x ≡ y
one_value x y h = cc

-- a text has at most one reading
pub same_reading : {Y : Type 0} (spelled : Y → Bytes → Type 0) (read : Bytes → Option Y) → ((y : Y) (text : Bytes) → spelled y text → read text ≡ Some y)
    → (text : Bytes) (x y : Y) → spelled x text → spelled y text → x ≡ y
same_reading spelled read again text x y s t = one_value x y (sym (again x text s) ∙ again y text t)
