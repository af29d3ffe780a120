-- A reader tells whether there is a value.
use Rattle.std.proofs.Common.{◌≡◌, Bool, Option, Some, None, is_some, ◌∙◌, sym}
use Rattle.std.specs.Prelude.{IsTrue}
use Rattle.std.proofs.lemmas.Bool.{false≢true}
use Rattle.ged_value.specs.Reading.{Reads}

pub some_reads : {X Y : Type 0} (view : X → Y) (P : Y → Type 0) (r : Option X) (b : Bool) → Reads r view P → b ≡ is_some r → (IsTrue b → (y : Y) × P y) × ((y : Y) × P y → IsTrue b)
some_reads view P None b h e = (λ t. absurd (false≢true (sym e ∙ t)), λ y. absurd (h y.0 y.1))
some_reads view P (Some x) b h e = (λ t. (view x, h), λ y. e)
