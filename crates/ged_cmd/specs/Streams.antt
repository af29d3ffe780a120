-- What was done with the streams of a program.
use Rattle.std.specs.Prelude.{ℕ, List, Bool, Option}

-- what was done with a reader: the bytes to come before and after, where it tells them, and whether it has failed
pub record Reader : Type 0 where
  pub to_come : Option (List ℕ)
  pub left : Option (List ℕ)
  pub failed : Bool

-- what was done with a writer: the bytes taken before and after, where it tells them, and whether it has failed
pub record Writer : Type 0 where
  pub taken : Option (List ℕ)
  pub holds : Option (List ℕ)
  pub failed : Bool

module _ {D : Type 0} where
  -- the reader between two states of a device, by what the device tells
  abbrev pub reader : (D → Option (List ℕ)) → (D → Bool) → D → D → Reader
  reader to_come failed old new = record { to_come = to_come old; left = to_come new; failed = failed new }

  -- the writer between two states of a device
  abbrev pub writer : (D → Option (List ℕ)) → (D → Bool) → D → D → Writer
  writer taken failed old new = record { taken = taken old; holds = taken new; failed = failed new }
