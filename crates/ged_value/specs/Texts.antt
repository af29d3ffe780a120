-- The bytes of texts that code points to.
use Rattle.std.specs.Prelude.{List, ℕ}
use Rattle.std.specs.Borrow.{Bor}
use Rattle.ged_value.specs.Words.{Bytes}

-- the bytes of a text
abbrev pub bytes_of : Bor (List ℕ) → Bytes
bytes_of text = text.now
