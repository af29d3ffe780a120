-- Nothing here need be believed: only private contracts and proofs cite it.
use Rattle.std.specs.Prelude.{◌≡◌, ℕ}
use Rattle.ged_cmd.specs.Program.{IsUnread, IsUnwritten}
use Rattle.ged_cmd.specs.Streams.{Reader, Writer}

-- the words ask for nothing, which is a mistake
abbrev pub IsMistaken : (input : Reader) → Writer → (status : ℕ) → Type 0
IsMistaken input writer status = IsUnread input × IsUnwritten writer × (status ≡ 2)
