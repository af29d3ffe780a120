-- What the hashers of the map of texts begin with.
use Rattle.std.specs.Prelude.{ℕ, fold}
use Rattle.std.specs.Hash as fed
use Rattle.std.specs.Hash.DefaultHasher.{initial, write}
use Rattle.std.specs.declared.hash.DefaultHasher.{DefaultHasher}

-- a hasher to which a key is written
abbrev pub started : ℕ → DefaultHasher
started key = fold write initial (fed.u64 key)
