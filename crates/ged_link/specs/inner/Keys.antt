-- Nothing here need be believed: only private contracts and proofs cite it.
-- The keys that the maps' hashers begin with: a hash of all that a map is to hold, and more.
use Rattle.std.specs.Prelude.{ℕ, ◌+◌, ◌*◌, ◌/◌, List, Option, Some, None, cond, drop, fold, length, nat_eq, take, unwrap_or}
use Rattle.std.specs.Hash as fed
use Rattle.std.specs.Hash.DefaultHasher.{initial, write, finish}
use Rattle.std.specs.declared.hash.DefaultHasher.{DefaultHasher}
use Rattle.ged_line.specs.Bytes.{Bytes}
use Rattle.ged_link.specs.NameNumbers.{number_within, short_number}

-- how many bytes are whole words of eight
abbrev pub in_words : Bytes → ℕ
in_words name = length name / 8 * 8

-- a long name is written as its whole words, and then as the number that the bytes behind these spell, with a one above them: the highest
-- byte of that is none that a name has, so no list of names is written as another is
abbrev pub fed_text : DefaultHasher → Bytes → Option ℕ → DefaultHasher
fed_text hasher name (Some number) = hasher
fed_text hasher name None =
    fold write (write hasher (take (in_words name) name)) (fed.u64 (unwrap_or (number_within 8 (drop (in_words name) name)) 0))

abbrev pub fed_long : DefaultHasher → Option Bytes → DefaultHasher
fed_long hasher None = hasher
fed_long hasher (Some name) = fed_text hasher name (short_number name)

-- the key of long names
abbrev pub texts_key : List (Option Bytes) → ℕ
texts_key names = finish (fold fed_long initial names)

-- of the others their numbers are written, by the halves that are listed
abbrev pub fed_number : DefaultHasher → ℕ × ℕ → DefaultHasher
fed_number hasher halves = cond (nat_eq (halves.0 + halves.1 * 4294967296) 0) hasher (fold write hasher (fed.u64 (halves.0 + halves.1 * 4294967296)))
