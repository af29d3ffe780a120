-- Nothing here need be believed: only private contracts and proofs cite it.
-- How names are read: the one answer of the private functions.
use Rattle.std.specs.Prelude.{ℕ, Bool, ◌&&◌, ◌==◌, nat_le, not, Option, Some, None, if◌then◌else◌}
use Rattle.ged_value.specs.Words.{Bytes}
use Rattle.ged_value.specs.inner.Cuts.{cut_at}
use Rattle.ged_value.specs.Names.{NameParts, plain, parts, is_name_part}

-- a byte of a character that may stand in a part of a name
abbrev pub is_name_byte : ℕ → Bool
is_name_byte byte = nat_le 32 byte && not (byte == 47)

-- behind a first `/`: the surname, and what stands behind the second
abbrev pub surname_at : Bytes → Bytes → Option Bytes → Option NameParts
surname_at before surname None = None
surname_at before surname (Some after) =
    if is_name_part before && (is_name_part surname && is_name_part after) then Some (parts before surname after) else None

abbrev pub parts_at : Bytes → Option Bytes → Option NameParts
parts_at before None = if is_name_part before then Some (plain before) else None
parts_at before (Some others) = surname_at before (cut_at 47 others).0 (cut_at 47 others).1

abbrev pub name_at : Bytes → Option NameParts
name_at text = parts_at (cut_at 47 text).0 (cut_at 47 text).1
