-- What the calls for a fault's name, and for what it means, answer.
use Rattle.std.specs.Prelude.{◌≡◌, ◌<◌, ◌⊎◌, ℕ, Some, None}
use Rattle.ged_line.specs.Bytes.{Bytes}
use Rattle.ged_explain.specs.Names.{Named, as_named, named_faults, with_number}
use Rattle.ged_explain.specs.declared.faults.Meaning.{Meaning}
use Rattle.ged_c.specs.Calls.{IsPut, call_status, length_of}
use Rattle.ged_c.specs.declared.answering.Ended.{Ended}
use Rattle.ged_c.specs.declared.answering.Ended.TheVariants.{NotFound}
use Rattle.ged_c.specs.declared.explaining.Part.{Part}
use Rattle.ged_c.specs.declared.explaining.Part.TheVariants.{Title, Cause, Example}

-- the number by which C asks for a part of what a fault means
abbrev pub part_number : Part → ℕ
part_number Title = 0
part_number Cause = 1
part_number Example = 2

-- the largest of them
abbrev pub last_part : ℕ
last_part = 2

-- that part of a meaning
abbrev pub part_text : Part → Meaning → Bytes
part_text Title meaning = meaning.title.now
part_text Cause meaning = meaning.cause.now
part_text Example meaning = meaning.example.now

-- what one end of a call for a fault's name means: the name of the fault with this number was put, or no fault has it
abbrev pub NameMeans : ℕ → Bytes → Bytes → Ended → Type 0
NameMeans fault before after NotFound = (with_number fault named_faults ≡ None) × (after ≡ before)
NameMeans fault before after ended = (named : Named) × (with_number fault named_faults ≡ Some named) × IsPut named.name before after ended

-- what one end of a call for a part of a meaning means: that part of a meaning with this number, and with the name of its fault, was put;
-- or no fault has the number, or no part has its
abbrev pub PartMeans : ℕ → ℕ → Bytes → Bytes → Ended → Type 0
PartMeans fault part before after NotFound = ((with_number fault named_faults ≡ None) ⊎ (last_part < part)) × (after ≡ before)
PartMeans fault part before after ended = (meaning : Meaning) × (asked : Part) × (with_number fault named_faults ≡ Some (as_named meaning))
    × (part ≡ part_number asked) × IsPut (part_text asked meaning) before after ended

-- A call for a fault's name: it ended so, and the status and the length are what tells it.
pub record IsNameCall (fault : ℕ) (before after : Bytes) (status text_length : ℕ) : Type 0 where
  pub ended : Ended
  pub means : NameMeans fault before after ended
  pub status_tells : status ≡ call_status ended
  pub length_tells : text_length ≡ length_of ended

-- A call for a part of what a fault means: it ended so, and the status and the length are what tells it.
pub record IsPartCall (fault part : ℕ) (before after : Bytes) (status text_length : ℕ) : Type 0 where
  pub ended : Ended
  pub means : PartMeans fault part before after ended
  pub status_tells : status ≡ call_status ended
  pub length_tells : text_length ≡ length_of ended
