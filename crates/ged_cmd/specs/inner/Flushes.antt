-- Nothing here need be believed: only private contracts and proofs cite it.
use Rattle.std.specs.Prelude.{◌≡◌, ◌⊎◌, Bool, true, None}
use Rattle.std.specs.Io.KnownBytes.{Keeps}
use Rattle.ged_faults.specs.declared.faults.Fault.TheVariants.{WriteFailed}
use Rattle.ged_faults.specs.declared.faults.Outcome.{Outcome}
use Rattle.ged_faults.specs.declared.faults.Outcome.TheVariants.{Done, Different, Failed}
use Rattle.ged_cmd.specs.Streams.{Writer}

-- the bytes that the writer holds, if it tells them, stay, and so does whether it has failed
abbrev pub IsKept : Writer → (failed_before : Bool) → Type 0
IsKept writer failed_before = Keeps writer.taken writer.holds × (writer.failed ≡ failed_before)

abbrev pub IsFlushedTo : Writer → (failed_before : Bool) → (before after : Outcome) → Type 0
IsFlushedTo writer failed_before before after =
    ((after ≡ before) × IsKept writer failed_before)
    ⊎ ((after ≡ Failed None WriteFailed) × IsKept writer true)

-- The outcome once the answer is flushed, or put in a file's place. Where there is an answer and that fails the writer has
-- failed, and the outcome is WriteFailed; else both stay. What the writer holds stays.
abbrev pub IsFlushed : Writer → (failed_before : Bool) → (before after : Outcome) → Type 0
IsFlushed writer failed_before (Failed which fault) after =
    (after ≡ Failed which fault) × (writer.holds ≡ writer.taken) × (writer.failed ≡ failed_before)
IsFlushed writer failed_before Done after = IsFlushedTo writer failed_before Done after
IsFlushed writer failed_before Different after = IsFlushedTo writer failed_before Different after
