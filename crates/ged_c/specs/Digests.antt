-- What the call for a file's digest answers.
use Rattle.std.specs.Prelude.{◌≡◌, ℕ, ◌≤◌, ◌<◌, length}
use Rattle.ged_line.specs.Bytes.{Bytes}
use Rattle.ged_schema.specs.declared.profile.Profile.{Profile}
use Rattle.ged_canon.specs.declared.edition.Edition.{Edition}
use Rattle.ged_tool.specs.Digest.{IsDigest}
use Rattle.ged_tool.specs.declared.runs.answer.Command.TheVariants.{Canon}
use Rattle.ged_tool.specs.Limits.{greatest_limit}
use Rattle.ged_c.specs.Settings.{settings_number, last_settings}
use Rattle.ged_c.specs.Calls.{IsPut, TellsOf, call_status, line_of}
use Rattle.ged_c.specs.declared.answering.Ended.{Ended}
use Rattle.ged_c.specs.declared.answering.Ended.TheVariants.{Answered, NoRoom, Refused, BadSettings, NotFound}

-- what one end of the call means, under a profile and in an edition; its faults are those of the canonical form
abbrev pub DigestMeansAs : Profile → Edition → Bytes → Bytes → Bytes → Ended → Type 0
DigestMeansAs profile edition file before after (Answered count) = (length file ≤ greatest_limit)
    × ((digest : Bytes) × IsDigest profile edition file digest × IsPut digest before after (Answered count))
DigestMeansAs profile edition file before after (NoRoom count) = (count ≡ 32) × (length before < 32) × (after ≡ before)
DigestMeansAs profile edition file before after (Refused fault) = (32 ≤ length before) × TellsOf profile Canon file fault × (after ≡ before)
DigestMeansAs profile edition file before after BadSettings = ⊥
DigestMeansAs profile edition file before after NotFound = ⊥

-- what one end of the call means, for the number of its settings
abbrev pub DigestMeans : ℕ → Bytes → Bytes → Bytes → Ended → Type 0
DigestMeans settings file before after BadSettings = (last_settings < settings) × (after ≡ before)
DigestMeans settings file before after ended =
    (profile : Profile) × (edition : Edition) × (settings ≡ settings_number profile edition)
    × DigestMeansAs profile edition file before after ended

-- A call for a digest: it ended so, and the status and the line are what tells it.
pub record IsDigestCall (settings : ℕ) (file before after : Bytes) (status line : ℕ) : Type 0 where
  pub ended : Ended
  pub means : DigestMeans settings file before after ended
  pub status_tells : status ≡ call_status ended
  pub line_tells : line ≡ line_of ended
