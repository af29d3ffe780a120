-- Laws of the digests of files, each the contract of a public function.
use Rattle.std.specs.Prelude.{◌≡◌, ◌↔◌, true}
use Rattle.ged_line.specs.Bytes.{Bytes}
use Rattle.ged_schema.specs.declared.profile.Profile.{Profile}
use Rattle.ged_canon.specs.declared.edition.Edition.{Edition}
use Rattle.ged_tool.specs.Canon.{IsCanon}
use Rattle.ged_tool.specs.Digest.{IsDigest}
use Rattle.ged_tool.specs.Same.{AreCompared}

-- a file has one digest
abbrev pub OneDigest : Type 0
OneDigest = (profile : Profile) (edition : Edition) (file digest other : Bytes) → IsDigest profile edition file digest
    → IsDigest profile edition file other → digest ≡ other

-- files that are the same have the same digest
abbrev pub SameDigest : Type 0
SameDigest = (profile : Profile) (edition : Edition) (first second digest other : Bytes) → AreCompared profile edition first second true
    → IsDigest profile edition first digest → IsDigest profile edition second other → digest ≡ other

-- the canonical bytes of a file have the file's digest
abbrev pub CanonKeepsDigest : Type 0
CanonKeepsDigest = (profile : Profile) (edition : Edition) (file canonical digest : Bytes) → IsCanon profile edition file canonical
    → IsDigest profile edition file digest ↔ IsDigest profile edition canonical digest
