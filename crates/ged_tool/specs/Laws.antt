-- Laws of the canonical bytes of files, each the contract of a public function.
use Rattle.ged_line.specs.Bytes.{Bytes}
use Rattle.ged_schema.specs.declared.profile.Profile.{Profile}
use Rattle.ged_canon.specs.declared.edition.Edition.{Edition}
use Rattle.ged_canon.specs.declared.edition.Edition.TheVariants.{Second}
use Rattle.ged_tool.specs.Canon.{IsCanon}
use Rattle.ged_tool.specs.Headline.{Headline, AgreesWithFirst}

-- all canonical bytes of a file, also those that a run writes, are what is promised of them
abbrev pub CanonIsPromised : Type 0
CanonIsPromised = (profile : Profile) (edition : Edition) (file canonical : Bytes) → IsCanon profile edition file canonical
    → Headline profile edition file canonical

-- and those of the second edition agree with the first
abbrev pub SecondAgrees : Type 0
SecondAgrees = (profile : Profile) (file canonical : Bytes) → IsCanon profile Second file canonical → AgreesWithFirst profile file canonical
