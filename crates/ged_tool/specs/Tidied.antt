-- The tidy bytes of a file, and what is promised of them.
--
--   For two accepted files the tidy bytes are equal exactly when one file becomes the other by exchanging neighbouring
--   structures with different tags, and respelling line ends, byte order mark, blanks after empty values and the default
--   calendar's keyword; tidying twice is tidying once, and the tidy file is accepted, with the file's canonical bytes.
--
-- Under the second edition the files may also differ in leading zeros of checked dates, ages and counts. No identifier and no
-- pointer changes. Both files are judged under one profile.
use Rattle.std.specs.Prelude.{◌≡◌, ◌↔◌}
use Rattle.ged_line.specs.Bytes.{Bytes}
use Rattle.ged_tree.specs.Trees.{Trees}
use Rattle.ged_schema.specs.declared.profile.Profile.{Profile}
use Rattle.ged_canon.specs.declared.edition.Edition.{Edition}
use Rattle.ged_canon.specs.CanonText.{CanonText}
use Rattle.ged_canon.specs.Tidy.{EquivalentInPlace, Tidy, IsTidyForm}
use Rattle.ged_accept.specs.Accepted.{IsAccepted}
use Rattle.ged_tool.specs.Canon.{IsCanon}

-- the file is accepted, its document becomes a tidy one by steps at places, and the bytes are the tidy one's canonical spelling
pub record IsTidied (profile : Profile) (edition : Edition) (file tidied : Bytes) : Type 0 where
  pub document : Trees
  pub tidy : Trees
  pub accepted : IsAccepted profile file document
  pub tidy_form : IsTidyForm edition document tidy
  pub spelled : CanonText tidy tidied

-- the bytes are their own tidy bytes, and have no others
pub record IsOwnTidied (profile : Profile) (edition : Edition) (bytes : Bytes) : Type 0 where
  pub own : IsTidied profile edition bytes bytes
  pub no_other : (again : Bytes) → IsTidied profile edition bytes again → again ≡ bytes

-- the bytes are accepted with a tidy document, and are its canonical spelling
pub record IsTidyFile (profile : Profile) (edition : Edition) (bytes : Bytes) : Type 0 where
  pub document : Trees
  pub accepted : IsAccepted profile bytes document
  pub tidy : Tidy edition document
  pub spelled : CanonText document bytes

-- what is promised of the tidy bytes of a file
pub record TidyHeadline (profile : Profile) (edition : Edition) (file tidied : Bytes) : Type 0 where
  -- for another accepted file the tidy bytes are equal exactly when one document becomes the other by steps at places
  pub equal_exactly_when : (other other_tidied : Bytes) (d e : Trees) → IsAccepted profile file d → IsAccepted profile other e
      → IsTidied profile edition other other_tidied → (tidied ≡ other_tidied) ↔ EquivalentInPlace edition d e
  pub twice_is_once : IsOwnTidied profile edition tidied
  pub accepted : IsTidyFile profile edition tidied
  -- they have the canonical bytes of the file
  pub same_canon : (canonical : Bytes) → IsCanon profile edition file canonical ↔ IsCanon profile edition tidied canonical

-- all tidy bytes of a file, also those that a run writes, are what is promised of them
abbrev pub TidyIsPromised : Type 0
TidyIsPromised = (profile : Profile) (edition : Edition) (file tidied : Bytes) → IsTidied profile edition file tidied
    → TidyHeadline profile edition file tidied
