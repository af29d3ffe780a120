-- What is promised of canonical bytes.
--
--   For two accepted files the canonical bytes are equal exactly when one file becomes the other by exchanging neighbouring
--   structures with different tags, renaming cross-references one to one, giving or dropping unused ones, and respelling
--   line ends, byte order mark, blanks after empty values and the default calendar's keyword; canonicalising twice is
--   canonicalising once, and the canonical file is accepted.
--
-- Under the second edition the files may also differ in leading zeros of checked dates, ages and counts. One file becomes
-- the other by these where its document does by steps: files that differ in line ends, mark and blanks alone have one
-- document, and each of the other changes is a step. Both files are judged under one profile.
use Rattle.std.specs.Prelude.{◌≡◌, ◌↔◌}
use Rattle.ged_line.specs.Bytes.{Bytes}
use Rattle.ged_tree.specs.Trees.{Trees}
use Rattle.ged_schema.specs.declared.profile.Profile.{Profile}
use Rattle.ged_canon.specs.declared.edition.Edition.{Edition}
use Rattle.ged_canon.specs.declared.edition.Edition.TheVariants.{First, Second}
use Rattle.ged_canon.specs.CanonText.{CanonText}
use Rattle.ged_canon.specs.Steps.{Equivalent}
use Rattle.ged_canon.specs.Normal.{Normal}
use Rattle.ged_accept.specs.Accepted.{IsAccepted}
use Rattle.ged_tool.specs.Canon.{IsCanon}

-- the bytes are their own canonical bytes, and have no others
pub record IsOwnCanon (profile : Profile) (edition : Edition) (bytes : Bytes) : Type 0 where
  pub own : IsCanon profile edition bytes bytes
  pub no_other : (again : Bytes) → IsCanon profile edition bytes again → again ≡ bytes

-- the bytes are accepted with a normal document, and are its canonical spelling
pub record IsNormalFile (profile : Profile) (edition : Edition) (bytes : Bytes) : Type 0 where
  pub document : Trees
  pub accepted : IsAccepted profile bytes document
  pub normal : Normal edition document
  pub spelled : CanonText document bytes

-- what is promised of the canonical bytes of a file
pub record Headline (profile : Profile) (edition : Edition) (file canonical : Bytes) : Type 0 where
  -- for another accepted file the canonical bytes are equal exactly when one document becomes the other by steps
  pub equal_exactly_when : (other other_canonical : Bytes) (d e : Trees) → IsAccepted profile file d → IsAccepted profile other e
      → IsCanon profile edition other other_canonical → (canonical ≡ other_canonical) ↔ Equivalent edition d e
  pub twice_is_once : IsOwnCanon profile edition canonical
  pub accepted : IsNormalFile profile edition canonical

-- What is also promised of the canonical bytes of a file in the second edition.
pub record AgreesWithFirst (profile : Profile) (file canonical : Bytes) : Type 0 where
  -- files with equal bytes in the first edition have equal bytes in the second
  pub equal_where_first : (other first other_canonical : Bytes) → IsCanon profile First file first → IsCanon profile First other first
      → IsCanon profile Second other other_canonical → canonical ≡ other_canonical
  -- the first edition leaves these bytes as they are
  pub own_first : IsOwnCanon profile First canonical
