-- The canonical bytes of a file that is accepted (FamilySearch GEDCOM 7.0, "Lines" and "Structures").
use Rattle.ged_line.specs.Bytes.{Bytes}
use Rattle.ged_tree.specs.Trees.{Trees}
use Rattle.ged_schema.specs.declared.profile.Profile.{Profile}
use Rattle.ged_canon.specs.declared.edition.Edition.{Edition}
use Rattle.ged_canon.specs.CanonText.{CanonText}
use Rattle.ged_canon.specs.Normal.{IsNormalForm}
use Rattle.ged_accept.specs.Accepted.{IsAccepted}

-- the file is accepted, its document becomes a normal one by steps, and the bytes are the normal one's canonical spelling
pub record IsCanon (profile : Profile) (edition : Edition) (file canonical : Bytes) : Type 0 where
  pub document : Trees
  pub normal : Trees
  pub accepted : IsAccepted profile file document
  pub normal_form : IsNormalForm edition document normal
  pub spelled : CanonText normal canonical
