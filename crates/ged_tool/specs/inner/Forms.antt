-- Nothing here need be believed: only private contracts and proofs cite it.
-- A document in one of its forms.
use Rattle.ged_line.specs.Bytes.{Bytes}
use Rattle.ged_tree.specs.Trees.{Trees}
use Rattle.ged_canon.specs.CanonText.{CanonText}
use Rattle.ged_canon.specs.Normal.{IsNormalForm}
use Rattle.ged_canon.specs.Tidy.{IsTidyForm}
use Rattle.ged_canon.specs.declared.edition.Edition.{Edition}
use Rattle.ged_tool.specs.declared.comparison.Form.{Form}
use Rattle.ged_tool.specs.declared.comparison.Form.TheVariants.{Canonical, Tidy}

-- the bytes are the document in a form
abbrev pub IsFormOf : Form → Edition → Trees → Bytes → Type 0
IsFormOf Canonical edition document bytes = (normal : Trees) × IsNormalForm edition document normal × CanonText normal bytes
IsFormOf Tidy edition document bytes = (tidy : Trees) × IsTidyForm edition document tidy × CanonText tidy bytes
