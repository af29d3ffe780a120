-- Laws of the normal form, each the contract of a public function.
use Rattle.std.specs.Prelude.{◌≡◌, ◌↔◌, true}
use Rattle.ged_tree.specs.Trees.{Trees}
use Rattle.ged_tree.specs.Documents.{is_document}
use Rattle.ged_link.specs.Links.{Resolved}
use Rattle.ged_schema.specs.Checked.{Checked}
use Rattle.ged_canon.specs.declared.edition.Edition.{Edition}
use Rattle.ged_canon.specs.declared.edition.Edition.TheVariants.{First, Second}
use Rattle.ged_canon.specs.Steps.{Step, Equivalent}
use Rattle.ged_canon.specs.Normal.{Normal, IsNormalForm}

-- two normal documents of which one becomes the other by steps are equal
abbrev pub NormalFormIsUnique : Type 0
NormalFormIsUnique = (edition : Edition) (d e : Trees) → Equivalent edition d e → Normal edition d → Normal edition e → d ≡ e

-- each document that is resolved and checked has a normal form
abbrev pub NormalFormExists : Type 0
NormalFormExists = (edition : Edition) (d : Trees) → is_document d ≡ true → Resolved d → Checked d → (e : Trees) × IsNormalForm edition d e

-- the normal forms of two documents are equal exactly when one document becomes the other by steps
abbrev pub EqualNormalForms : Type 0
EqualNormalForms = (edition : Edition) (d e m n : Trees) → IsNormalForm edition d m → IsNormalForm edition e n → (m ≡ n) ↔ Equivalent edition d e

-- what holds of a document holds of each that it becomes by steps
abbrev pub IsKeptBySteps : (Trees → Type 0) → Type 0
IsKeptBySteps P = (edition : Edition) (d e : Trees) → Equivalent edition d e → P d → P e

-- what a document becomes by steps becomes that document by steps
abbrev pub EquivalentIsSymmetric : Type 0
EquivalentIsSymmetric = (edition : Edition) (d e : Trees) → Equivalent edition d e → Equivalent edition e d

-- what a document becomes by steps, and that becomes by further steps, the document becomes by steps
abbrev pub EquivalentIsTransitive : Type 0
EquivalentIsTransitive = (edition : Edition) (d e f : Trees) → Equivalent edition d e → Equivalent edition e f → Equivalent edition d f

-- each step is undone by a step
abbrev pub StepIsUndone : Type 0
StepIsUndone = (edition : Edition) (d e : Trees) → Step edition d e → Step edition e d

-- what holds of a document holds of it after a step
abbrev pub StepKeeps : (Trees → Type 0) → Type 0
StepKeeps P = (edition : Edition) (d e : Trees) → Step edition d e → P d → P e

-- documents that have the same normal form of the first edition have the same normal form of the second
abbrev pub EditionsAgree : Type 0
EditionsAgree = (d e m n p : Trees) → IsNormalForm First d m → IsNormalForm First e m → IsNormalForm Second d n → IsNormalForm Second e p → n ≡ p

-- what is normal in the second edition is normal in the first
abbrev pub SecondIsNormalInFirst : Type 0
SecondIsNormalInFirst = (d : Trees) → Normal Second d → Normal First d
