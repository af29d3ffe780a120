-- The form of a file that is accepted, where there is memory for it.
use Rattle.std.proofs.Common.{◌≡◌, Result, Ok, Err, IfOk, IfErr, MatchResult, alloc_error, subst, sym}
use Rattle.ged_line.specs.Bytes.{Bytes}
use Rattle.ged_tree.specs.Trees.{Trees}
use Rattle.ged_schema.specs.declared.profile.Profile.{Profile}
use Rattle.ged_canon.specs.declared.edition.Edition.{Edition}
use Rattle.ged_faults.specs.declared.faults.Fault.{Fault}
use Rattle.ged_faults.specs.declared.faults.Fault.TheVariants.{Memory}
use Rattle.ged_accept.specs.Accepted.{IsAccepted, FileFaultAt, IsRefusal}
use Rattle.ged_tool.specs.declared.comparison.Form.{Form}
use Rattle.ged_tool.specs.declared.comparison.Form.TheVariants.{Canonical, Tidy}
use Rattle.ged_tool.specs.Same.{IsInForm}
use Rattle.ged_tool.specs.inner.Forms.{IsFormOf}

module _ (profile : Profile) (edition : Edition) (file : Bytes) (document : Trees) (accepted : IsAccepted profile file document) where
  -- a form of its document is the file in that form
  form_of_file : (form : Form) (bytes : Bytes) → IsFormOf form edition document bytes → IsInForm form profile edition file bytes
  form_of_file Canonical bytes (normal, normal_form, spelled) = record { document = document; normal = normal; accepted = accepted; normal_form = normal_form; spelled = spelled }
  form_of_file Tidy bytes (tidy, tidy_form, spelled) = record { document = document; tidy = tidy; accepted = accepted; tidy_form = tidy_form; spelled = spelled }

  pub spelled_or_memory : (form : Form) (result : Result Bytes Fault) → IfOk result (IsFormOf form edition document) → IfErr result (λ fault. fault ≡ Memory alloc_error)
      → MatchResult result (IsInForm form profile edition file) (IsRefusal (FileFaultAt profile file))
  spelled_or_memory form (Ok bytes) is memory = form_of_file form bytes is
  spelled_or_memory form (Err fault) is memory = subst (λ (told : Fault). IsRefusal (FileFaultAt profile file) told) (sym memory) tt
