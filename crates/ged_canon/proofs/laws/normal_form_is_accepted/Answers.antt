use Rattle.ged_link.specs.Links.{Resolved}
use Rattle.ged_schema.specs.Checked.{Checked}
use Rattle.ged_schema.specs.Profiles.{NoNotice}
use Rattle.ged_canon.proofs.theory.Chains.{kept}
use Rattle.ged_canon.proofs.theory.Keeps.{step_resolved, step_checked}
use Rattle.ged_canon.proofs.theory.Noticed.{step_no_notice}
use Rattle.ged_canon.proofs.theory.Normality.{ends_in_document}
use Rattle.ged_canon.proofs.laws.normal_form_is_accepted.Goals as goal

pub returns : goal.returns
returns c = record {
  document = λ edition d e h p. ends_in_document d e p h;
  resolved = λ edition d e h. kept Resolved (step_resolved edition) h;
  checked = λ edition d e h. kept Checked (step_checked edition) h;
  no_notice = λ edition d e h. kept NoNotice (step_no_notice edition) h;
}
