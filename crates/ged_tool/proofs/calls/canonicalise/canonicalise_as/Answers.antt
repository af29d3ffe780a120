-- What was made are the file's canonical bytes, of which the laws speak.
use Rattle.std.proofs.Common.{◌≡◌, subst}
use Rattle.ged_line.specs.Bytes.{Bytes}
use Rattle.ged_schema.specs.declared.profile.Profile.{Profile}
use Rattle.ged_canon.specs.declared.edition.Edition.{Edition}
use Rattle.ged_canon.specs.declared.edition.Edition.TheVariants.{Second}
use Rattle.ged_tool.specs.Canon.{IsCanon}
use Rattle.ged_tool.specs.Headline.{AgreesWithFirst}
use Rattle.ged_tool.proofs.calls.Answered.{answered}
use Rattle.ged_tool.proofs.calls.CanonLaws.{headline, agrees_with_first}
use Rattle.ged_tool.proofs.calls.canonicalise.canonicalise_as.Goals as goal

-- the same in the edition that is known to be the second
agrees_in : (profile : Profile) (edition : Edition) (file canonical : Bytes) → IsCanon profile edition file canonical → edition ≡ Second → AgreesWithFirst profile file canonical
agrees_in profile edition file canonical h second = agrees_with_first profile file canonical (subst (λ (e : Edition). IsCanon profile e file canonical) second h)

pub returns-clause-headline : goal.returns-clause-headline
returns-clause-headline c = answered _ _ _ c.bytes_in_form.result c.bytes_in_form.ensures (λ text canon. headline _ _ _ _ canon)

pub returns-clause-editions : goal.returns-clause-editions
returns-clause-editions c = λ second. answered _ _ _ c.bytes_in_form.result c.bytes_in_form.ensures (λ text canon. agrees_in _ _ _ _ canon second)
