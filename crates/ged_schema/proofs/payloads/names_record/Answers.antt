use Rattle.std.proofs.Common.{sym}
use Rattle.ged_link.proofs.CallerLemmas.{one_record_has_name, tag_tree}
use Rattle.ged_link.specs.RecordTypes.{record_tag}
use Rattle.ged_schema.proofs.payloads.names_record.Goals as goal

pub returns : goal.returns
returns c = λ d index document pointer.
    let name = c.args.name.now in
    let tag = record_tag c.args.wanted in
    let leads = c.leads_at.ensures d index (sym pointer) in (
      (λ told. let (place, has, same) = leads.0 told in (one_record_has_name d document index.resolved place name tag has).0 same),
      (λ some. leads.1 (tag_tree d name tag some)),
    )
