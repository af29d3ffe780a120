use Rattle.std.proofs.Common.{◌≡◌, ◌∙◌, ap, sym, Some}
use Rattle.std.specs.Prelude.{option_map}
use Rattle.ged_link.specs.RecordTypes.{record_tag}
use Rattle.ged_value.specs.Kinds.{target}
use Rattle.ged_schema.proofs.Pointing.{pointer_right}
use Rattle.ged_schema.proofs.quick_check.is_pointer_right.Goals as goal

pub returns-in-Some : goal.returns-in-Some
returns-in-Some c = λ d index document pointer.
    let leads : target c.args.kind ≡ Some (record_tag c.in-Some.wanted) = sym c.target_type.ensures ∙ ap (option_map record_tag) c.in-Some.is in
    pointer_right d c.args.kind c.args.name.now (record_tag c.in-Some.wanted) c.names_record.result leads (c.names_record.ensures d index document pointer)
