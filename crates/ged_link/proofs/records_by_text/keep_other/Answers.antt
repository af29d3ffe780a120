use Rattle.std.proofs.Common.{◌≡◌, Some, List, ℕ, subst}
use Rattle.std.specs.Bool.{if◌then◌else◌}
use Rattle.std.specs.Str.{bytes_eq}
use Rattle.std.specs.String.{string_bytes}
use Rattle.std.specs.HashMap.{get_by_text}
use Rattle.std.proofs.lemmas.Map.Text.{hash_map_updates_text}
use Rattle.ged_link.proofs.records_by_text.keep_other.Goals as goal

pub returns-clause-kept : goal.returns-clause-kept
returns-clause-kept c other =
    let updates = hash_map_updates_text (string_bytes c.in_ok-text.text) c.args.others.now c.insert.new.self (Some c.args.found) c.in_ok-insert.ensures.updates in
    subst (λ (bytes : List ℕ). get_by_text c.insert.new.self other ≡ (if bytes_eq bytes other then Some c.args.found else get_by_text c.args.others.now other))
    c.in_ok-text.ensures.ok
    (updates other)
