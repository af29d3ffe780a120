use Rattle.std.proofs.Common.{refl, ◌≡◌, ◌∙◌, Some, length, slice_get, sym}
use Rattle.std.proofs.lemmas.Option.{IfSome_then, slice_get_read}
use Rattle.ged_tree.proofs.table.bare_lines.BareLines.sole_at.Goals as goal

pub returns-clause-value : goal.returns-clause-value
returns-clause-value c d are =
    let kept = c.in_ok-kept.kept.now in
    let sole = c.if-not-is_sole.ensures in
    let stands : slice_get c.args.self.now.structures.now c.args.place ≡ Some kept = slice_get_read c.args.self.now.structures.now (length c.args.self.now.structures.now) c.args.place kept refl c.in_ok-kept.ensures.lookup.3.0 c.in_ok-kept.ensures.lookup.1 in
    IfSome_then c.range_of.result c.range_of.ensures.feed (λ run feed.
    let told = are c.args.place kept stands (record { kept = sole.kept refl; feed = feed }) in
    sym told.points ∙ sole.value refl)

pub returns-clause-alone : goal.returns-clause-alone
returns-clause-alone c d are =
    let kept = c.in_ok-kept.kept.now in
    let sole = c.if-not-is_sole.ensures in
    let stands : slice_get c.args.self.now.structures.now c.args.place ≡ Some kept = slice_get_read c.args.self.now.structures.now (length c.args.self.now.structures.now) c.args.place kept refl c.in_ok-kept.ensures.lookup.3.0 c.in_ok-kept.ensures.lookup.1 in
    IfSome_then c.range_of.result c.range_of.ensures.feed (λ run feed.
    let told = are c.args.place kept stands (record { kept = sole.kept refl; feed = feed }) in
    told.alone (sole.alone refl))
