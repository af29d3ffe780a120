use Rattle.std.proofs.Common.{rules, option_map, string_bytes}
use Rattle.ged_explain.specs.Showing.{ShowsPiece}
use Rattle.ged_explain.proofs.explaining.explain_site.Goals as goal

pub returns : goal.returns
returns c =
    let piece = option_map (λ piece. piece.now) c.args.site.now.piece in
    let shows : ShowsPiece c.args.site.now.bytes.now c.args.site.now.line (string_bytes c.in_ok-shown.shown) = (piece, c.requires, c.in_ok-shown.ensures) in
    search (rules, shows)
