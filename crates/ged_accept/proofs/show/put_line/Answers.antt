use Rattle.std.proofs.Common.{◌≡◌, ◌++◌, subst, option_map}
use Rattle.std.specs.Bool.{OnTrue}
use Rattle.std.specs.Option.{option_copied}
use Rattle.ged_schema.specs.Rows.{as_row}
use Rattle.ged_accept.specs.Shown.{row_word}
use Rattle.ged_accept.proofs.Showing.{line_joined}
use Rattle.ged_accept.proofs.show.put_line.Goals as goal

pub returns-clause-put : goal.returns-clause-put
returns-clause-put g c =
    let word = row_word (option_map as_row (option_copied c.args.rule)) in
    let line = line_joined c.args.level c.from.result c.args.front.now c.args.tag.now c.row_ending-ending.result.now word c.requires c.from.ensures c.row_ending-ending.ensures.text in
    subst (λ text. OnTrue c.put_padded.result (c.put_padded.new.buffer.items ≡ c.args.buffer.now.items ++ text)) line c.put_padded.ensures.put
