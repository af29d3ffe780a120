use Rattle.std.proofs.Common.{◌≡◌, rules, [], flat_map, ap, sym, ◌∙◌, chars}
use Rattle.std.proofs.Output.{has_written_append, has_written_of_eq}
use Rattle.std.proofs.lemmas.List.{flat_map_more, map-id}
use Rattle.std.proofs.lemmas.Str.{IsUtf8-had}
use Rattle.std.proofs.lemmas.Iterator.{YieldsList-from_chars}
use Rattle.std.proofs.lemmas.Iterator.Consumers.{YieldsList-end}
use Rattle.ged_cmd.specs.inner.Names.{shown_character}
use Rattle.ged_cmd.proofs.names.ShownNameDisplay.fmt.Goals as goal

pub loop-character-preserved : goal.loop-character-preserved
loop-character-preserved g c = λ plain.
    has_written_of_eq _ _ _ _ _ (flat_map_more shown_character [] c.loop-character.yielded c.in-Some.character) (has_written_append _ _ _ _ _ _ (c.loop-character.invariant plain) (search rules))

pub returns-clause-writes : goal.returns-clause-writes
returns-clause-writes g c = λ plain ok.
    let name = c.args.self.now.name.now in
    let e = YieldsList-end (YieldsList-from_chars name (IsUtf8-had name c.args.self.now.text) cc) c.loop-character.yielded _ c.loop-character.yielded_by _ _ c.in-None.is c.next.ensures.steps in
    let all : c.loop-character.yielded ≡ chars name = sym (map-id c.loop-character.yielded) ∙ e.0 in
    has_written_of_eq _ _ _ _ _ (ap (flat_map shown_character) all) (c.loop-character.invariant plain)
