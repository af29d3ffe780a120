use Rattle.ged_tool.specs.Settings.{profile_of, edition_of}
use Rattle.ged_tool.specs.inner.FileTexts.{file_bytes}
use Rattle.ged_tool.proofs.calls.Spelled.{spelled_or_memory}
use Rattle.ged_tool.proofs.calls.spell.spell_form.Goals as goal

pub returns-in-Ok : goal.returns-in-Ok
returns-in-Ok c =
    spelled_or_memory (profile_of c.args.settings) (edition_of c.args.settings) (file_bytes c.args.file) c.in-Ok.accepted c.in-Ok.ensures.accepted c.args.form c.spell_accepted.result
    c.spell_accepted.ensures.form c.spell_accepted.ensures.memory
