use Rattle.ged_devices.proofs.Modes.{for_another_group}
use Rattle.ged_devices.proofs.drafts.Kept.mode_for.Goals as goal

pub returns-clause-another : goal.returns-clause-another
returns-clause-another c differ = for_another_group c.args.self.mode
