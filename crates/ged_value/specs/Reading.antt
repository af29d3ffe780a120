-- What a reader answers.
use Rattle.std.specs.Prelude.{Option, Some, None}

-- The answer shows parts that are spelled, and is None where no parts are. `shown` gives the parts that an answer
-- shows.
abbrev pub Reads : {Answer Parts : Type 0} → Option Answer → (Answer → Parts) → (Parts → Type 0) → Type 0
Reads None shown AreSpelled = (parts : _) → ¬ (AreSpelled parts)
Reads (Some answer) shown AreSpelled = AreSpelled (shown answer)
