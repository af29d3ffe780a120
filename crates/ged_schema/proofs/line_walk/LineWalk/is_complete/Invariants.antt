use Rattle.std.proofs.Common.{ℕ, ◌<◌}
use Rattle.ged_schema.specs.inner.LineWalks.{IsClosed}
use Rattle.ged_schema.proofs.line_walk.LineWalk.is_complete.Given as goal

abbrev pub invariant-loop-level : goal.invariant-loop-level
invariant-loop-level l = (level : ℕ) → level < l.level → IsClosed l.self level
