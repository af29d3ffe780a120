-- The steps from a tree to those below it and beside it, by which walks over nodes find a place.
use Rattle.std.proofs.Common.{◌≡◌, ℕ, ◌<◌, ◌^◌, Option, Some, None, sym, arith}
use Rattle.std.specs.Prelude.{nat_lt, is_some, SomeIff}
use Rattle.std.proofs.lemmas.Bool.{lt-ltb}
use Rattle.std.proofs.lemmas.Bool.Decides.{nat_tests}
use Rattle.ged_tree.proofs.CallerLemmas.{from_first, from_below, from_next, level_first, level_below, level_next, line_first, line_below, line_next}
use Rattle.ged_tree.proofs.CallerLemmas.{after_fits as fits_after}

pub ruleset founds = (from_first, from_below, from_next, level_first, level_below, level_next)

pub ruleset line_steps = (line_first, line_below, line_next)

pub ruleset after_fits = (fits_after)

-- lines are told where they are few
pub told_few : (o : Option ℕ) (n : ℕ) → SomeIff o (n < 2 ^ 63) n → is_some o ≡ nat_lt n (2 ^ 63)
told_few None n h = grind (arith, nat_tests)
told_few (Some m) n h = sym (lt-ltb n (2 ^ 63) h.0)
