-- Nothing here need be believed: only private contracts and proofs cite it.
-- How many bytes were made before the runs of a form.
use Rattle.std.specs.Prelude.{◌≡◌, ℕ, ◌+◌, ◌≤◌, ◌∷◌, [], List, length}
use Rattle.ged_line.specs.Bytes.{Bytes}
use Rattle.ged_canon.specs.declared.spelled.KeptRun.{KeptRun}

-- how many bytes were made before the last run
abbrev pub made_before : List KeptRun → ℕ
made_before [] = 0
made_before (run ∷ runs) = run.made + made_before runs

-- so many of the bytes that were made stand before the last run
abbrev pub ArePlaced : List KeptRun → Bytes → ℕ → Type 0
ArePlaced runs made placed = (made_before runs ≡ placed) × (placed ≤ length made)
