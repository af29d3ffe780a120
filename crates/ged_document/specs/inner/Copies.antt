-- Nothing here need be believed: only private contracts and proofs cite it.
-- What is copied from a forest; only private functions cite this.
use Rattle.std.specs.Prelude.{◌≡◌, ℕ, ◌<◌, true}
use Rattle.ged_tree.specs.Trees.{Trees}
use Rattle.ged_tree.specs.Documents.{are_at}

-- trees that stand at some level below the records'
pub record StandBelow (trees : Trees) : Type 0 where
  pub level : ℕ
  pub deep : 0 < level
  pub fits : are_at level trees ≡ true
