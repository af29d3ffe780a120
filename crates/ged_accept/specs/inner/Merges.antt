-- Nothing here need be believed: only private contracts and proofs cite it.
-- Two lists of notices merged by their lines. Private functions alone cite this.
use Rattle.std.specs.Prelude.{◌<◌, ◌≤◌, List, [], ◌∷◌}
use Rattle.ged_link.specs.declared.notices.Notice.{Notice}

-- the last list has the notices of both others; of their first ones the one on the lower line comes first
pub data IsMerge : List Notice → List Notice → List Notice → Type 0 where
  first_left : (xs : List Notice) → IsMerge xs [] xs
  second_left : (ys : List Notice) → IsMerge [] ys ys
  from_first : (x y : Notice) (xs ys zs : List Notice) → x.line < y.line → IsMerge xs (y ∷ ys) zs → IsMerge (x ∷ xs) (y ∷ ys) (x ∷ zs)
  from_second : (x y : Notice) (xs ys zs : List Notice) → y.line ≤ x.line → IsMerge (x ∷ xs) ys zs → IsMerge (x ∷ xs) (y ∷ ys) (y ∷ zs)
