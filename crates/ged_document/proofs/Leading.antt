-- The line that a path leads to.
use Rattle.std.proofs.Common.{◌≡◌, ℕ, suc, zero, ◌+◌, ◌-◌, ◌<◌, List, [], ◌∷◌, Option, Some, None, refl, arith, ap}
use Rattle.std.proofs.lemmas.Bool.Decides.{nat_tests}
use Rattle.ged_tree.specs.Trees.{Structure, Trees, none, tree, trees_count, line_count, lines_count}
use Rattle.ged_tree.specs.Places.{line_at}
use Rattle.ged_document.specs.Paths.{LeadsTo, here, down, along}
use Rattle.ged_document.specs.inner.PathLines.{path_line, line_below as line_within, line_of_path}
use Rattle.ged_tree.proofs.CallerLemmas.{line_below, line_next}

pub path_here : (i : ℕ) (s : Structure) (b n : Trees) (k : ℕ) (ks : List ℕ) → k ≡ 0 → path_line i (tree s b n) k ks ≡ line_within i s.payload b ks
path_here i s b n k [] h = grind (arith, nat_tests)
path_here i s b n k (c ∷ cs) h = grind (arith, nat_tests)

pub path_along : (i : ℕ) (s : Structure) (b n : Trees) (k : ℕ) (ks : List ℕ) → 0 < k → path_line i (tree s b n) k ks ≡ path_line (i + (line_count s.payload + lines_count b)) n (k - 1) ks
path_along i s b n k [] h = grind (arith, nat_tests)
path_along i s b n k (c ∷ cs) h = grind (arith, nat_tests)

pub ruleset path_steps = (path_here, path_along)

leads_within : {path : List ℕ} {w : Trees} {place : ℕ} → LeadsTo path w place → place < trees_count w
leads_within (here) = omega arith
leads_within (down h) = omega (arith, leads_within h)
leads_within (along h) = omega (arith, leads_within h)

-- the line of the place that a path leads to
pub leads_line : (i : ℕ) {path : List ℕ} {w : Trees} {place : ℕ} → LeadsTo path w place → line_of_path i w path ≡ Some (line_at i w place)
leads_line i (here) = refl
leads_line i (down {s = s} {below = b} {next = n} {number = k} {place = p} {path = ks} h) =
    let m : (1 + p) - 1 ≡ p = omega arith in
    rw (line_below i s b n (1 + p) (omega arith) (omega (arith, leads_within h)), m) (leads_line (i + line_count s.payload) h)
leads_line i (along {s = s} {below = b} {next = n} {number = k} {place = p} {path = ks} h) =
    let m : (1 + trees_count b + p) - 1 - trees_count b ≡ p = omega arith in
    let q : suc k - 1 ≡ k = omega arith in
    rw (path_along i s b n (suc k) ks (omega arith), q, line_next i s b n (1 + trees_count b + p) (omega arith), m) (leads_line (i + (line_count s.payload + lines_count b)) h)

-- a path that has a line leads to a place
leads_from : (i : ℕ) (w : Trees) (k : ℕ) (ks : List ℕ) (line : ℕ) → path_line i w k ks ≡ Some line → (place : ℕ) × LeadsTo (k ∷ ks) w place
leads_from i none k ks line h = absurd cc
leads_from i (tree s b n) zero [] line h = (0, here)
leads_from i (tree s b n) zero (c ∷ cs) line h = let found = leads_from (i + line_count s.payload) b c cs line h in (1 + found.0, down found.1)
leads_from i (tree s b n) (suc k) ks line h =
    let q : suc k - 1 ≡ k = omega arith in
    let e : path_line (i + (line_count s.payload + lines_count b)) n k ks ≡ Some line = rw (path_along i s b n (suc k) ks (omega arith), q) at h in
    let found = leads_from (i + (line_count s.payload + lines_count b)) n k ks line e in
    (1 + trees_count b + found.0, along found.1)

none_or_some : (found : Option ℕ) → ((line : ℕ) → ¬ (found ≡ Some line)) → found ≡ None
none_or_some None h = refl
none_or_some (Some line) h = absurd (h line refl)

-- a path that leads to no place has no line
pub leads_nowhere : (i : ℕ) (w : Trees) (path : List ℕ) → ((place : ℕ) → ¬ (LeadsTo path w place)) → line_of_path i w path ≡ None
leads_nowhere i w [] h = refl
leads_nowhere i w (k ∷ ks) h = none_or_some (path_line i w k ks) (λ line e. let found = leads_from i w k ks line e in h found.0 found.1)

-- a path leads to one place
pub leads_one : {path : List ℕ} {w : Trees} {place other : ℕ} → LeadsTo path w place → LeadsTo path w other → place ≡ other
leads_one (here) (here) = refl
leads_one (down h) (down k) = ap (λ (p : ℕ). 1 + p) (leads_one h k)
leads_one (along {below = b} h) (along k) = ap (λ (p : ℕ). 1 + trees_count b + p) (leads_one h k)
