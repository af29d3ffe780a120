-- What a further line tells.
use Rattle.std.proofs.Common.{◌≡◌, Bool, true, false, ◌||◌, List, [], ◌∷◌, ◌++◌, Option, Some, None, refl}
use Rattle.std.specs.List.{list_any, last_or}
use Rattle.ged_line.specs.Lines.{LineParts}
use Rattle.ged_tree.specs.TreeFaults.{line_before, has_trailer, is_trailer}
use Rattle.ged_tree.specs.Judging.{Facts, seen, facts_of, StandsFor}

last_more : {A : Type 0} (o : Option A) (xs : List A) (x : A) → last_or o (xs ++ x ∷ []) ≡ Some x
last_more o [] x = refl
last_more o (y ∷ ys) x = last_more (Some y) ys x

pub before_more : (xs : List LineParts) (x : LineParts) → line_before (xs ++ x ∷ []) ≡ Some x
before_more xs x = last_more None xs x

or_last : (a b c : Bool) → (a || (b || c)) ≡ ((a || b) || c)
or_last true b c = refl
or_last false b c = refl

or_false : (a : Bool) → (a || false) ≡ a
or_false true = refl
or_false false = refl

any_more : {A : Type 0} (p : A → Bool) (xs : List A) (x : A) → list_any p (xs ++ x ∷ []) ≡ (list_any p xs || p x)
any_more p [] x = or_false (p x)
any_more p (y ∷ ys) x = rw (any_more p ys x) (or_last (p y) (list_any p ys) (p x))

pub trailer_more : (xs : List LineParts) (x : LineParts) → has_trailer (xs ++ x ∷ []) ≡ (has_trailer xs || is_trailer x)
trailer_more xs x = any_more is_trailer xs x

pub facts_more : (lines : List LineParts) (line : LineParts) (facts : Facts) → StandsFor facts lines
    → facts_of (lines ++ line ∷ []) ≡ record { before = Some (seen line); ended = facts.ended || is_trailer line }
facts_more lines line facts h = rw (before_more lines line, trailer_more lines line, h) refl

pub ruleset judging = (facts_more, before_more, trailer_more)
