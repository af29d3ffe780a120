-- Chains of steps.
use Rattle.ged_canon.specs.Steps.{Chain, done, then}

pub both : {A : Type 0} {R : A → A → Type 0} {a b c : A} → Chain R a b → Chain R b c → Chain R a c
both done k = k
both (then r h) k = then r (both h k)

pub once : {A : Type 0} {R : A → A → Type 0} {a b : A} → R a b → Chain R a b
once r = then r done

-- a chain between what a function gives
pub under : {A B : Type 0} {R : A → A → Type 0} {S : B → B → Type 0} (f : A → B) → ((a b : A) → R a b → S (f a) (f b)) → {a b : A} → Chain R a b → Chain S (f a) (f b)
under f k done = done
under f k (then {a = a} {b = b} r h) = then (k a b r) (under f k h)

pub back : {A : Type 0} {R : A → A → Type 0} → ((a b : A) → R a b → R b a) → {a b : A} → Chain R a b → Chain R b a
back turn done = done
back turn (then {a = a} {b = b} r h) = both (back turn h) (once (turn a b r))

-- what each step keeps a chain keeps
pub kept : {A : Type 0} {R : A → A → Type 0} (P : A → Type 0) → ((a b : A) → R a b → P a → P b) → {a b : A} → Chain R a b → P a → P b
kept P keep done h = h
kept P keep (then {a = a} {b = b} r k) h = kept P keep k (keep a b r h)
