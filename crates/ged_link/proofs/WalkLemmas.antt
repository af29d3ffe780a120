-- The equations of the walks over links, at trees that are known by an equation.
use Rattle.std.proofs.Common.{◌≡◌, cond, ℕ, ◌+◌, ◌-◌, ◌<◌, ◌≤◌, arith, true, false, Bool, refl, sym, ap, ◌∙◌, List, append_assoc, [], ◌∷◌, ◌++◌, Option, Some, None, ◌||◌, ◌&&◌, nat_eq}
use Rattle.ged_line.specs.Bytes.{Bytes}
use Rattle.ged_tree.specs.Trees.{Structure, Trees, none, tree, trees_count}
use Rattle.ged_link.specs.declared.pairs.Role.{Role}
use Rattle.ged_tree.specs.declared.payload.Payload.{Payload}
use Rattle.ged_tree.specs.declared.payload.Payload.TheVariants.{Void, Pointer, Text}
use Rattle.ged_link.specs.declared.names.Names.{Names}
use Rattle.ged_link.specs.Indexes.{AreRecords, place_in}
use Rattle.ged_link.specs.inner.LinkWalks.{role_under, role_eq, is_role, is_place, target, linked, is_one_way_for, is_one_way, one_way_below, one_way_places}

pub nearer : (p a e : ℕ) → p < a → a ≤ e → e - a < e - p
nearer p a e h k = omega arith

-- a structure that is no link, and one that is
pub no_role : (find : Bytes → Option ℕ) (role : Role) (at : Bytes) (q : ℕ) (s : Structure) → None ≡ role_under at s.tag → is_place (linked find role at s) q ≡ false
no_role find role at q s h = rw (← h) refl

pub no_target : (find : Bytes → Option ℕ) (role : Role) (at : Bytes) (q : ℕ) (s : Structure) → None ≡ target find s.payload → is_place (linked find role at s) q ≡ false
no_target find role at q s h = rw (← h) (go (is_role role (role_under at s.tag)))
  where
    go : (b : Bool) → is_place (cond b None None) q ≡ false
    go true = refl
    go false = refl

pub is_link : (find : Bytes → Option ℕ) (role other : Role) (at : Bytes) (q r : ℕ) (s : Structure) → Some other ≡ role_under at s.tag → Some r ≡ target find s.payload
    → is_place (linked find role at s) q ≡ role_eq role other && nat_eq q r
is_link find role other at q r s h k = rw (← h, ← k) (go (role_eq role other))
  where
    go : (b : Bool) → is_place (cond b (Some r) None) q ≡ b && nat_eq q r
    go true = refl
    go false = refl

pub turned_pair : (here is there old : Bool) → ((is && (here && there)) || old) ≡ ((here && (is && there)) || old)
turned_pair true true there old = refl
turned_pair true false there old = refl
turned_pair false true there old = refl
turned_pair false false there old = refl

pub no_pair : (here old : Bool) → ((here && false) || old) ≡ old
no_pair true old = refl
no_pair false old = refl

-- the lists after a structure that is no link, and after one that is
pub not_linked : (find : Bytes → Option ℕ) (role : Role) (at : Bytes) (q : ℕ) (s : Structure) (here old : Bool) → is_place (linked find role at s) q ≡ false
    → old ≡ ((here && is_place (linked find role at s) q) || old)
not_linked find role at q s here old e = sym (ap (λ (x : Bool). (here && x) || old) e ∙ no_pair here old)

pub one_linked : (find : Bytes → Option ℕ) (role other : Role) (at : Bytes) (q r : ℕ) (s : Structure) (here old new : Bool) → Some other ≡ role_under at s.tag → Some r ≡ target find s.payload
    → new ≡ ((role_eq role other && (here && nat_eq q r)) || old) → new ≡ ((here && is_place (linked find role at s) q) || old)
one_linked find role other at q r s here old new h t k =
    k ∙ (turned_pair here (role_eq role other) (nat_eq q r) old ∙ sym (ap (λ (x : Bool). (here && x) || old) (is_link find role other at q r s h t)))

pub below_none : (find : Bytes → Option ℕ) (d : Trees) (at : Bytes) (r p : ℕ) (t : Trees) → t ≡ none → one_way_below find d at r p t ≡ []
below_none find d at r p t e = rw e refl

pub below_here : (find : Bytes → Option ℕ) (d : Trees) (at : Bytes) (r p a : ℕ) (t : Trees) (s : Structure) (b n : Trees) → t ≡ tree s b n → p + 1 + trees_count b ≡ a → is_one_way find d at r s ≡ true
    → one_way_below find d at r p t ≡ p ∷ one_way_below find d at r a n
below_here find d at r p a t s b n e k h = rw (e, h, k) refl

pub below_other : (find : Bytes → Option ℕ) (d : Trees) (at : Bytes) (r p a : ℕ) (t : Trees) (s : Structure) (b n : Trees) → t ≡ tree s b n → p + 1 + trees_count b ≡ a → is_one_way find d at r s ≡ false
    → one_way_below find d at r p t ≡ one_way_below find d at r a n
below_other find d at r p a t s b n e k h = rw (e, h, k) refl

pub places_none : (find : Bytes → Option ℕ) (d : Trees) (p : ℕ) (t : Trees) → t ≡ none → one_way_places find d p t ≡ []
places_none find d p t e = rw e refl

pub places_tree : (find : Bytes → Option ℕ) (d : Trees) (p a : ℕ) (t : Trees) (s : Structure) (b n : Trees) → t ≡ tree s b n → p + 1 + trees_count b ≡ a
    → one_way_places find d p t ≡ one_way_below find d s.tag p (p + 1) b ++ one_way_places find d a n
places_tree find d p a t s b n e k = rw (e, k) refl

-- the places that are pushed so far, before those that are left
pub one_way_pushed : (find : Bytes → Option ℕ) (d : Trees) (at : Bytes) (r p a : ℕ) (t : Trees) (s : Structure) (b n : Trees) (old new : List ℕ) → t ≡ tree s b n → p + 1 + trees_count b ≡ a
    → is_one_way find d at r s ≡ true → new ≡ old ++ (p ∷ []) → new ++ one_way_below find d at r a n ≡ old ++ one_way_below find d at r p t
one_way_pushed find d at r p a t s b n old new e f h k =
    ap (λ (xs : List ℕ). xs ++ one_way_below find d at r a n) k ∙ (append_assoc old (p ∷ []) (one_way_below find d at r a n)
    ∙ sym (ap (λ (xs : List ℕ). old ++ xs) (below_here find d at r p a t s b n e f h)))

pub ruleset one_ways = (below_none, below_here, below_other, places_none, places_tree)

pub not_one_way : (find : Bytes → Option ℕ) (d : Trees) (at : Bytes) (from : ℕ) (s : Structure) → None ≡ target find s.payload → is_one_way find d at from s ≡ false
not_one_way find d at from s h = go (role_under at s.tag)
  where
    go : (role : Option Role) → is_one_way_for find d role at from s ≡ false
    go None = refl
    go (Some role) = rw (← h) refl

pub target_within : (d : Trees) (records : Names) (p : Payload) (place : ℕ) → AreRecords d records → target (place_in records) p ≡ Some place → place < trees_count d
target_within d records Void place are e = cc
target_within d records (Pointer name) place are e = ((are.placed name place).0 e).0
target_within d records (Text lines) place are e = cc
