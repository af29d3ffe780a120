-- When a link is answered: what the sets of pairs tell, and what stands in the document.
use Rattle.std.proofs.Common.{◌≡◌, ℕ, ◌+◌, ◌<◌, Bool, true, false, not, ◌||◌, cond, nat_eq, codes, Option, Some, None, [], ◌∷◌, ◌⊎◌, inl, inr, refl, sym, ap, subst, ◌∙◌, arith, rules, ◌↔◌}
use Rattle.std.specs.Bool.{Decides}
use Rattle.std.specs.Str.{bytes_eq}
use Rattle.std.proofs.lemmas.Slice.Eq.{bytes_eq-Decides}
use Rattle.std.proofs.lemmas.Bool.Decides.{nat_tests}
use Rattle.ged_line.specs.Bytes.{Bytes}
use Rattle.ged_tree.specs.Trees.{Structure, Trees, none, tree, trees_count}
use Rattle.ged_tree.specs.Documents.{are_at}
use Rattle.ged_tree.specs.Places.{structure_at}
use Rattle.ged_tree.specs.declared.payload.Payload.{Payload}
use Rattle.ged_tree.specs.declared.payload.Payload.TheVariants.{Void, Pointer, Text}
use Rattle.ged_link.specs.declared.pairs.Role.{Role}
use Rattle.ged_link.specs.declared.pairs.Role.TheVariants.{Partner, Child}
use Rattle.ged_link.specs.Links.{IsAmong, SomeTree}
use Rattle.ged_link.specs.LinkFaults.{HasXref}
use Rattle.ged_link.specs.Notices.{Link, links, IsUnanswered, IsOneWay}
use Rattle.ged_link.specs.inner.Identifiers.{PointsBack}
use Rattle.ged_link.specs.inner.LinkWalks.{role_under, is_role, target, is_place, linked, has_link_to, has_pair, other_tag, is_unanswered, is_one_way_for, is_one_way}
use Rattle.ged_link.proofs.LinkLemmas.{both, level_parts, unnamed}
use Rattle.ged_link.proofs.PlaceCases.{place_cases, at_first, at_below, at_next}

-- ---- tests of bytes and numbers

same_bytes : (a b : Bytes) → bytes_eq a b ≡ true → a ≡ b
same_bytes a b e = go (bytes_eq a b) (bytes_eq-Decides a b) e
  where
    go : (same : Bool) → Decides same (a ≡ b) → same ≡ true → a ≡ b
    go true d e = search rules
    go false d e = cc

bytes_same : (a b : Bytes) → a ≡ b → bytes_eq a b ≡ true
bytes_same a b e = go (bytes_eq a b) (bytes_eq-Decides a b)
  where
    go : (same : Bool) → Decides same (a ≡ b) → same ≡ true
    go true d = refl
    go false d = absurd (search rules)

number_same : (p : ℕ) → nat_eq p p ≡ true
number_same p = grind (arith, nat_tests)

same_number : (p q : ℕ) → nat_eq p q ≡ true → p ≡ q
same_number p q e = grind (arith, nat_tests)

number_other : (p q : ℕ) → p < q → nat_eq p q ≡ false
number_other p q h = grind (arith, nat_tests)

other_number : (p q : ℕ) → q < p → nat_eq p q ≡ false
other_number p q h = grind (arith, nat_tests)

false_true : (b : Bool) → b ≡ false → b ≡ true → ⊥
false_true b e h = absurd (let f : false ≡ true = sym e ∙ h in cc)

true_or_false : (b : Bool) → (b ≡ true) ⊎ (b ≡ false)
true_or_false true = inl refl
true_or_false false = inr refl

either_true : (a b : Bool) → a || b ≡ true → (a ≡ true) ⊎ (b ≡ true)
either_true true b e = inl refl
either_true false b e = inr e

left_true : (a b : Bool) → a ≡ true → a || b ≡ true
left_true a b e = rw e refl

right_true : (a b : Bool) → b ≡ true → a || b ≡ true
right_true true b e = refl
right_true false b e = e

-- ---- the links by their roles

-- what a link and a role have to do with each other
pub record IsLinkOf (link : Link) (role : Role) : Type 0 where
  pub has_role : role_under link.at link.tag ≡ Some role
  pub to : other_tag link.at ≡ link.to
  pub answers : (tag : Bytes) → IsAmong tag link.answers ↔ (is_role role (role_under link.to tag) ≡ true)

one_answer : (tag word : Bytes) (P : Bytes → Bool) → P word ≡ true → (bytes_eq tag word ≡ false → P tag ≡ false) → IsAmong tag (word ∷ []) ↔ (P tag ≡ true)
one_answer tag word P here other = (
  λ h. elim h [ inl e ↦ subst (λ t. P t ≡ true) (sym e) here | inr k ↦ absurd k ],
  λ h. elim (true_or_false (bytes_eq tag word)) [
    | inl same ↦ inl (same_bytes tag word same)
    | inr differs ↦ absurd (false_true (P tag) (other differs) h)
  ],
)

two_answers : (tag word next : Bytes) (P : Bytes → Bool) → P word ≡ true → P next ≡ true → (bytes_eq tag word ≡ false → bytes_eq tag next ≡ false → P tag ≡ false) → IsAmong tag (word ∷ (next ∷ [])) ↔ (P tag ≡ true)
two_answers tag word next P here there other = (
  λ h. elim h [ inl e ↦ subst (λ t. P t ≡ true) (sym e) here | inr k ↦ elim k [ inl e ↦ subst (λ t. P t ≡ true) (sym e) there | inr l ↦ absurd l ] ],
  λ h. elim (true_or_false (bytes_eq tag word)) [
    | inl same ↦ inl (same_bytes tag word same)
    | inr differs ↦ elim (true_or_false (bytes_eq tag next)) [
      | inl same ↦ inr (inl (same_bytes tag next same))
      | inr too ↦ absurd (false_true (P tag) (other differs too) h)
    ]
  ],
)

-- the tests of the tags that answer
fams_only : (tag : Bytes) → bytes_eq tag (codes "FAMS") ≡ false → is_role Partner (role_under (codes "INDI") tag) ≡ false
fams_only tag e = rw e (go (bytes_eq tag (codes "FAMC")))
  where
    go : (b : Bool) → is_role Partner (cond b (Some Child) None) ≡ false
    go true = refl
    go false = refl

famc_only : (tag : Bytes) → bytes_eq tag (codes "FAMC") ≡ false → is_role Child (role_under (codes "INDI") tag) ≡ false
famc_only tag e = rw e (go (bytes_eq tag (codes "FAMS")))
  where
    go : (b : Bool) → is_role Child (cond b (Some Partner) None) ≡ false
    go true = refl
    go false = refl

partners_only : (tag : Bytes) → bytes_eq tag (codes "HUSB") ≡ false → bytes_eq tag (codes "WIFE") ≡ false → is_role Partner (role_under (codes "FAM") tag) ≡ false
partners_only tag e h = rw (e, h) (go (bytes_eq tag (codes "CHIL")))
  where
    go : (b : Bool) → is_role Partner (cond b (Some Child) None) ≡ false
    go true = refl
    go false = refl

chil_only : (tag : Bytes) → bytes_eq tag (codes "CHIL") ≡ false → is_role Child (role_under (codes "FAM") tag) ≡ false
chil_only tag e = rw e (go (bytes_eq tag (codes "HUSB") || bytes_eq tag (codes "WIFE")))
  where
    go : (b : Bool) → is_role Child (cond b (Some Partner) None) ≡ false
    go true = refl
    go false = refl

partner_answers : (tag : Bytes) → IsAmong tag (codes "HUSB" ∷ (codes "WIFE" ∷ [])) ↔ (is_role Partner (role_under (codes "FAM") tag) ≡ true)
partner_answers tag = two_answers tag (codes "HUSB") (codes "WIFE") (λ t. is_role Partner (role_under (codes "FAM") t)) refl refl (partners_only tag)

fams_answers : (tag : Bytes) → IsAmong tag (codes "FAMS" ∷ []) ↔ (is_role Partner (role_under (codes "INDI") tag) ≡ true)
fams_answers tag = one_answer tag (codes "FAMS") (λ t. is_role Partner (role_under (codes "INDI") t)) refl (fams_only tag)

chil_answers : (tag : Bytes) → IsAmong tag (codes "CHIL" ∷ []) ↔ (is_role Child (role_under (codes "FAM") tag) ≡ true)
chil_answers tag = one_answer tag (codes "CHIL") (λ t. is_role Child (role_under (codes "FAM") t)) refl (chil_only tag)

famc_answers : (tag : Bytes) → IsAmong tag (codes "FAMC" ∷ []) ↔ (is_role Child (role_under (codes "INDI") tag) ≡ true)
famc_answers tag = one_answer tag (codes "FAMC") (λ t. is_role Child (role_under (codes "INDI") t)) refl (famc_only tag)

-- each link has its role
pub role_of_link : (link : Link) → IsAmong link links → (role : Role) × IsLinkOf link role
role_of_link link (inl e) = (Partner, subst (λ (l : Link). IsLinkOf l Partner) (sym e) (record { has_role = refl; to = refl; answers = partner_answers }))
role_of_link link (inr (inl e)) = (Partner, subst (λ (l : Link). IsLinkOf l Partner) (sym e) (record { has_role = refl; to = refl; answers = fams_answers }))
role_of_link link (inr (inr (inl e))) = (Partner, subst (λ (l : Link). IsLinkOf l Partner) (sym e) (record { has_role = refl; to = refl; answers = fams_answers }))
role_of_link link (inr (inr (inr (inl e)))) = (Child, subst (λ (l : Link). IsLinkOf l Child) (sym e) (record { has_role = refl; to = refl; answers = chil_answers }))
role_of_link link (inr (inr (inr (inr (inl e))))) = (Child, subst (λ (l : Link). IsLinkOf l Child) (sym e) (record { has_role = refl; to = refl; answers = famc_answers }))
role_of_link link (inr (inr (inr (inr (inr h))))) = absurd h

-- a structure with a role is of some link
pub link_of_role : (at tag : Bytes) (role : Role) → role_under at tag ≡ Some role → (link : Link) × IsAmong link links × (link.at ≡ at) × (link.tag ≡ tag)
link_of_role at tag role e = elim (true_or_false (bytes_eq at (codes "INDI"))) [
  | inl person ↦ (
      let a = sym (same_bytes at (codes "INDI") person) in
      elim (true_or_false (bytes_eq tag (codes "FAMS"))) [
        | inl fams ↦ (_, inl refl, a, sym (same_bytes tag (codes "FAMS") fams))
        | inr other ↦ elim (true_or_false (bytes_eq tag (codes "FAMC"))) [
          | inl famc ↦ (_, inr (inr (inr (inl refl))), a, sym (same_bytes tag (codes "FAMC") famc))
          | inr neither_tag ↦ absurd (let f : None ≡ Some role = rw (person, other, neither_tag) at e in cc)
        ]
      ])
  | inr no_person ↦ elim (true_or_false (bytes_eq at (codes "FAM"))) [
    | inr no_family ↦ absurd (let f : None ≡ Some role = rw (no_person, no_family) at e in cc)
    | inl family ↦ (
        let a = sym (same_bytes at (codes "FAM") family) in
        elim (true_or_false (bytes_eq tag (codes "HUSB"))) [
          | inl husb ↦ (_, inr (inl refl), a, sym (same_bytes tag (codes "HUSB") husb))
          | inr no_husb ↦ elim (true_or_false (bytes_eq tag (codes "WIFE"))) [
            | inl wife ↦ (_, inr (inr (inl refl)), a, sym (same_bytes tag (codes "WIFE") wife))
            | inr no_wife ↦ elim (true_or_false (bytes_eq tag (codes "CHIL"))) [
              | inl chil ↦ (_, inr (inr (inr (inr (inl refl)))), a, sym (same_bytes tag (codes "CHIL") chil))
              | inr no_chil ↦ absurd (let f : None ≡ Some role = rw (no_person, family, no_husb, no_wife, no_chil) at e in cc)
            ]
          ]
        ])
  ]
]

-- ---- a record's links to another record

place_is : (o : Option ℕ) (p : ℕ) → is_place o p ≡ true → o ≡ Some p
place_is None p e = cc
place_is (Some q) p e = ap Some (sym (same_number p q e))

target_is : (find : Bytes → Option ℕ) (payload : Payload) (p : ℕ) → target find payload ≡ Some p → (name : Bytes) × (payload ≡ Pointer name) × (find name ≡ Some p)
target_is find Void p e = cc
target_is find (Pointer name) p e = (name, refl, e)
target_is find (Text lines) p e = cc

module _ (d : Trees) (find : Bytes → Option ℕ) (finds : (name : Bytes) (place : ℕ) → (find name ≡ Some place) ↔ HasXref d place name)
    (link : Link) (role : Role) (of : IsLinkOf link role) (p : ℕ) (within : p < trees_count d) where
  points_back : (s : Structure) (below : Trees) → is_place (linked find role link.to s) p ≡ true → PointsBack (structure_at d p).xref link.answers s below
  points_back s below e = elim (true_or_false (is_role role (role_under link.to s.tag))) [
    | inr other ↦ absurd (let f : false ≡ true = rw other at e in cc)
    | inl has_role ↦ (
        let there = target_is find s.payload p (place_is (target find s.payload) p (rw has_role at e)) in
        ((of.answers s.tag).1 has_role, there.0, ((finds there.0 p).0 there.2).1, there.1))
  ]

  back_points : (s : Structure) (below : Trees) → PointsBack (structure_at d p).xref link.answers s below → is_place (linked find role link.to s) p ≡ true
  back_points s below h =
      let found = (finds h.1 p).1 (within, h.2) in
      rw ((of.answers s.tag).0 h.0, h.3, found) (number_same p)

  link_to : (b : Trees) → has_link_to find role link.to p b ≡ true → SomeTree (PointsBack (structure_at d p).xref link.answers) b
  link_to none e = cc
  link_to (tree s b n) e = elim (either_true (is_place (linked find role link.to s) p) (has_link_to find role link.to p n) e) [
    | inl here ↦ inl (points_back s b here)
    | inr next ↦ inr (link_to n next)
  ]

  to_link : (b : Trees) → SomeTree (PointsBack (structure_at d p).xref link.answers) b → has_link_to find role link.to p b ≡ true
  to_link none h = absurd h
  to_link (tree s b n) (inl here) = left_true (is_place (linked find role link.to s) p) (has_link_to find role link.to p n) (back_points s b here)
  to_link (tree s b n) (inr next) = right_true (is_place (linked find role link.to s) p) (has_link_to find role link.to p n) (to_link n next)

  no_link : (b : Trees) → (SomeTree (PointsBack (structure_at d p).xref link.answers) b → ⊥) → has_link_to find role link.to p b ≡ false
  no_link b none_points = elim (true_or_false (has_link_to find role link.to p b)) [ inl yes_links ↦ absurd (none_points (link_to b yes_links)) | inr e ↦ e ]

  pair_later : (u : Trees) (k t : ℕ) → t < k → has_pair find role k u (t, p) ≡ false
  pair_later none k t h = refl
  pair_later (tree s b n) k t h = rw (number_other t k h) (pair_later n (k + 1 + trees_count b) t (omega (arith, h)))

  -- the pairs of the record at a place among those of trees from a place on
  pub pair_here : (s : Structure) (b n : Trees) (k : ℕ) → has_pair find role k (tree s b n) (k, p) ≡ has_link_to find role s.tag p b
  pair_here s b n k = rw (number_same k, pair_later n (k + 1 + trees_count b) k (omega arith)) (go (has_link_to find role s.tag p b))
    where
      go : (b : Bool) → b || false ≡ b
      go true = refl
      go false = refl

  pub pair_next : (s : Structure) (b n : Trees) (k t : ℕ) → k < t → has_pair find role k (tree s b n) (t, p) ≡ has_pair find role (k + 1 + trees_count b) n (t, p)
  pair_next s b n k t h = rw (other_number t k h) refl

  -- a record of the trees from a place on that doesn't answer
  pub record Unanswering (u : Trees) (k : ℕ) (name : Bytes) : Type 0 where
    pub place : ℕ
    pub inside : place < trees_count u
    pub named : (structure_at u place).xref ≡ Some name
    pub tagged : (structure_at u place).tag ≡ link.to
    pub unpaired : has_pair find role k u (k + place, p) ≡ false

  pub unanswered_at : (u : Trees) (k : ℕ) (name : Bytes) → SomeTree (IsUnanswered name (structure_at d p).xref link) u → Unanswering u k name
  unanswered_at none k name h = absurd h
  unanswered_at (tree s b n) k name (inl h) =
      let z : k + 0 ≡ k = omega arith in
      record {
        place = 0;
        inside = omega arith;
        named = rw (at_first s b n) h.0;
        tagged = rw (at_first s b n) h.1;
        unpaired = rw (z, pair_here s b n k, h.1) (no_link b h.2);
      }
  unanswered_at (tree s b n) k name (inr h) =
      let r = unanswered_at n (k + 1 + trees_count b) name h in
      let z : k + (1 + trees_count b + r.place) ≡ k + 1 + trees_count b + r.place = omega arith in
      record {
        place = 1 + trees_count b + r.place;
        inside = omega (arith, r.inside);
        named = rw (at_next s b n r.place) r.named;
        tagged = rw (at_next s b n r.place) r.tagged;
        unpaired = rw (z, pair_next s b n k (k + 1 + trees_count b + r.place) (omega arith)) r.unpaired;
      }

  pub at_unanswered : (u : Trees) (k : ℕ) (name : Bytes) → are_at 0 u ≡ true → (place : ℕ) → place < trees_count u → (structure_at u place).xref ≡ Some name → (structure_at u place).tag ≡ link.to
      → has_pair find role k u (k + place, p) ≡ false → SomeTree (IsUnanswered name (structure_at d p).xref link) u
  at_unanswered none k name level place inside named tagged unpaired = absurd (omega (arith, inside))
  at_unanswered (tree s b n) k name level place inside named tagged unpaired =
      let parts = level_parts 0 s b n level in
      elim (place_cases s b n place inside) [
        | inl first ↦ (
            let z : k + place ≡ k = omega (arith, first) in
            let tag : s.tag ≡ link.to = rw (first, at_first s b n) at tagged in
            let free : has_link_to find role link.to p b ≡ false = rw (z, pair_here s b n k, tag) at unpaired in
            inl (rw (first, at_first s b n) at named, tag, λ points. false_true (has_link_to find role link.to p b) free (to_link b points)))
        | inr (inl w) ↦ (let none_is = unnamed 0 b w.0 parts.1 w.1 in let some_is = rw (w.2, at_below s b n w.0 w.1) at named in absurd (let f : None ≡ Some name = sym none_is ∙ some_is in cc))
        | inr (inr w) ↦ (
            let z : k + place ≡ k + 1 + trees_count b + w.0 = omega (arith, w.2) in
            inr (at_unanswered n (k + 1 + trees_count b) name parts.2 w.0 w.1 (rw (w.2, at_next s b n w.0) at named) (rw (w.2, at_next s b n w.0) at tagged)
            (rw (z, pair_next s b n k (k + 1 + trees_count b + w.0) (omega arith)) at unpaired)))
      ]

-- ---- the test of a structure

some_role : (a b : Role) → Some a ≡ Some b → a ≡ b
some_role a b e = cc

unanswered_is : (find : Bytes → Option ℕ) (d : Trees) (role : Role) (at : Bytes) (p : ℕ) (o : Option ℕ) → is_unanswered find d role at p o ≡ true
    → (t : ℕ) × (o ≡ Some t) × ((structure_at d t).tag ≡ other_tag at) × (has_pair find role 0 d (t, p) ≡ false)
unanswered_is find d role at p None e = cc
unanswered_is find d role at p (Some t) e =
    let h = both _ _ e in
    (t, refl, same_bytes (structure_at d t).tag (other_tag at) h.0, go (has_pair find role 0 d (t, p)) h.1)
  where
    go : (b : Bool) → not b ≡ true → b ≡ false
    go true e = cc
    go false e = refl

role_is : (find : Bytes → Option ℕ) (d : Trees) (o : Option Role) (at : Bytes) (p : ℕ) (s : Structure) → is_one_way_for find d o at p s ≡ true
    → (role : Role) × (o ≡ Some role) × (is_unanswered find d role at p (target find s.payload) ≡ true)
role_is find d None at p s e = cc
role_is find d (Some role) at p s e = (role, refl, e)

is_unanswered_link : (find : Bytes → Option ℕ) (d : Trees) (at : Bytes) (p : ℕ) (s : Structure) (role : Role) (name : Bytes) (t : ℕ) → role_under at s.tag ≡ Some role → s.payload ≡ Pointer name → find name ≡ Some t
    → bytes_eq (structure_at d t).tag (other_tag at) ≡ true → has_pair find role 0 d (t, p) ≡ false → is_one_way find d at p s ≡ true
is_unanswered_link find d at p s role name t has_role points found tagged unpaired = rw (has_role, points, found, tagged, unpaired) refl

module _ (d : Trees) (level : are_at 0 d ≡ true) (find : Bytes → Option ℕ) (finds : (name : Bytes) (place : ℕ) → (find name ≡ Some place) ↔ HasXref d place name)
    (p : ℕ) (within : p < trees_count d) (s : Structure) (below : Trees) where
  pub is_one_way-IsOneWay : is_one_way find d (structure_at d p).tag p s ≡ true → IsOneWay d (structure_at d p).tag (structure_at d p).xref s below
  is_one_way-IsOneWay e =
      let at = (structure_at d p).tag in
      let b = role_is find d (role_under at s.tag) at p s e in
      let l = link_of_role at s.tag b.0 b.1 in
      let o = role_of_link l.0 l.1 in
      let same : o.0 ≡ b.0 = some_role o.0 b.0 (sym o.1.has_role ∙ ap (λ a. role_under a l.0.tag) l.2 ∙ ap (role_under at) l.3 ∙ b.1) in
      let of : IsLinkOf l.0 b.0 = subst (IsLinkOf l.0) same o.1 in
      let u = unanswered_is find d b.0 at p (target find s.payload) b.2 in
      let t = target_is find s.payload u.0 u.1 in
      let x = (finds t.0 u.0).0 t.2 in
      let tag : (structure_at d u.0).tag ≡ l.0.to = u.2 ∙ ap other_tag (sym l.2) ∙ of.to in
      let z : 0 + u.0 ≡ u.0 = omega arith in
      (l.0, l.1, (l.2, l.3, t.0, t.1, at_unanswered d find finds l.0 b.0 of p within d 0 t.0 level u.0 x.0 x.1 tag (rw z u.3)))

  pub IsOneWay-is_one_way : IsOneWay d (structure_at d p).tag (structure_at d p).xref s below → is_one_way find d (structure_at d p).tag p s ≡ true
  IsOneWay-is_one_way h =
      let at = (structure_at d p).tag in
      let i = h in
      let o = role_of_link i.0 i.1 in
      let k = i.2 in
      let r = unanswered_at d find finds i.0 o.0 o.1 p within d 0 k.2 k.4 in
      let has_role : role_under at s.tag ≡ Some o.0 = sym (ap (λ a. role_under a i.0.tag) k.0 ∙ ap (role_under at) k.1) ∙ o.1.has_role in
      let found : find k.2 ≡ Some r.place = (finds k.2 r.place).1 (r.inside, r.named) in
      let z : 0 + r.place ≡ r.place = omega arith in
      let unpaired : has_pair find o.0 0 d (r.place, p) ≡ false = rw z at r.unpaired in
      let tagged : bytes_eq (structure_at d r.place).tag (other_tag at) ≡ true = bytes_same (structure_at d r.place).tag (other_tag at) (r.tagged ∙ sym o.1.to ∙ ap other_tag k.0) in
      is_unanswered_link find d at p s o.0 k.2 r.place has_role k.3 found tagged unpaired
