-- Structures of a run, marked by the numbers of their rows.
use Rattle.std.proofs.Common.{◌≡◌, ◌≢◌, ℕ, zero, suc, ◌+◌, ◌*◌, ◌%◌, ◌^◌, bit_and, bit_or, min, ◌<◌, ◌≤◌, ◌==◌, ◌&&◌, Bool, sym, ◌∙◌, ap, refl, arith, true, false, List, [], ◌∷◌, inl, inr, Option, Some, None, get_or, slice_get, length, map, eqb→eq, subst, T}
use Rattle.std.specs.Prelude.{◌⊎◌, ◌↔◌, IsTrue, IfSome}
use Rattle.std.specs.List.{AllByRecursion}
use Rattle.std.specs.Bool.{OnTrue}
use Rattle.std.specs.Str.{bytes_eq}
use Rattle.std.specs.Int.{bit_at, w64}
use Rattle.std.proofs.lemmas.Nat.Bits.{bit_at-zero, bit_at-lt, bit_at_and, bit_at_set_same, bit_at_set_other}
use Rattle.std.proofs.lemmas.List.{length-map}
use Rattle.std.proofs.lemmas.Slice.Eq.{bytes_eq-Decides}
use Rattle.ged_line.specs.Bytes.{Bytes}
use Rattle.ged_schema.proofs.Decided.{bool_cases, and_left, and_right}
use Rattle.ged_tree.specs.Trees.{Structure, Trees, none, tree, trees_count}
use Rattle.ged_schema.specs.declared.context.Context.{Context}
use Rattle.ged_schema.specs.declared.rule.Rule.{Rule}
use Rattle.ged_schema.specs.Rows.{Row, as_row}
use Rattle.ged_schema.specs.Tables.{rows, row}
use Rattle.ged_schema.specs.Payloads.{IsOfKind}
use Rattle.ged_value.specs.Kinds.{target}
use Rattle.ged_schema.specs.Checked.{count_of, CountsRight, PointsRight, AreChecked}
use Rattle.ged_schema.specs.inner.Marks.{allows_one, are_simple, AreNeededMarked, AreMarkedAsNeeded, MarksOneMore}
use Rattle.ged_schema.proofs.Numbers.{rule_stands, numbered_row}
use Rattle.ged_schema.proofs.Runs.{count_same, count_other, IsOnlyNumber, checked_some}

-- of a row's structures, those marked and those that are left are no more than there are; where the row has a greatest
-- number, they are as many
pub record IsMarked (mark left all : ℕ) (most : Option ℕ) : Type 0 where
  pub some : mark + left ≤ all
  pub each : (most ≡ None) ⊎ (all ≤ mark + left)

abbrev pub AreMarked : List Row → ℕ → Trees → Trees → Type 0
AreMarked rs marks left all = (number : ℕ) (r : Row) → slice_get rs number ≡ Some r →
    IsMarked (bit_at marks number) (count_of r.tag left) (count_of r.tag all) r.most

-- a bit that is set marks one row more
pub one_more : (number before : ℕ) → number < 64 → MarksOneMore number before (bit_or before (1 * 2 ^ number % 18446744073709551616))
one_more number before inside = (bit_at_set_same w64 before number inside, bit_at_set_other w64 before number inside)

pub none_marked : (rs : List Row) (all : Trees) → AreMarked rs 0 all all
none_marked rs all i r stands = record { some = omega (arith, bit_at-zero i); each = inr (omega (arith, bit_at-zero i)) }

module _ (rs : List Row) (marks : ℕ) (left all : Trees) (s : Structure) (b n : Trees) (is : left ≡ tree s b n) (so_far : AreMarked rs marks left all) where
  pub marked_none : IsOnlyNumber rs s.tag None → AreMarked rs marks n all
  marked_none only i r stands = elim (bool_cases (bytes_eq s.tag r.tag)) [
    | inl same ↦ (let never : None ≡ Some i = only i r stands (sym ((bytes_eq-Decides s.tag r.tag).0 same)) in cc)
    | inr other ↦ subst (λ m. IsMarked (bit_at marks i) m (count_of r.tag all) r.most) (count_other r.tag left s b n is other) (so_far i r stands)
  ]

  pub marked_some : (k : ℕ) → IsOnlyNumber rs s.tag (Some k) → (q : Row) → slice_get rs k ≡ Some q → q.tag ≡ s.tag → (q.most ≡ None) ⊎ (bit_at marks k ≡ 0) → (after : ℕ) → MarksOneMore k marks after → AreMarked rs after n all
  marked_some k only q at tags free after more i r stands = elim (bool_cases (bytes_eq s.tag r.tag)) [
    | inl same ↦ (
        let tag : s.tag ≡ r.tag = (bytes_eq-Decides s.tag r.tag).0 same in
        let here : k ≡ i = some_is k i (only i r stands (sym tag)) in
        let both : q ≡ r = row_is q r (sym at ∙ ap (slice_get rs) here ∙ stands) in
        let new : bit_at after i ≡ 1 = ap (bit_at after) (sym here) ∙ more.0 in
        let one : count_of r.tag left ≡ 1 + count_of r.tag n = count_same r.tag left s b n is tag in
        let old : IsMarked (bit_at marks i) (count_of r.tag left) (count_of r.tag all) r.most = so_far i r stands in
        record {
          some = omega (arith, new, one, old.some);
          each = elim free [
            | inl any ↦ inl (ap (λ (x : Row). x.most) (sym both) ∙ any)
            | inr fresh ↦ elim old.each [
              | inl any ↦ inl any
              | inr most ↦ (let z : bit_at marks i ≡ 0 = subst (λ (n : ℕ). bit_at marks n ≡ 0) here fresh in inr (omega (arith, new, one, most, z)))
            ]
          ];
        })
    | inr other ↦ (
        let apart : i ≢ k = λ e. (let both : r ≡ q = row_is r q (sym stands ∙ ap (slice_get rs) e ∙ at) in
        let equal : bytes_eq s.tag r.tag ≡ true = (bytes_eq-Decides s.tag r.tag).1 (sym tags ∙ ap (λ (x : Row). x.tag) (sym both)) in cc) in
        let new : bit_at after i ≡ bit_at marks i = more.1 i apart in
        let rest : count_of r.tag left ≡ count_of r.tag n = count_other r.tag left s b n is other in
        let old : IsMarked (bit_at marks i) (count_of r.tag left) (count_of r.tag all) r.most = so_far i r stands in
        record {
          some = omega (arith, new, rest, old.some);
          each = elim old.each [
            | inl any ↦ inl any
            | inr most ↦ inr (omega (arith, new, rest, most))
          ];
        })
  ]
    where
      some_is : (x y : ℕ) → Some x ≡ Some y → x ≡ y
      some_is x y e = cc

      row_is : (x y : Row) → Some x ≡ Some y → x ≡ y
      row_is x y e = cc

some_row : (x y : Row) → Some x ≡ Some y → x ≡ y
some_row x y e = cc

-- what holds for each row by its number holds for all
all_rows : (P : Row → Type 0) (rs : List Row) → ((i : ℕ) (r : Row) → slice_get rs i ≡ Some r → P r) → AllByRecursion P rs
all_rows P [] each = tt
all_rows P (r ∷ rs) each = (each 0 r refl, all_rows P rs (λ i q stands. each (suc i) q stands))

abbrev IsSimple : ℕ → ℕ → Row → Type 0
IsSimple needed number r = (allows_one r.most ≡ true) × ((r.least == bit_at needed number) ≡ true)

simple_at : (needed n i : ℕ) (rs : List Row) (r : Row) → are_simple needed n rs ≡ true → slice_get rs i ≡ Some r → IsSimple needed (n + i) r
simple_at needed n i [] r simple e = cc
simple_at needed n zero (q ∷ rs) r simple e =
    let one : allows_one q.most ≡ true = and_left (allows_one q.most) ((q.least == bit_at needed n) && are_simple needed (n + 1) rs) simple in
    let more : ((q.least == bit_at needed n) && are_simple needed (n + 1) rs) ≡ true = and_right (allows_one q.most) ((q.least == bit_at needed n) && are_simple needed (n + 1) rs) simple in
    let least : (q.least == bit_at needed n) ≡ true = and_left (q.least == bit_at needed n) (are_simple needed (n + 1) rs) more in
    let here : IsSimple needed n q = (one, least) in
    let place : n ≡ n + 0 = omega arith in
    subst (λ (x : Row). IsSimple needed (n + 0) x) (some_row q r e) (subst (λ (k : ℕ). IsSimple needed k q) place here)
simple_at needed n (suc i) (q ∷ rs) r simple e =
    let more : ((q.least == bit_at needed n) && are_simple needed (n + 1) rs) ≡ true = and_right (allows_one q.most) ((q.least == bit_at needed n) && are_simple needed (n + 1) rs) simple in
    let rest : are_simple needed (n + 1) rs ≡ true = and_right (q.least == bit_at needed n) (are_simple needed (n + 1) rs) more in
    let place : n + 1 + i ≡ n + suc i = omega arith in
    subst (λ (k : ℕ). IsSimple needed k r) place (simple_at needed (n + 1) i rs r rest e)

least_right : (needed marks i least count : ℕ) → (least == bit_at needed i) ≡ true → AreNeededMarked needed marks → bit_at marks i ≤ count → least ≤ count
least_right needed marks i least count same marked enough = let e : least ≡ bit_at needed i = eqb→eq least (bit_at needed i) (subst T (sym same) tt) in omega (arith, e, marked i, enough)

-- marks that have all needed bits
pub needed_marked : (needed marks : ℕ) (rs : List Row) → are_simple needed 0 rs ≡ true → OnTrue (bit_and marks needed == needed) (AreMarkedAsNeeded rs marks)
needed_marked needed marks rs simple = by (bit_and marks needed == needed) refl
  where
    by : (b : Bool) → (bit_and marks needed == needed) ≡ b → OnTrue b (AreMarkedAsNeeded rs marks)
    by true same =
        let kept : bit_and marks needed ≡ needed = eqb→eq (bit_and marks needed) needed (subst T (sym same) tt) in
        let marked : AreNeededMarked needed marks = λ number. (let least : bit_at needed number ≡ min (bit_at marks number) (bit_at needed number) = sym (ap (λ n. bit_at n number) kept) ∙ bit_at_and marks needed number in omega (arith, least)) in
        (needed, simple, marked)
    by false other = tt

most_right : (most : Option ℕ) (mark count : ℕ) → allows_one most ≡ true → mark ≤ 1 → (most ≡ None) ⊎ (count ≤ mark) → IfSome most (λ greatest. count ≤ greatest)
most_right None mark count one small each = tt
most_right (Some k) mark count one small (inl any) = cc
most_right (Some k) mark count one small (inr few) = let e : k ≡ 1 = eqb→eq k 1 (subst T (sym one) tt) in omega (arith, e, small, few)

-- where no structure is left, rows that are marked as they should be have as many structures as they ask
pub marked_right : (needed : ℕ) (rs : List Row) (marks : ℕ) (left all : Trees) → left ≡ none → are_simple needed 0 rs ≡ true → AreNeededMarked needed marks → AreMarked rs marks left all → AllByRecursion (CountsRight all) rs
marked_right needed rs marks left all is simple needs marked = all_rows (CountsRight all) rs (λ i r stands.
    let at : i ≡ 0 + i = omega arith in
    let row : IsSimple needed i r = subst (λ (k : ℕ). IsSimple needed k r) (sym at) (simple_at needed 0 i rs r simple stands) in
    let last : count_of r.tag left ≡ 0 = rw is refl in
    let h : IsMarked (bit_at marks i) (count_of r.tag left) (count_of r.tag all) r.most = marked i r stands in
    let enough : bit_at marks i ≤ count_of r.tag all = omega (arith, h.some, last) in
    let few : (r.most ≡ None) ⊎ (count_of r.tag all ≤ bit_at marks i) = elim h.each [
      | inl any ↦ inl any
      | inr most ↦ inr (omega (arith, most, last))
    ] in
    (least_right needed marks i r.least (count_of r.tag all) row.1 needs enough, most_right r.most (bit_at marks i) (count_of r.tag all) row.0 (omega (arith, bit_at-lt marks i)) few))

no_trees : (t : Trees) → trees_count t ≡ 0 → t ≡ none
no_trees none e = refl
no_trees (tree s b n) e = absurd (omega (arith, e))

-- no structure stands in a run that ends where it begins
pub nothing_stands : (start end : ℕ) (t : Trees) → start + trees_count t ≡ end → end ≤ start → t ≡ none
nothing_stands start end t fills past = no_trees t (omega arith)

-- and that is right where no row asks for one
pub nothing_right : (d : Trees) (c : Context) (t : Trees) → t ≡ none → are_simple 0 0 (rows c) ≡ true → AllByRecursion (CountsRight t) (rows c) × AreChecked d c t
nothing_right d c t is simple = (marked_right 0 (rows c) 0 t t is simple (λ number. omega arith) (none_marked (rows c) t), rw is tt)

-- a structure whose row is found, and the rule that stands for the row
module _ (c : Context) (t : Trees) (s : Structure) (b n : Trees) (is : t ≡ tree s b n) (tag : Bytes) (same : tag ≡ s.tag) (rules : List Rule) (seen : map as_row rules ≡ rows c) (k : ℕ) (within : k < length (rows c)) (found : slice_get (rows c) k ≡ row c tag) (o : Rule) where
  rule_at : slice_get (rows c) k ≡ Some (as_row (get_or rules k o))
  rule_at = let long : length (rows c) ≡ length rules = ap length (sym seen) ∙ length-map rules as_row in rule_stands rules (rows c) k o seen (omega (arith, long, within))

  rule_tag : (as_row (get_or rules k o)).tag ≡ s.tag
  unfolding row
  rule_tag =
      let (r, stands, tags) = numbered_row (rows c) tag k within found in
      let here : as_row (get_or rules k o) ≡ r = some_row (as_row (get_or rules k o)) r (sym rule_at ∙ stands) in
      ap (λ (x : Row). x.tag) here ∙ tags ∙ same

  pub rule_marked : (marks : ℕ) (all : Trees) → AreMarked (rows c) marks t all → IsOnlyNumber (rows c) s.tag (Some k) → ((get_or rules k o).most ≡ None) ⊎ (bit_at marks k ≡ 0) → (after : ℕ) → MarksOneMore k marks after → AreMarked (rows c) after n all
  rule_marked marks all so_far only free after more = marked_some (rows c) marks t all s b n is so_far k only (as_row (get_or rules k o)) rule_at rule_tag free after more

  pub rule_row : row c s.tag ≡ Some (as_row (get_or rules k o))
  rule_row = ap (row c) (sym same) ∙ sym found ∙ rule_at

  pub rule_checked : (d : Trees) → IsOfKind (get_or rules k o).kind s.payload × PointsRight d (target (get_or rules k o).kind) s.payload → AllByRecursion (CountsRight b) (rows (get_or rules k o).below) × AreChecked d (get_or rules k o).below b → AreChecked d c n → AreChecked d c t
  rule_checked d payload under rest =
      checked_some d c t s b n is (as_row (get_or rules k o)) rule_row (payload.0, payload.1, under.0) under.1 rest

-- what a test that came out true tells
pub on_true : {P : Type 0} (b : Bool) → OnTrue b P → b ≡ true → P
on_true b h e = rw e at h

pub true_on : {P Q : Type 0} (b : Bool) → OnTrue b P → (P → Q) → OnTrue b Q
true_on true h f = f h
true_on false h f = tt

pub on_both : {P Q : Type 0} (b : Bool) → IsTrue b ↔ Q → P → OnTrue b (P × Q)
on_both true h p = (p, h.0 refl)
on_both false h p = tt
