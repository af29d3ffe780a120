-- Rows that are found by their numbers.
use Rattle.std.proofs.Common.{◌≡◌, ◌≢◌, zero, suc, ℕ, ◌+◌, ◌<◌, ◌≤◌, ◌==◌, true, false, sym, ◌∙◌, ap, refl, arith, List, [], ◌∷◌, length, map, get_or, drop, slice_get, Option, Some, None, option_map, inl, inr, eqb→eq, subst, T}
use Rattle.std.specs.List.{AllPairs}
use Rattle.std.specs.Str.{bytes_eq}
use Rattle.std.proofs.lemmas.List.{length-map, drop_more}
use Rattle.std.proofs.lemmas.Slice.Eq.{bytes_eq-Decides}
use Rattle.std.proofs.lemmas.Option.{slice_get-map, slice_get-get_or, slice_get_past, slice_get_within, get_or_from_slice_get}
use Rattle.ged_line.specs.Bytes.{Bytes}
use Rattle.ged_schema.proofs.Decided.{bool_cases, and_left, and_right}
use Rattle.ged_schema.specs.declared.context.Context.{Context}
use Rattle.ged_schema.specs.declared.rule.Rule.{Rule}
use Rattle.ged_schema.specs.Rows.{Row, as_row}
use Rattle.ged_schema.specs.Tables.{row, rows}
use Rattle.ged_schema.specs.inner.Lookups.{row_of}
use Rattle.ged_schema.specs.Slots.{are_numbered}

some_is : {X : Type 0} (x y : X) → Some x ≡ Some y → x ≡ y
some_is x y e = cc

-- the number of a row is that of its tag
pub numbered_at : (f : Bytes → ℕ) (n i : ℕ) (rs : List Row) (r : Row) → are_numbered f n rs ≡ true → slice_get rs i ≡ Some r → f r.tag ≡ n + i
numbered_at f n i [] r numbered e = cc
numbered_at f n zero (q ∷ rs) r numbered e =
    let h : (f q.tag == n) ≡ true = and_left (f q.tag == n) (are_numbered f (n + 1) rs) numbered in
    let same : f q.tag ≡ n = eqb→eq (f q.tag) n (subst T (sym h) tt) in
    ap (λ (x : Row). f x.tag) (sym (some_is q r e)) ∙ same ∙ omega arith
numbered_at f n (suc i) (q ∷ rs) r numbered e = numbered_at f (n + 1) i rs r (and_right (f q.tag == n) (are_numbered f (n + 1) rs) numbered) e ∙ omega arith

-- so no two rows that are numbered have the same tag
pub numbered_distinct : (f : Bytes → ℕ) (rs : List Row) → are_numbered f 0 rs ≡ true → AllPairs (λ r other. r.tag ≢ other.tag) rs
numbered_distinct f rs numbered i j d below inside same =
    let first : f (get_or rs i d).tag ≡ 0 + i = numbered_at f 0 i rs (get_or rs i d) numbered (slice_get-get_or rs i d (omega arith)) in
    let second : f (get_or rs j d).tag ≡ 0 + j = numbered_at f 0 j rs (get_or rs j d) numbered (slice_get-get_or rs j d inside) in
    let equal : f (get_or rs i d).tag ≡ f (get_or rs j d).tag = ap f same in
    omega (arith, first, second, equal, below)

pub record IsFound (rs : List Row) (tag : Bytes) (r : Row) : Type 0 where
  pub number : ℕ
  pub stands : slice_get rs number ≡ Some r
  pub same : r.tag ≡ tag

-- the row of a tag has that tag
pub row_found : (rs : List Row) (tag : Bytes) (r : Row) → row_of rs tag ≡ Some r → IsFound rs tag r
row_found [] tag r e = cc
row_found (q ∷ rs) tag r e = elim (bool_cases (bytes_eq q.tag tag)) [
  | inl same ↦ (let here : q ≡ r = some_is q r (rw same at e) in
      record { number = 0; stands = ap Some here; same = ap (λ (x : Row). x.tag) (sym here) ∙ (bytes_eq-Decides q.tag tag).0 same })
  | inr other ↦ (let h = row_found rs tag r (rw other at e) in record { number = suc h.number; stands = h.stands; same = h.same })
]

-- the row at the number of a tag is the tag's, where it has the tag
row_numbered : (f : Bytes → ℕ) (n k : ℕ) (rs : List Row) (tag : Bytes) (r : Row) → are_numbered f n rs ≡ true → f tag ≡ n + k → slice_get rs k ≡ Some r → r.tag ≡ tag → row_of rs tag ≡ Some r
row_numbered f n k [] tag r numbered at e same = cc
row_numbered f n zero (q ∷ rs) tag r numbered at e same =
    let here : q ≡ r = some_is q r e in
    let tags : q.tag ≡ tag = ap (λ (x : Row). x.tag) here ∙ same in
    rw ((bytes_eq-Decides q.tag tag).1 tags) (ap Some here)
row_numbered f n (suc k) (q ∷ rs) tag r numbered at e same = elim (bool_cases (bytes_eq q.tag tag)) [
  | inl equal ↦ (
      let first : f q.tag ≡ n + 0 = numbered_at f n 0 (q ∷ rs) q numbered refl in
      let tags : f q.tag ≡ f tag = ap f ((bytes_eq-Decides q.tag tag).0 equal) in
      absurd (omega (arith, first, tags, at)))
  | inr other ↦ rw other (row_numbered f (n + 1) k rs tag r (and_right (f q.tag == n) (are_numbered f (n + 1) rs) numbered) (at ∙ omega arith) e same)
]

-- a rule stands for the row at its place
pub rule_stands : (rules : List Rule) (rs : List Row) (i : ℕ) (d : Rule) → map as_row rules ≡ rs → i < length rules → slice_get rs i ≡ Some (as_row (get_or rules i d))
rule_stands rules rs i d seen inside = ap (λ (xs : List Row). slice_get xs i) (sym seen) ∙ slice_get-map as_row rules i ∙ ap (option_map as_row) (slice_get-get_or rules i d inside)

-- the rows from the place of a rule on are its row and the rest
pub rules_left : (rules : List Rule) (rs : List Row) (i : ℕ) (d : Rule) → map as_row rules ≡ rs → i < length rules → drop i rs ≡ as_row (get_or rules i d) ∷ drop (i + 1) rs
rules_left rules rs i d seen inside =
    let r = as_row (get_or rules i d) in
    let e : slice_get rs i ≡ Some r = rule_stands rules rs i d seen inside in
    drop_more rs i r (slice_get_within rs i r e) ∙ ap (λ (x : Row). x ∷ drop (i + 1) rs) (get_or_from_slice_get rs i r r e)

-- the row at the number of a tag's row has the tag
pub numbered_row : (rs : List Row) (tag : Bytes) (k : ℕ) → k < length rs → slice_get rs k ≡ row_of rs tag → (r : Row) × (slice_get rs k ≡ Some r) × (r.tag ≡ tag)
numbered_row rs tag k inside same = go (slice_get rs k) refl
  where
    go : (o : Option Row) → slice_get rs k ≡ o → (r : Row) × (slice_get rs k ≡ Some r) × (r.tag ≡ tag)
    go None e = absurd (within rs k inside e)
      where
        within : (xs : List Row) (i : ℕ) → i < length xs → slice_get xs i ≡ None → ⊥
        within [] i lt none = omega (arith, lt)
        within (x ∷ xs) zero lt none = cc
        within (x ∷ xs) (suc i) lt none = within xs i (omega arith) none
    go (Some r) e = (r, e, (row_found rs tag r (sym same ∙ e)).same)

-- what is found for a tag among the rules of a context is its row there
pub row_among : (c : Context) (rules : List Rule) (tag : Bytes) (o : Option Row) → map as_row rules ≡ rows c → o ≡ row_of (map as_row rules) tag → row c tag ≡ o
unfolding row
row_among c rules tag o seen found = sym (found ∙ ap (λ (rs : List Row). row_of rs tag) seen)

pub number_among : (c : Context) (rules : List Rule) (tag : Bytes) (k : ℕ) → map as_row rules ≡ rows c
    → (k < length (map as_row rules)) × (slice_get (map as_row rules) k ≡ row_of (map as_row rules) tag)
    → (k < length (rows c)) × (slice_get (rows c) k ≡ row c tag)
unfolding row
number_among c rules tag k seen h = rw seen at h

-- a tag whose row has a number has a row
pub row_there : (c : Context) (tag : Bytes) (k : ℕ) → k < length (rows c) → slice_get (rows c) k ≡ row c tag → (r : Row) × (row c tag ≡ Some r)
unfolding row
row_there c tag k within found = let (r, stands, _) = numbered_row (rows c) tag k within found in (r, sym found ∙ stands)

-- rules that stand for rows, and the number of a tag
pub record IsLookedUp (f : Bytes → ℕ) (rs : List Row) (tag : Bytes) (rules : List Rule) (k : ℕ) : Type 0 where
  pub numbered : are_numbered f 0 rs ≡ true
  pub seen : map as_row rules ≡ rs
  pub at : k ≡ f tag

module _ (f : Bytes → ℕ) (rs : List Row) (tag : Bytes) (rules : List Rule) (k : ℕ) (h : IsLookedUp f rs tag rules k) where
  stands : (d : Rule) → k < length rules → slice_get rs k ≡ Some (as_row (get_or rules k d))
  stands d inside = rule_stands rules rs k d h.seen inside

  pub inside_rows : k < length rules → k < length rs
  inside_rows inside = let same : length rs ≡ length rules = ap length (sym h.seen) ∙ length-map rules as_row in omega (arith, same)

  pub kept_row : (d : Rule) → k < length rules → bytes_eq (get_or rules k d).tag.now tag ≡ true → slice_get rs k ≡ row_of rs tag
  kept_row d inside same = stands d inside ∙ sym (row_numbered f 0 k rs tag (as_row (get_or rules k d)) h.numbered (sym h.at ∙ omega arith) (stands d inside) ((bytes_eq-Decides (get_or rules k d).tag.now tag).0 same))

  -- a row with the tag would stand at the tag's number
  row_stands : (r : Row) → row_of rs tag ≡ Some r → (slice_get rs k ≡ Some r) × (r.tag ≡ tag)
  row_stands r e =
      let found = row_found rs tag r e in
      let number : f r.tag ≡ 0 + found.number = numbered_at f 0 found.number rs r h.numbered found.stands in
      let here : k ≡ found.number = h.at ∙ ap f (sym found.same) ∙ number ∙ omega arith in
      (ap (slice_get rs) here ∙ found.stands, found.same)

  none_unless : (o : Option Row) → row_of rs tag ≡ o → ((r : Row) → row_of rs tag ≡ Some r → ⊥) → row_of rs tag ≡ None
  none_unless None e never = e
  none_unless (Some r) e never = absurd (never r e)

  pub other_row : (d : Rule) → k < length rules → bytes_eq (get_or rules k d).tag.now tag ≡ false → row_of rs tag ≡ None
  other_row d inside other = none_unless (row_of rs tag) refl (λ r e.
      let here : as_row (get_or rules k d) ≡ r = some_is (as_row (get_or rules k d)) r (sym (stands d inside) ∙ (row_stands r e).0) in
      let same : (get_or rules k d).tag.now ≡ tag = ap (λ (x : Row). x.tag) here ∙ (row_stands r e).1 in
      let equal : bytes_eq (get_or rules k d).tag.now tag ≡ true = (bytes_eq-Decides (get_or rules k d).tag.now tag).1 same in
      cc)

  pub no_row : length rules ≤ k → row_of rs tag ≡ None
  no_row past = none_unless (row_of rs tag) refl (λ r e.
      let nothing : slice_get rs k ≡ None = ap (λ (xs : List Row). slice_get xs k) (sym h.seen) ∙ slice_get-map as_row rules k ∙ ap (option_map as_row) (slice_get_past rules k past) in
      let something : slice_get rs k ≡ Some r = (row_stands r e).0 in
      cc)

  -- and stands nowhere else
  pub only_number : (i : ℕ) (r : Row) → slice_get rs i ≡ Some r → r.tag ≡ tag → Some k ≡ Some i
  only_number i r e same = ap Some (h.at ∙ ap f (sym same) ∙ numbered_at f 0 i rs r h.numbered e ∙ omega arith)

  pub never_only : row_of rs tag ≡ None → (i : ℕ) (r : Row) → slice_get rs i ≡ Some r → r.tag ≡ tag → None ≡ Some i
  never_only nothing i r e same =
      let number : f tag ≡ 0 + i = ap f (sym same) ∙ numbered_at f 0 i rs r h.numbered e in
      let something : row_of rs tag ≡ Some r = row_numbered f 0 i rs tag r h.numbered number e same in
      cc
