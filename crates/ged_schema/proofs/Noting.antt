-- Whether a structure with an unlisted tag was met, from one place to the next.
use Rattle.std.proofs.Common.{◌≡◌, ◌≢◌, true, false, inl, inr, Some, None, refl, sym, subst}
use Rattle.std.specs.Prelude.{◌⊎◌, ◌↔◌, Bool, IsTrue}
use Rattle.ged_line.specs.Names.{is_standard_tag}
use Rattle.ged_tree.specs.Trees.{Structure, Trees, none, tree}
use Rattle.ged_schema.specs.declared.context.Context.{Context}
use Rattle.ged_schema.specs.declared.context.Context.TheVariants.{Unchecked}
use Rattle.ged_schema.specs.Rows.{Row}
use Rattle.ged_schema.specs.Tables.{rows, row}
use Rattle.ged_schema.specs.Unlisted.{Unlisted}

-- one was met so far, or one is among the trees that are left, exactly where one was met before or is among all
pub record IsNoted (c : Context) (so_far : Bool) (left : Trees) (before : Bool) (all : Trees) : Type 0 where
  pub there : IsTrue so_far ⊎ Unlisted c left → IsTrue before ⊎ Unlisted c all
  pub back : IsTrue before ⊎ Unlisted c all → IsTrue so_far ⊎ Unlisted c left

pub noted_first : (c : Context) (noted : Bool) (all : Trees) → IsNoted c noted all noted all
noted_first c noted all = record { there = λ h. h; back = λ h. h }

-- nothing is unlisted where nothing is asked
none_unchecked : (t : Trees) → Unlisted Unchecked t → ⊥
unfolding row rows
none_unchecked none h = h
none_unchecked (tree s b n) (inl h) = h.1 refl
none_unchecked (tree s b n) (inr (inl h)) = none_unchecked b h
none_unchecked (tree s b n) (inr (inr h)) = none_unchecked n h

module _ (c : Context) (so_far : Bool) (left all : Trees) (before : Bool) (s : Structure) (b n : Trees) (is : left ≡ tree s b n) (noted : IsNoted c so_far left before all) where
  -- a structure with a row, below which those that are left were met
  pub noted_row : (r : Row) → row c s.tag ≡ Some r → (now : Bool) → IsTrue now ↔ (IsTrue so_far ⊎ Unlisted r.below b) → IsNoted c now n before all
  noted_row r some now met = record {
    there = λ h. noted.there (elim h [
      | inl told ↦ elim (met.0 told) [ inl old ↦ inl old | inr below ↦ inr (rw (is, some) (inr (inl below))) ]
      | inr next ↦ inr (rw is (inr (inr next)))
    ]);
    back = λ h. elim (noted.back h) [
      | inl old ↦ inl (met.1 (inl old))
      | inr here ↦ row_left r some now met (rw is at here)
    ];
  }
    where
      row_left : (r : Row) → row c s.tag ≡ Some r → (now : Bool) → IsTrue now ↔ (IsTrue so_far ⊎ Unlisted r.below b) → Unlisted c (tree s b n) → IsTrue now ⊎ Unlisted c n
      row_left r some now met (inl h) = cc
      row_left r some now met (inr (inl h)) = inl (met.1 (inr (rw some at h)))
      row_left r some now met (inr (inr h)) = inr h

  -- the same, where nothing stands below it
  pub noted_leaf : (r : Row) → row c s.tag ≡ Some r → b ≡ none → IsNoted c so_far n before all
  noted_leaf r some nothing = noted_row r some so_far (λ h. inl h, λ h. elim h [ inl old ↦ old | inr below ↦ absurd (rw nothing at below) ])

  -- a structure that gives a notice
  pub noted_here : row c s.tag ≡ None → is_standard_tag s.tag ≡ true → c ≢ Unchecked → IsNoted c true n before all
  noted_here nothing standard asked = record {
    there = λ _. noted.there (inr (rw is (inl (standard, asked, nothing))));
    back = λ _. inl refl;
  }

  -- a structure without a row that gives none
  pub noted_none : row c s.tag ≡ None → ((is_standard_tag s.tag ≡ true) × (c ≢ Unchecked) → ⊥) → IsNoted c so_far n before all
  noted_none nothing never = record {
    there = λ h. noted.there (elim h [ inl old ↦ inl old | inr next ↦ inr (rw is (inr (inr next))) ]);
    back = λ h. elim (noted.back h) [ inl old ↦ inl old | inr here ↦ none_left (rw is at here) ];
  }
    where
      none_left : Unlisted c (tree s b n) → IsTrue so_far ⊎ Unlisted c n
      none_left (inl h) = absurd (never (h.0, h.1))
      none_left (inr (inl h)) = absurd (none_unchecked b (rw nothing at h))
      none_left (inr (inr h)) = inr h

-- no structure is left in the end
pub noted_all : (c : Context) (so_far : Bool) (left : Trees) (before : Bool) (all : Trees) → left ≡ none → IsNoted c so_far left before all → IsTrue so_far ↔ (IsTrue before ⊎ Unlisted c all)
noted_all c so_far left before all is noted = (
  λ h. noted.there (inl h),
  λ h. elim (noted.back h) [ inl old ↦ old | inr here ↦ absurd (rw is at here) ],
)

-- and none was met before the first
pub noted_alone : (c : Context) (noted : Bool) (all d : Trees) → all ≡ d → IsTrue noted ↔ (IsTrue false ⊎ Unlisted c all) → IsTrue noted ↔ Unlisted c d
noted_alone c noted all d same met = (
  λ told. elim (met.0 told) [ inl never ↦ cc | inr some ↦ subst (λ (t : Trees). Unlisted c t) same some ],
  λ some. met.1 (inr (subst (λ (t : Trees). Unlisted c t) (sym same) some)),
)
