-- The line of a structure is taken as its row asks, or without one.
use Rattle.std.proofs.Common.{◌≡◌, ℕ, zero, suc, ◌+◌, ◌<◌, ◌==◌, ◌&&◌, sym, ◌∙◌, ap, refl, arith, Bool, true, false, T, codes, bytes_eq, eqb→eq, List, [], ◌∷◌, ◌++◌, ◌≤◌, map, inl, inr, Some, None, get_or, slice_get, slice_set, replicate, length, subst}
use Rattle.std.specs.Prelude.{◌⊎◌, IsTrue}
use Rattle.std.specs.Bool.{OnTrue}
use Rattle.std.specs.Int.{bit_at}
use Rattle.std.proofs.lemmas.List.{get_or-set_same, get_or-set_other}
use Rattle.std.proofs.lemmas.List.{length-map}
use Rattle.ged_line.specs.Bytes.{Bytes}
use Rattle.ged_line.specs.Lines.{LineParts, Value}
use Rattle.ged_tree.specs.TreeFaults.{is_cont, is_trailer}
use Rattle.ged_schema.specs.declared.context.Context.{Context}
use Rattle.ged_schema.specs.declared.context.Context.TheVariants.{File, Unchecked}
use Rattle.ged_schema.specs.declared.line_walk.Open.{Open}
use Rattle.ged_schema.specs.declared.line_walk.LineWalk.{LineWalk}
use Rattle.ged_schema.specs.declared.rule.Rule.{Rule}
use Rattle.ged_schema.specs.Rows.{Row, as_row}
use Rattle.ged_schema.specs.Tables.{rows, row}
use Rattle.ged_schema.specs.inner.Marks.{AreMarkedAsNeeded}
use Rattle.ged_schema.specs.inner.LineWalks.{open_at, IsClosed, IsFirst, HasWalked, Walks, Takes, opens, Opens, OpensListed, OpensUnlisted}
use Rattle.ged_schema.proofs.Numbers.{row_found, rule_stands}
use Rattle.ged_schema.proofs.Runs.{IsOnlyNumber}
use Rattle.ged_schema.proofs.Marking.{true_on}

some_is : {X : Type 0} (x y : X) → Some x ≡ Some y → x ≡ y
some_is x y e = cc

abbrev unopened : Open
unopened = record { context = Unchecked; marks = 0 }

-- the row of a tag has the tag
row_tag : (c : Context) (tag : Bytes) (r : Row) → row c tag ≡ Some r → r.tag ≡ tag
unfolding row
row_tag c tag r some = (row_found (rows c) tag r some).same

module _ (c : Context) (line : LineParts) (old new : LineWalk) (here : (open_at old line.level).context ≡ c) (closed : IsClosed old (line.level + 1)) where
  -- a structure whose row has this number
  pub opens_listed : (k : ℕ) (r : Row) → slice_get (rows c) k ≡ Some r → row c line.tag ≡ Some r → r.tag ≡ line.tag → IsOnlyNumber (rows c) line.tag (Some k)
      → OpensListed r k line.level line.value old new → Opens c line.level line old new
  opens_listed k r at some same only opened = record {
    closed = closed;
    others = opened.others;
    here = opened.here ∙ here;
    marked = λ i q stands. (
      (λ tags. let number : k ≡ i = some_is k i (only i q stands tags) in
          let rows_same : r ≡ q = some_is r q (sym at ∙ ap (slice_get (rows c)) number ∙ stands) in (
            subst (λ (n : ℕ). bit_at (open_at new line.level).marks n ≡ 1) number opened.marked.0,
            subst (λ (x : Row). (x.most ≡ None) ⊎ (bit_at (open_at old line.level).marks i ≡ 0)) rows_same
                (subst (λ (n : ℕ). (r.most ≡ None) ⊎ (bit_at (open_at old line.level).marks n ≡ 0)) number opened.free),
          )),
      (λ other. opened.marked.1 i (λ number.
          let rows_same : q ≡ r = some_is q r (sym stands ∙ ap (slice_get (rows c)) number ∙ at) in
          other (ap (λ (x : Row). x.tag) rows_same ∙ same))),
    );
    below = rw some opened.below;
    fits = rw some opened.fits;
    goes_on = rw some opened.goes_on;
    noted = (λ told. inl (sym opened.noted ∙ told), λ h. elim h [ inl told ↦ opened.noted ∙ told | inr never ↦ absurd (some_none (sym some ∙ never.2)) ]);
  }
    where
      some_none : Some r ≡ None → ⊥
      some_none e = cc

  -- the same, told by the rule that stands for the row
  pub opens_by_rule : (tag : Bytes) → tag ≡ line.tag → (rules : List Rule) → map as_row rules ≡ rows c → (k : ℕ) → k < length (rows c) → slice_get (rows c) k ≡ row c tag
      → ((i : ℕ) (r : Row) → slice_get (rows c) i ≡ Some r → r.tag ≡ tag → Some k ≡ Some i) → (o : Rule) (level : ℕ) → level ≡ line.level → (value : Value) → value ≡ line.value
      → (taken : Bool) → OnTrue taken (OpensListed (as_row (get_or rules k o)) k level value old new) → OnTrue taken (Opens c line.level line old new)
  opens_by_rule tag tags rules seen k within found only o level levels value values taken opened =
      let long : length (rows c) ≡ length rules = ap length (sym seen) ∙ length-map rules as_row in
      let at : slice_get (rows c) k ≡ Some (as_row (get_or rules k o)) = rule_stands rules (rows c) k o seen (omega (arith, long, within)) in
      let some : row c line.tag ≡ Some (as_row (get_or rules k o)) = ap (row c) (sym tags) ∙ sym found ∙ at in
      true_on taken opened (λ listed. opens_listed k (as_row (get_or rules k o)) at some (row_tag c line.tag (as_row (get_or rules k o)) some)
      (λ i r stands same. only i r stands (same ∙ sym tags))
      (subst (λ (v : Value). OpensListed (as_row (get_or rules k o)) k line.level v old new) values
      (subst (λ (n : ℕ). OpensListed (as_row (get_or rules k o)) k n value old new) levels listed)))

  -- a structure without a row
  pub opens_unlisted : row c line.tag ≡ None → IsOnlyNumber (rows c) line.tag None → OpensUnlisted c line.level line.tag old new → Opens c line.level line old new
  opens_unlisted nothing only opened = record {
    closed = closed;
    others = λ other not_here not_below. opened.others other not_below;
    here = ap (λ (o : Open). o.context) same_here ∙ here;
    marked = λ i q stands. (
      (λ tags. let never : None ≡ Some i = only i q stands tags in cc),
      (λ other. ap (λ (o : Open). bit_at o.marks i) same_here),
    );
    below = rw nothing opened.below;
    fits = rw nothing tt;
    goes_on = rw nothing opened.goes_on;
    noted = (
      λ told. elim (opened.noted.0 told) [ inl before ↦ inl before | inr here ↦ inr (here.0, here.1, nothing) ],
      λ h. opened.noted.1 (elim h [ inl before ↦ inl before | inr here ↦ inr (here.0, here.1) ]),
    );
  }
    where
      same_here : open_at new line.level ≡ open_at old line.level
      same_here = opened.others line.level (λ e. absurd (omega (arith, e)))

  -- the same, where context, level and tag are told by equations
  pub opens_without_row : (context : Context) → context ≡ c → (level : ℕ) → level ≡ line.level → (tag : Bytes) → tag ≡ line.tag → row context tag ≡ None
      → ((i : ℕ) (r : Row) → slice_get (rows context) i ≡ Some r → r.tag ≡ tag → None ≡ Some i) → OpensUnlisted context level tag old new → Opens c line.level line old new
  opens_without_row context same level levels tag tags nothing only opened = opens_unlisted
      (ap (row c) (sym tags) ∙ ap (λ (x : Context). row x tag) (sym same) ∙ nothing)
      (λ i r stands named. only i r (ap (λ (x : Context). slice_get (rows x) i) same ∙ stands) (named ∙ sym tags))
      (subst (λ (x : Context). OpensUnlisted x line.level line.tag old new) same
      (subst (λ (n : ℕ). OpensUnlisted context n line.tag old new) levels (subst (λ (t : Bytes). OpensUnlisted context level t old new) tags opened)))

-- nothing stands open but the file
pub first_opened : (walk : LineWalk) → walk.open ≡ slice_set (replicate 101 unopened) 0 (record { context = File; marks = 0 }) → walk.noted ≡ false → IsFirst walk
first_opened walk is unnoted = record {
  file = rw is (get_or-set_same (replicate 101 unopened) 0 (record { context = File; marks = 0 }) unopened (omega arith));
  nothing = λ level other. rw is (get_or-set_other (replicate 101 unopened) 0 level (record { context = File; marks = 0 }) unopened other ∙ nothing_there 101 level);
  noted = unnoted;
}
  where
    nothing_there : (n level : ℕ) → get_or (replicate n unopened) level unopened ≡ unopened
    nothing_there zero level = refl
    nothing_there (suc n) zero = refl
    nothing_there (suc n) (suc level) = nothing_there n level

within_or_past : (n end : ℕ) → (n < end) ⊎ (end ≤ n)
within_or_past n zero = inr (omega arith)
within_or_past zero (suc end) = inl (omega arith)
within_or_past (suc n) (suc end) = elim (within_or_past n end) [ inl within ↦ inl (omega (arith, within)) | inr past ↦ inr (omega (arith, past)) ]

-- one level more is closed
pub closed_up_to : (walk : LineWalk) (end : ℕ) → ((level : ℕ) → level < end → IsClosed walk level) → IsClosed walk end → (level : ℕ) → level < end + 1 → IsClosed walk level
closed_up_to walk end each here level within = elim (within_or_past level end) [
  | inl before ↦ each level before
  | inr last ↦ (let same : end ≡ level = omega (arith, within, last) in subst (λ (n : ℕ). IsClosed walk n) same here)
]

-- what stands open at each level that there is, is closed, and so is what stands open at any other
pub closed_everywhere : (walk : LineWalk) → length walk.open ≡ 101 → ((level : ℕ) → level < 101 → IsClosed walk level) → (level : ℕ) → IsClosed walk level
unfolding rows
closed_everywhere walk long each level = elim (within_or_past level 101) [
  | inl within ↦ each level within
  | inr past ↦ subst (λ (o : Open). AreMarkedAsNeeded (rows o.context) o.marks) (sym (past_end walk.open level (omega (arith, long, past)))) (0, refl, λ number. omega arith)
]
  where
    past_end : (all : List Open) (level : ℕ) → length all ≤ level → get_or all level unopened ≡ unopened
    past_end [] level past = refl
    past_end (o ∷ all) zero past = absurd (omega (arith, past))
    past_end (o ∷ all) (suc level) past = past_end all level (omega (arith, past))

-- so no line has been read
pub no_line_walked : (walk : LineWalk) → walk.open ≡ slice_set (replicate 101 unopened) 0 (record { context = File; marks = 0 }) → walk.noted ≡ false → HasWalked walk []
no_line_walked walk is unnoted held = (walk, first_opened walk is unnoted, refl)

-- one line more at the end
pub walks_on : (line : LineParts) (lines : List LineParts) (first old new : LineWalk) → Walks first lines old → Takes line old new → Walks first (lines ++ line ∷ []) new
walks_on line [] first old new walked takes = (new, subst (λ (w : LineWalk). Takes line w new) walked takes, refl)
walks_on line (next ∷ lines) first old new (walk, one, rest) takes = (walk, one, walks_on line lines walk old new rest takes)

pub has_walked_on : (line : LineParts) (lines : List LineParts) (old new : LineWalk) → IsTrue old.holds → HasWalked old lines → Takes line old new → HasWalked new (lines ++ line ∷ [])
has_walked_on line lines old new held walked takes _ = let (first, is_first, walks) = walked held in (first, is_first, walks_on line lines first old new walks takes)

-- what a structure's line opens is the same, whatever is kept beside it
opened_beside : (context : Context) (line : LineParts) (old new : LineWalk) (holds : Bool) → Opens context line.level line old new
    → Opens context line.level line old (record new { holds = holds })
opened_beside context line old new holds opened = record {
  closed = opened.closed;
  others = opened.others;
  here = opened.here;
  marked = opened.marked;
  below = opened.below;
  fits = opened.fits;
  goes_on = opened.goes_on;
  noted = opened.noted;
}

-- a line below level 0 that is no CONT is a structure's
pub takes_below : (line : LineParts) (old new : LineWalk) (holds : Bool) → 0 < line.level → is_cont line ≡ false → Opens (open_at old line.level).context line.level line old new
    → Takes line old (record new { holds = holds })
takes_below line old new holds below no_cont opened = opens no_cont (no_trailer (line.level == 0) refl) (opened_beside (open_at old line.level).context line old new holds opened)
  where
    no_trailer : (b : Bool) → (line.level == 0) ≡ b → is_trailer line ≡ false
    no_trailer true is = (let top : line.level ≡ 0 = eqb→eq line.level 0 (subst T (sym is) tt) in absurd (omega (arith, top, below)))
    no_trailer false is = ap (λ (b : Bool). b && bytes_eq line.tag (codes "TRLR")) is
