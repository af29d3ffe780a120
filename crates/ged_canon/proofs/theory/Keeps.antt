-- A step keeps a document resolved, and checked.
use Rattle.std.proofs.Common.{◌≡◌, ◌≢◌, ℕ, ◌+◌, ◌≤◌, cond, List, [], ◌∷◌, map, Option, Some, None, refl, sym, ap, ◌∙◌, subst, inl, inr, ⊎_elim, arith}
use Rattle.std.specs.Prelude.{bytes_eq, IfSome}
use Rattle.std.specs.List.{AllByRecursion}
use Rattle.ged_line.specs.Bytes.{Bytes}
use Rattle.ged_tree.specs.declared.payload.Payload.{Payload}
use Rattle.ged_tree.specs.declared.payload.Payload.TheVariants.{Void, Pointer, Text}
use Rattle.ged_tree.specs.Trees.{Trees, none, tree}
use Rattle.ged_link.specs.Links.{SomeTree, IsAmong, AreDistinct, xrefs, IsNamed, Resolved}
use Rattle.ged_link.specs.inner.Identifiers.{with_xref, Names}
use Rattle.ged_value.specs.declared.kind.Kind.{Kind}
use Rattle.ged_schema.specs.declared.context.Context.{Context}
use Rattle.ged_schema.specs.declared.context.Context.TheVariants.{File}
use Rattle.ged_schema.specs.Rows.{Row}
use Rattle.ged_schema.specs.Tables.{rows, row, context_below}
use Rattle.ged_schema.specs.Payloads.{IsOfKind}
use Rattle.ged_value.specs.Kinds.{target}
use Rattle.ged_schema.specs.Checked.{PointsRight, count_of, CountsRight, MeetsRow, AreChecked, Checked}
use Rattle.ged_schema.specs.inner.Lookups.{IsRecordNamed}
use Rattle.ged_canon.specs.declared.edition.Edition.{Edition}
use Rattle.ged_canon.specs.Steps.{Respelt, respelt, Change, exchange, leave_out, put_in, Somewhere, here, under, later, new_name, renamed_payload, renamed, Renamed, Gains, gains, after, GainsIdentifier, Move, change, rename, gain, lose, Step}
use Rattle.ged_canon.specs.inner.StepParts.{renamed_xref}
use Rattle.ged_canon.proofs.theory.Fixed.{is_named-true}
use Rattle.ged_canon.proofs.theory.Moves.{somewhere_names}
use Rattle.ged_canon.proofs.theory.Bare.{BareBelow, document_bare}
use Rattle.ged_canon.proofs.theory.Used.{has_xref, xref_among, is_named-from, none_some, some_some}
use Rattle.ged_canon.proofs.theory.Renaming.{xrefs_renamed, gained_names}
use Rattle.ged_canon.proofs.theory.Numbering.{Apart, apart, distinct, gains_cases, gains_among, lost_distinct}
use Rattle.ged_canon.proofs.theory.Undone.{somewhere_back, names_was, new_xrefs}

-- The identifiers and tags of trees side by side.

module _ (edition : Edition) (Q : Option Bytes → Bytes → Type 0) where
  change_some : (context : Context) (xs ys : Trees) → Change edition context xs ys → SomeTree (λ s b. Q s.xref s.tag) xs → SomeTree (λ s b. Q s.xref s.tag) ys
  change_some context _ _ (exchange s t b c next ne) (inl h) = inr (inl h)
  change_some context _ _ (exchange s t b c next ne) (inr (inl h)) = inl h
  change_some context _ _ (exchange s t b c next ne) (inr (inr h)) = inr (inr h)
  change_some context _ _ (leave_out s p q b next k) h = h
  change_some context _ _ (put_in s p q b next k) h = h

  pub somewhere_some : (context : Context) (xs ys : Trees) → Somewhere (Change edition) context xs ys → SomeTree (λ s b. Q s.xref s.tag) xs → SomeTree (λ s b. Q s.xref s.tag) ys
  somewhere_some context xs ys (here k) h = change_some context xs ys k h
  somewhere_some context _ _ (under s next k) h = h
  somewhere_some context _ _ (later {t = t} {u = u} s below k) h = let rest = somewhere_some context t u k in ⊎_elim (λ p. inl p) (λ q. inr (rest q)) h

abbrev HasName : Bytes → Option Bytes → Bytes → Type 0
HasName name xref tag = xref ≡ Some name

change_apart : (edition : Edition) (context : Context) (xs ys : Trees) → Change edition context xs ys → Apart xs → Apart ys
change_apart edition context _ _ (exchange s t b c next ne) h = ((λ name e k. ⊎_elim (λ p. h.0 name p (inl e)) (λ q. h.1.0 name e q) k), ((λ name e k. h.0 name e (inr k)), h.1.1))
change_apart edition context _ _ (leave_out s p q b next k) h = h
change_apart edition context _ _ (put_in s p q b next k) h = h

somewhere_apart : (edition : Edition) (context : Context) (xs ys : Trees) → Somewhere (Change edition) context xs ys → Apart xs → Apart ys
somewhere_apart edition context xs ys (here k) h = change_apart edition context xs ys k h
somewhere_apart edition context _ _ (under s next k) h = h
somewhere_apart edition context _ _ (later {t = t} {u = u} s below k) h = ((λ name e q. h.0 name e (somewhere_some edition (HasName name) context u t (somewhere_back edition context t u k) q)), somewhere_apart edition context t u k h.1)

-- Resolved.

change_resolved : (edition : Edition) (d e : Trees) → Somewhere (Change edition) File d e → Resolved d → Resolved e
change_resolved edition d e h r = record {
  distinct = distinct e (somewhere_apart edition File d e h (apart d r.distinct));
  found = λ name k.
      let n = is_named-from d name (somewhere_names edition File d e h name ∙ is_named-true e name k) in
      xref_among e name (somewhere_some edition (HasName name) File d e h (has_xref d name (r.found name n)));
}

among_map_to : (f : Bytes → Bytes) (ns : List Bytes) (name : Bytes) → IsAmong name ns → IsAmong (f name) (map f ns)
among_map_to f [] name h = h
among_map_to f (n ∷ ns) name (inl e) = inl (ap f e)
among_map_to f (n ∷ ns) name (inr h) = inr (among_map_to f ns name h)

rename_resolved : (d e : Trees) → BareBelow d → Renamed d e → Resolved d → Resolved e
rename_resolved d e bare h r = record {
  distinct = subst AreDistinct (sym (new_xrefs d e bare h)) h.news_distinct;
  found = λ name k.
      let o = names_was (new_name h.pairs) name d (subst (λ x. IsNamed x name) h.all_at_once k) in
      subst (λ x. IsAmong name (xrefs x)) (sym h.all_at_once) (subst (IsAmong name) (sym (xrefs_renamed (new_name h.pairs) d)) (subst (λ n. IsAmong n (map (new_name h.pairs) (xrefs d))) (sym o.2) (among_map_to (new_name h.pairs) (xrefs d) o.0 (r.found o.0 o.1))));
}

-- a new name that no record has keeps the identifiers distinct
gained_distinct : (name : Bytes) (xs ys : Trees) → Gains name xs ys → (IsAmong name (xrefs xs) → ⊥) → AreDistinct (xrefs xs) → AreDistinct (xrefs ys)
gained_distinct name _ _ (gains s below next) free d = (free, d)
gained_distinct name _ _ (after {t = t} {u = u} s below h) free d = by s.xref (gained_distinct name t u h) free d
  where
    by : (x : Option Bytes) → ((IsAmong name (xrefs t) → ⊥) → AreDistinct (xrefs t) → AreDistinct (xrefs u)) → (IsAmong name (with_xref x (xrefs t)) → ⊥) → AreDistinct (with_xref x (xrefs t)) → AreDistinct (with_xref x (xrefs u))
    by None f n e = f n e
    by (Some first) f n e = ((λ q. ⊎_elim (λ p. n (inl (sym p))) (λ p. e.0 p) (gains_cases name first t u h q)), f (λ q. n (inr q)) e.1)

same_names : (name target : Bytes) (xs ys : Trees) → Gains name xs ys → (IsNamed xs target → IsNamed ys target) × (IsNamed ys target → IsNamed xs target)
same_names name target xs ys h = ((λ k. is_named-from ys target (sym (gained_names name target xs ys h) ∙ is_named-true xs target k)), (λ k. is_named-from xs target (gained_names name target xs ys h ∙ is_named-true ys target k)))

gain_resolved : (d e : Trees) → GainsIdentifier d e → Resolved d → Resolved e
gain_resolved d e h r = record {
  distinct = gained_distinct h.name d e h.gained h.no_record_has_it r.distinct;
  found = λ name k. gains_among h.name name d e h.gained (r.found name ((same_names h.name name d e h.gained).1 k));
}

lose_resolved : (d e : Trees) → GainsIdentifier e d → Resolved d → Resolved e
lose_resolved d e h r = record {
  distinct = lost_distinct h.name e d h.gained r.distinct;
  found = λ name k. ⊎_elim (λ p. absurd (h.no_pointer_names_it (subst (IsNamed e) p k))) (λ q. q) (gains_cases h.name name e d h.gained (r.found name ((same_names h.name name e d h.gained).0 k)));
}

pub step_resolved : (edition : Edition) (d e : Trees) → Step edition d e → Resolved d → Resolved e
step_resolved edition d e h = by h.move
  where
    by : Move edition d e → Resolved d → Resolved e
    by (change k) = change_resolved edition d e k
    by (rename k) = rename_resolved d e (document_bare d h.from) k
    by (gain k) = gain_resolved d e k
    by (lose k) = lose_resolved d e k

-- Checked, against one document.

counts_kept : (below below' : Trees) → ((tag : Bytes) → count_of tag below ≡ count_of tag below') → (rs : List Row) → AllByRecursion (CountsRight below) rs → AllByRecursion (CountsRight below') rs
counts_kept below below' e [] h = tt
counts_kept below below' e (r ∷ rs) h = ((subst (λ n. r.least ≤ n) (e r.tag) h.0.0, subst (λ n. IfSome r.most (λ most. n ≤ most)) (e r.tag) h.0.1), counts_kept below below' e rs h.1)

row_kept : (d : Trees) (r : Option Row) (p : Payload) (below below' : Trees) → ((tag : Bytes) → count_of tag below ≡ count_of tag below') → MeetsRow d r p below → MeetsRow d r p below'
row_kept d None p below below' e h = tt
row_kept d (Some r) p below below' e h = (h.0, h.1, counts_kept below below' e (rows r.below) h.2)

text_right : (d : Trees) (t : Option Bytes) (lines : List Bytes) → PointsRight d t (Text lines)
text_right d None lines = tt
text_right d (Some tag) lines = tt

respelt_row : (edition : Edition) (d : Trees) (r : Option Row) (p q : Payload) (below : Trees) → Respelt edition r p q → (MeetsRow d r p below → MeetsRow d r q below) × (MeetsRow d r q below → MeetsRow d r p below)
respelt_row edition d None p q below h = ((λ k. tt), (λ k. tt))
respelt_row edition d (Some r) _ _ below (respelt longer shorter out f g) = ((λ k. (g, text_right d (target r.kind) (shorter ∷ []), k.2)), (λ k. (f, text_right d (target r.kind) (longer ∷ []), k.2)))

module _ (edition : Edition) (d : Trees) where
  record Keeps (context : Context) (xs ys : Trees) : Type 0 where
    checked : AreChecked d context xs → AreChecked d context ys
    counts : (tag : Bytes) → count_of tag xs ≡ count_of tag ys

  change_checked : (context : Context) (xs ys : Trees) → Change edition context xs ys → Keeps context xs ys
  change_checked context _ _ (exchange s t b c next ne) = record {
    checked = λ h. (h.2.0, h.2.1, (h.0, h.1, h.2.2));
    counts = λ tag. sums (cond (bytes_eq s.tag tag) 1 0) (cond (bytes_eq t.tag tag) 1 0) (count_of tag next);
  }
    where
      sums : (m n k : ℕ) → m + (n + k) ≡ n + (m + k)
      sums m n k = omega arith
  change_checked context _ _ (leave_out s p q b next k) = record { checked = λ h. ((respelt_row edition d (row context s.tag) p q b k).0 h.0, h.1, h.2); counts = λ tag. refl }
  change_checked context _ _ (put_in s p q b next k) = record { checked = λ h. ((respelt_row edition d (row context s.tag) p q b k).1 h.0, h.1, h.2); counts = λ tag. refl }

  somewhere_checked : (context : Context) (xs ys : Trees) → Somewhere (Change edition) context xs ys → Keeps context xs ys
  somewhere_checked context xs ys (here k) = change_checked context xs ys k
  somewhere_checked context _ _ (under {t = t} {u = u} s next k) =
      let m = somewhere_checked (context_below context s.tag) t u k in
      record { checked = λ h. (row_kept d (row context s.tag) s.payload t u m.counts h.0, m.checked h.1, h.2); counts = λ tag. refl }
  somewhere_checked context _ _ (later {t = t} {u = u} s below k) =
      let m = somewhere_checked context t u k in
      record { checked = λ h. (h.0, h.1, m.checked h.2); counts = λ tag. ap (λ n. cond (bytes_eq s.tag tag) 1 0 + n) (m.counts tag) }

-- Checked, against a document with the same records for the pointers.

abbrev Repoints : Trees → Trees → Bytes → Type 0
Repoints d e name = (tag : Bytes) → SomeTree (IsRecordNamed name tag) d → SomeTree (IsRecordNamed name tag) e

points_right : (d e : Trees) (t : Option Bytes) (p : Payload) → ((name : Bytes) → Names p name → Repoints d e name) → PointsRight d t p → PointsRight e t p
points_right d e None p f h = tt
points_right d e (Some tag) Void f h = tt
points_right d e (Some tag) (Pointer name) f h = f name refl tag h
points_right d e (Some tag) (Text lines) f h = tt

meets_other : (d e : Trees) (r : Option Row) (p : Payload) (below : Trees) → ((name : Bytes) → Names p name → Repoints d e name) → MeetsRow d r p below → MeetsRow e r p below
meets_other d e None p below f h = tt
meets_other d e (Some r) p below f h = (h.0, points_right d e (target r.kind) p f h.1, h.2)

other_checked : (d e : Trees) (context : Context) (xs : Trees) → ((name : Bytes) → IsNamed xs name → Repoints d e name) → AreChecked d context xs → AreChecked e context xs
other_checked d e context none f h = tt
other_checked d e context (tree s below next) f h = (
  meets_other d e (row context s.tag) s.payload below (λ name k. f name (inl k)) h.0,
  other_checked d e (context_below context s.tag) below (λ name k. f name (inr (inl k))) h.1,
  other_checked d e context next (λ name k. f name (inr (inr k))) h.2,
)

abbrev IsRecordOf : Bytes → Bytes → Option Bytes → Bytes → Type 0
IsRecordOf name tag xref own = (xref ≡ Some name) × (own ≡ tag)

change_keeps_checked : (edition : Edition) (d e : Trees) → Somewhere (Change edition) File d e → Checked d → Checked e
change_keeps_checked edition d e h k = other_checked d e File e (λ name q tag. somewhere_some edition (IsRecordOf name tag) File d e h) ((somewhere_checked edition d File d e h).checked k)

-- A name gained or lost.

gained_checked : (name : Bytes) (d : Trees) (context : Context) (xs ys : Trees) → Gains name xs ys → (AreChecked d context xs → AreChecked d context ys) × (AreChecked d context ys → AreChecked d context xs)
gained_checked name d context _ _ (gains s below next) = ((λ h. h), (λ h. h))
gained_checked name d context _ _ (after {t = t} {u = u} s below g) = let k = gained_checked name d context t u g in ((λ h. (h.0, h.1, k.0 h.2)), (λ h. (h.0, h.1, k.1 h.2)))

gained_record : (name other tag : Bytes) (xs ys : Trees) → Gains name xs ys → SomeTree (IsRecordNamed other tag) xs → SomeTree (IsRecordNamed other tag) ys
gained_record name other tag _ _ (gains s below next) h = ⊎_elim (λ p. absurd (none_some other p.0)) (λ q. inr q) h
gained_record name other tag _ _ (after {t = t} {u = u} s below g) h = let rest = gained_record name other tag t u g in ⊎_elim (λ p. inl p) (λ q. inr (rest q)) h

lost_record : (name other tag : Bytes) (xs ys : Trees) → (name ≢ other) → Gains name xs ys → SomeTree (IsRecordNamed other tag) ys → SomeTree (IsRecordNamed other tag) xs
lost_record name other tag _ _ ne (gains s below next) h = ⊎_elim (λ p. absurd (ne (some_some name other p.0))) (λ q. inr q) h
lost_record name other tag _ _ ne (after {t = t} {u = u} s below g) h = let rest = lost_record name other tag t u ne g in ⊎_elim (λ p. inl p) (λ q. inr (rest q)) h

gain_checked : (d e : Trees) → GainsIdentifier d e → Checked d → Checked e
gain_checked d e h k = other_checked d e File e (λ name q tag. gained_record h.name name tag d e h.gained) ((gained_checked h.name d File d e h.gained).0 k)

lose_checked : (d e : Trees) → GainsIdentifier e d → Checked d → Checked e
lose_checked d e h k = other_checked d e File e (λ name q tag. lost_record h.name name tag e d (λ x. h.no_pointer_names_it (subst (IsNamed e) (sym x) q)) h.gained) ((gained_checked h.name d File e d h.gained).1 k)

-- Renaming.

module _ (f : Bytes → Bytes) (d : Trees) where
  record_renamed : (name tag : Bytes) (xs : Trees) → SomeTree (IsRecordNamed name tag) xs → SomeTree (IsRecordNamed (f name) tag) (renamed f xs)
  record_renamed name tag none h = h
  record_renamed name tag (tree s below next) (inl h) = inl (ap (renamed_xref f) h.0, h.1)
  record_renamed name tag (tree s below next) (inr h) = inr (record_renamed name tag next h)

  right_renamed : (t : Option Bytes) (p : Payload) → PointsRight d t p → PointsRight (renamed f d) t (renamed_payload f p)
  right_renamed None p h = tt
  right_renamed (Some tag) Void h = tt
  right_renamed (Some tag) (Pointer name) h = record_renamed name tag d h
  right_renamed (Some tag) (Text lines) h = tt

  kind_renamed : (kind : Kind) (p : Payload) → IsOfKind kind p → IsOfKind kind (renamed_payload f p)
  kind_renamed kind Void h = h
  kind_renamed kind (Pointer name) h = h
  kind_renamed kind (Text lines) h = h

  counts_renamed : (xs : Trees) (tag : Bytes) → count_of tag xs ≡ count_of tag (renamed f xs)
  counts_renamed none tag = refl
  counts_renamed (tree s below next) tag = ap (λ n. cond (bytes_eq s.tag tag) 1 0 + n) (counts_renamed next tag)

  row_renamed : (r : Option Row) (p : Payload) (below : Trees) → MeetsRow d r p below → MeetsRow (renamed f d) r (renamed_payload f p) (renamed f below)
  row_renamed None p below h = tt
  row_renamed (Some r) p below h = (kind_renamed r.kind p h.0, right_renamed (target r.kind) p h.1, counts_kept below (renamed f below) (counts_renamed below) (rows r.below) h.2)

  pub renamed_checked : (context : Context) (xs : Trees) → AreChecked d context xs → AreChecked (renamed f d) context (renamed f xs)
  renamed_checked context none h = tt
  renamed_checked context (tree s below next) h = (row_renamed (row context s.tag) s.payload below h.0, renamed_checked (context_below context s.tag) below h.1, renamed_checked context next h.2)

pub step_checked : (edition : Edition) (d e : Trees) → Step edition d e → Checked d → Checked e
step_checked edition d e h = by h.move
  where
    by : Move edition d e → Checked d → Checked e
    by (change k) = change_keeps_checked edition d e k
    by (rename k) = λ c. subst Checked (sym k.all_at_once) (renamed_checked (new_name k.pairs) d File d c)
    by (gain k) = gain_checked d e k
    by (lose k) = lose_checked d e k
