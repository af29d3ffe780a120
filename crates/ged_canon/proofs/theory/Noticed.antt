-- A step keeps what gives notices.
use Rattle.std.proofs.Common.{◌≡◌, ◌≢◌, List, [], ◌∷◌, Option, Some, None, refl, sym, ap, ◌∙◌, subst, inl, inr, ⊎_elim}
use Rattle.ged_line.specs.Bytes.{Bytes}
use Rattle.ged_tree.specs.declared.payload.Payload.{Payload}
use Rattle.ged_tree.specs.declared.payload.Payload.TheVariants.{Void, Pointer, Text}
use Rattle.ged_tree.specs.Trees.{Structure, Trees, none, tree}
use Rattle.ged_link.specs.Links.{SomeTree, IsAmong, xrefs, IsNamed}
use Rattle.ged_link.specs.inner.Identifiers.{Names, PointsBack}
use Rattle.ged_link.specs.Notices.{Link, links, IsUnanswered, IsOneWay, OneWay}
use Rattle.ged_schema.specs.declared.context.Context.{Context}
use Rattle.ged_schema.specs.declared.context.Context.TheVariants.{File}
use Rattle.ged_schema.specs.Rows.{Row}
use Rattle.ged_schema.specs.Tables.{row, context_below}
use Rattle.ged_schema.specs.Unlisted.{Unlisted}
use Rattle.ged_canon.specs.declared.edition.Edition.{Edition}
use Rattle.ged_canon.specs.Steps.{Respelt, respelt, Change, exchange, leave_out, put_in, Somewhere, here, under, later, new_name, renamed_payload, renamed, Gains, gains, after, GainsIdentifier, Move, change, rename, gain, lose, Step}
use Rattle.ged_canon.specs.inner.StepParts.{with_payload, renamed_structure, renamed_xref}
use Rattle.ged_schema.specs.Profiles.{NoNotice}
use Rattle.ged_canon.proofs.theory.Fixed.{with_others}
use Rattle.ged_canon.proofs.theory.Used.{none_some, some_some, with_xref_here}
use Rattle.ged_canon.proofs.theory.Renaming.{keeps_apart}
use Rattle.ged_canon.proofs.theory.Undone.{somewhere_back, step_back}

-- Unlisted tags.

unlisted_change : (edition : Edition) (context : Context) (xs ys : Trees) → Change edition context xs ys → Unlisted context xs → Unlisted context ys
unlisted_change edition context _ _ (exchange s t b c next ne) (inl h) = inr (inr (inl h))
unlisted_change edition context _ _ (exchange s t b c next ne) (inr (inl h)) = inr (inr (inr (inl h)))
unlisted_change edition context _ _ (exchange s t b c next ne) (inr (inr (inl h))) = inl h
unlisted_change edition context _ _ (exchange s t b c next ne) (inr (inr (inr (inl h)))) = inr (inl h)
unlisted_change edition context _ _ (exchange s t b c next ne) (inr (inr (inr (inr h)))) = inr (inr (inr (inr h)))
unlisted_change edition context _ _ (leave_out s p q b next k) h = h
unlisted_change edition context _ _ (put_in s p q b next k) h = h

unlisted_somewhere : (edition : Edition) (context : Context) (xs ys : Trees) → Somewhere (Change edition) context xs ys → Unlisted context xs → Unlisted context ys
unlisted_somewhere edition context xs ys (here k) h = unlisted_change edition context xs ys k h
unlisted_somewhere edition context _ _ (under {t = t} {u = u} s next k) h = let rest = unlisted_somewhere edition (context_below context s.tag) t u k in ⊎_elim (λ p. inl p) (λ q. inr (⊎_elim (λ b. inl (rest b)) (λ r. inr r) q)) h
unlisted_somewhere edition context _ _ (later {t = t} {u = u} s below k) h = let rest = unlisted_somewhere edition context t u k in ⊎_elim (λ p. inl p) (λ q. inr (⊎_elim (λ b. inl b) (λ r. inr (rest r)) q)) h

unlisted_renamed : (f : Bytes → Bytes) (context : Context) (xs : Trees) → Unlisted context xs → Unlisted context (renamed f xs)
unlisted_renamed f context none h = h
unlisted_renamed f context (tree s below next) (inl h) = inl h
unlisted_renamed f context (tree s below next) (inr (inl h)) = inr (inl (unlisted_renamed f (context_below context s.tag) below h))
unlisted_renamed f context (tree s below next) (inr (inr h)) = inr (inr (unlisted_renamed f context next h))

unlisted_gained : (name : Bytes) (context : Context) (xs ys : Trees) → Gains name xs ys → (Unlisted context xs → Unlisted context ys) × (Unlisted context ys → Unlisted context xs)
unlisted_gained name context _ _ (gains s below next) = ((λ h. h), (λ h. h))
unlisted_gained name context _ _ (after {t = t} {u = u} s below g) = let k = unlisted_gained name context t u g in
    ((λ h. ⊎_elim (λ p. inl p) (λ q. inr (⊎_elim (λ b. inl b) (λ r. inr (k.0 r)) q)) h), (λ h. ⊎_elim (λ p. inl p) (λ q. inr (⊎_elim (λ b. inl b) (λ r. inr (k.1 r)) q)) h))

pub step_unlisted : (edition : Edition) (d e : Trees) → Step edition d e → Unlisted File d → Unlisted File e
step_unlisted edition d e h = by h.move
  where
    by : Move edition d e → Unlisted File d → Unlisted File e
    by (change k) = unlisted_somewhere edition File d e k
    by (rename k) = λ u. subst (Unlisted File) (sym k.all_at_once) (unlisted_renamed (new_name k.pairs) File d u)
    by (gain k) = (unlisted_gained k.name File d e k.gained).0
    by (lose k) = (unlisted_gained k.name File e d k.gained).1

-- Links: a change at one place.

text_no_pointer : (edition : Edition) (r : Option Row) (p q : Payload) → Respelt edition r p q → (name : Bytes) → ((p ≡ Pointer name → ⊥) × (q ≡ Pointer name → ⊥))
text_no_pointer edition r _ _ (respelt longer shorter out f g) name = ((λ e. differ (longer ∷ []) e), (λ e. differ (shorter ∷ []) e))
  where
    differ : (lines : List Bytes) → Text lines ≡ Pointer name → ⊥
    differ lines e = cc

-- what is said of a tree that a respelling and a change below it leave as it is
pub record Steady (edition : Edition) (P : Structure → Trees → Type 0) : Type 0 where
  pub payloads : (context : Context) (s : Structure) (p q : Payload) (b : Trees) → Respelt edition (row context s.tag) p q → (P (with_payload s p) b → P (with_payload s q) b) × (P (with_payload s q) b → P (with_payload s p) b)
  pub deeper : (context : Context) (s : Structure) (t u : Trees) → Somewhere (Change edition) context t u → P s t → P s u

module _ (edition : Edition) (P : Structure → Trees → Type 0) (steady : Steady edition P) where
  steady_change : (context : Context) (xs ys : Trees) → Change edition context xs ys → SomeTree P xs → SomeTree P ys
  steady_change context _ _ (exchange s t b c next ne) (inl h) = inr (inl h)
  steady_change context _ _ (exchange s t b c next ne) (inr (inl h)) = inl h
  steady_change context _ _ (exchange s t b c next ne) (inr (inr h)) = inr (inr h)
  steady_change context _ _ (leave_out s p q b next k) h = ⊎_elim (λ x. inl ((steady.payloads context s p q b k).0 x)) (λ x. inr x) h
  steady_change context _ _ (put_in s p q b next k) h = ⊎_elim (λ x. inl ((steady.payloads context s p q b k).1 x)) (λ x. inr x) h

  pub steady_somewhere : (context : Context) (xs ys : Trees) → Somewhere (Change edition) context xs ys → SomeTree P xs → SomeTree P ys
  steady_somewhere context xs ys (here k) h = steady_change context xs ys k h
  steady_somewhere context _ _ (under {t = t} {u = u} s next k) h = ⊎_elim (λ x. inl (steady.deeper (context_below context s.tag) s t u k x)) (λ x. inr x) h
  steady_somewhere context _ _ (later {t = t} {u = u} s below k) h = let rest = steady_somewhere context t u k in ⊎_elim (λ x. inl x) (λ x. inr (rest x)) h

steady_back : (edition : Edition) (x : Option Bytes) (answers : List Bytes) → Steady edition (PointsBack x answers)
steady_back edition x answers = record {
  payloads = λ context s p q b k. ((λ h. absurd ((text_no_pointer edition (row context s.tag) p q k h.1).0 h.3)), (λ h. absurd ((text_no_pointer edition (row context s.tag) p q k h.1).1 h.3)));
  deeper = λ context s t u k h. h;
}

steady_unanswered : (edition : Edition) (name : Bytes) (x : Option Bytes) (link : Link) → Steady edition (IsUnanswered name x link)
steady_unanswered edition name x link = record {
  payloads = λ context s p q b k. ((λ h. h), (λ h. h));
  deeper = λ context s t u k h. (h.0, h.1, (λ z. h.2 (steady_somewhere edition (PointsBack x link.answers) (steady_back edition x link.answers) context u t (somewhere_back edition context t u k) z)));
}

abbrev Goes : Trees → Bytes → Option Bytes → Structure → Link → Type 0
Goes d at x s link = (link.at ≡ at) × (link.tag ≡ s.tag) × (name : Bytes) × (s.payload ≡ Pointer name) × SomeTree (IsUnanswered name x link) d

some_in : {A : Type 0} (P Q : A → Type 0) (xs : List A) → ((a : A) → P a → Q a) → (a : A) × IsAmong a xs × P a → (a : A) × IsAmong a xs × Q a
some_in P Q xs f h = (h.0, h.1, f h.0 h.2)

no_goes : (edition : Edition) (d : Trees) (at : Bytes) (x : Option Bytes) (s : Structure) (ls : List Link) → ((name : Bytes) → s.payload ≡ Pointer name → ⊥) → (link : Link) × IsAmong link ls × Goes d at x s link → ⊥
no_goes edition d at x s ls f h = f h.2.2 h.2.3

steady_one_way : (edition : Edition) (d : Trees) (at : Bytes) (x : Option Bytes) → Steady edition (IsOneWay d at x)
steady_one_way edition d at x = record {
  payloads = λ context s p q b k. ((λ h. absurd (no_goes edition d at x (with_payload s p) links (λ name e. (text_no_pointer edition (row context s.tag) p q k name).0 e) h)), (λ h. absurd (no_goes edition d at x (with_payload s q) links (λ name e. (text_no_pointer edition (row context s.tag) p q k name).1 e) h)));
  deeper = λ context s t u k h. h;
}

-- a record with such a link directly under it
abbrev HasOneWay : Trees → Structure → Trees → Type 0
HasOneWay d r children = SomeTree (IsOneWay d r.tag r.xref) children

steady_record : (edition : Edition) (d : Trees) → Steady edition (HasOneWay d)
steady_record edition d = record {
  payloads = λ context s p q b k. ((λ h. h), (λ h. h));
  deeper = λ context s t u k h. steady_somewhere edition (IsOneWay d s.tag s.xref) (steady_one_way edition d s.tag s.xref) context t u k h;
}

-- each tree side by side, by what is said of it
some_tree : (P Q : Structure → Trees → Type 0) (xs : Trees) → ((s : Structure) (b : Trees) → P s b → Q s b) → SomeTree P xs → SomeTree Q xs
some_tree P Q none f h = h
some_tree P Q (tree s below next) f h = let rest = some_tree P Q next f in ⊎_elim (λ p. inl (f s below p)) (λ q. inr (rest q)) h

one_way_change : (edition : Edition) (d e : Trees) → Somewhere (Change edition) File d e → OneWay d → OneWay e
one_way_change edition d e k h =
    some_tree (HasOneWay d) (HasOneWay e) e (λ r b p. some_tree (IsOneWay d r.tag r.xref) (IsOneWay e r.tag r.xref) b (λ s c q. some_in (Goes d r.tag r.xref s) (Goes e r.tag r.xref s) links (λ link g. (g.0, g.1, g.2, g.3, steady_somewhere edition (IsUnanswered g.2 r.xref link) (steady_unanswered edition g.2 r.xref link) File d e k g.4)) q) p)
    (steady_somewhere edition (HasOneWay d) (steady_record edition d) File d e k h)

-- Links: what is known of a tree inside trees.

-- names among the pointers are I, and among the identifiers J
module _ (P Q : Structure → Trees → Type 0) (I J : Bytes → Type 0) where
  abbrev Inside : Structure → Trees → Type 0
  Inside s b = ((n : Bytes) → Names s.payload n → I n) × ((n : Bytes) → IsNamed b n → I n) × ((n : Bytes) → s.xref ≡ Some n → J n)

  some_inside : (xs : Trees) → ((n : Bytes) → IsNamed xs n → I n) → ((n : Bytes) → IsAmong n (xrefs xs) → J n) → ((s : Structure) (b : Trees) → Inside s b → P s b → Q s b) → SomeTree P xs → SomeTree Q xs
  some_inside none i j f h = h
  some_inside (tree s below next) i j f h =
      let rest = some_inside next (λ n k. i n (inr (inr k))) (λ n k. j n (with_others s.xref (xrefs next) n k)) f in
      ⊎_elim (λ p. inl (f s below ((λ n k. i n (inl k)), (λ n k. i n (inr (inl k))), (λ n e. j n (with_xref_here s.xref (xrefs next) n e))) p)) (λ q. inr (rest q)) h

  some_renamed : (g : Bytes → Bytes) (xs : Trees) → ((n : Bytes) → IsNamed xs n → I n) → ((n : Bytes) → IsAmong n (xrefs xs) → J n) → ((s : Structure) (b : Trees) → Inside s b → P s b → Q (renamed_structure g s) (renamed g b)) → SomeTree P xs → SomeTree Q (renamed g xs)
  some_renamed g none i j f h = h
  some_renamed g (tree s below next) i j f h =
      let rest = some_renamed g next (λ n k. i n (inr (inr k))) (λ n k. j n (with_others s.xref (xrefs next) n k)) f in
      ⊎_elim (λ p. inl (f s below ((λ n k. i n (inl k)), (λ n k. i n (inr (inl k))), (λ n e. j n (with_xref_here s.xref (xrefs next) n e))) p)) (λ q. inr (rest q)) h

abbrev Anything : Bytes → Type 0
Anything n = Unit {0}

pointer_names : (p : Payload) (name : Bytes) → p ≡ Pointer name → Names p name
pointer_names p name e = e

-- Links: a name gained or lost.

points_named : (name : Bytes) (answers : List Bytes) (xs : Trees) → SomeTree (PointsBack (Some name) answers) xs → IsNamed xs name
points_named name answers none h = h
points_named name answers (tree s below next) (inl h) = inl (pointer_names s.payload name (h.3 ∙ ap Pointer (sym (some_some name h.1 h.2))))
points_named name answers (tree s below next) (inr h) = inr (inr (points_named name answers next h))

none_points : (answers : List Bytes) (xs : Trees) → SomeTree (PointsBack None answers) xs → ⊥
none_points answers none h = h
none_points answers (tree s below next) (inl h) = none_some h.1 h.2
none_points answers (tree s below next) (inr h) = none_points answers next h

module _ (new : Bytes) (name : Bytes) (x : Option Bytes) (link : Link) where
  unanswered_gained : (xs ys : Trees) → Gains new xs ys → SomeTree (IsUnanswered name x link) xs → SomeTree (IsUnanswered name x link) ys
  unanswered_gained _ _ (gains s below next) h = ⊎_elim (λ p. absurd (none_some name p.0)) (λ q. inr q) h
  unanswered_gained _ _ (after {t = t} {u = u} s below g) h = let rest = unanswered_gained t u g in ⊎_elim (λ p. inl p) (λ q. inr (rest q)) h

  unanswered_lost : (new ≢ name) → (xs ys : Trees) → Gains new xs ys → SomeTree (IsUnanswered name x link) ys → SomeTree (IsUnanswered name x link) xs
  unanswered_lost ne _ _ (gains s below next) h = ⊎_elim (λ p. absurd (ne (some_some new name p.0))) (λ q. inr q) h
  unanswered_lost ne _ _ (after {t = t} {u = u} s below g) h = let rest = unanswered_lost ne t u g in ⊎_elim (λ p. inl p) (λ q. inr (rest q)) h

module _ (new : Bytes) (d : Trees) (at : Bytes) where
  one_way_named : (IsNamed d new → ⊥) → (s : Structure) (b : Trees) → IsOneWay d at None s b → IsOneWay d at (Some new) s b
  one_way_named free s b h = some_in (Goes d at None s) (Goes d at (Some new) s) links (λ link g. (
    g.0,
    g.1,
    g.2,
    g.3,
    some_inside (IsUnanswered g.2 None link) (IsUnanswered g.2 (Some new) link) (IsNamed d) Anything d (λ n k. k) (λ n k. tt) (λ t c i u. (u.0, u.1, (λ z. free (i.1 new (points_named new link.answers c z))))) g.4,
  )) h

  one_way_nameless : (s : Structure) (b : Trees) → IsOneWay d at (Some new) s b → IsOneWay d at None s b
  one_way_nameless s b h = some_in (Goes d at (Some new) s) (Goes d at None s) links (λ link g. (
    g.0,
    g.1,
    g.2,
    g.3,
    some_tree (IsUnanswered g.2 (Some new) link) (IsUnanswered g.2 None link) d (λ t c u. (u.0, u.1, (λ z. none_points link.answers c z))) g.4,
  )) h

module _ (new : Bytes) (d : Trees) where
  record_gained : (IsNamed d new → ⊥) → (xs ys : Trees) → Gains new xs ys → SomeTree (HasOneWay d) xs → SomeTree (HasOneWay d) ys
  record_gained free _ _ (gains s below next) h = ⊎_elim (λ p. inl (some_tree (IsOneWay d s.tag None) (IsOneWay d s.tag (Some new)) below (one_way_named new d s.tag free) p)) (λ q. inr q) h
  record_gained free _ _ (after {t = t} {u = u} s below g) h = let rest = record_gained free t u g in ⊎_elim (λ p. inl p) (λ q. inr (rest q)) h

  record_lost : (xs ys : Trees) → Gains new xs ys → SomeTree (HasOneWay d) ys → SomeTree (HasOneWay d) xs
  record_lost _ _ (gains s below next) h = ⊎_elim (λ p. inl (some_tree (IsOneWay d s.tag (Some new)) (IsOneWay d s.tag None) below (one_way_nameless new d s.tag) p)) (λ q. inr q) h
  record_lost _ _ (after {t = t} {u = u} s below g) h = let rest = record_lost t u g in ⊎_elim (λ p. inl p) (λ q. inr (rest q)) h

one_way_gain : (d e : Trees) → GainsIdentifier d e → OneWay d → OneWay e
one_way_gain d e g h =
    some_tree (HasOneWay d) (HasOneWay e) e (λ r b p. some_tree (IsOneWay d r.tag r.xref) (IsOneWay e r.tag r.xref) b (λ s c q. some_in (Goes d r.tag r.xref s) (Goes e r.tag r.xref s) links (λ link k. (k.0, k.1, k.2, k.3, unanswered_gained g.name k.2 r.xref link d e g.gained k.4)) q) p)
    (record_gained g.name d g.no_pointer_names_it d e g.gained h)

one_way_lose : (d e : Trees) → GainsIdentifier e d → OneWay d → OneWay e
one_way_lose d e g h =
    some_inside (HasOneWay d) (HasOneWay e) (IsNamed e) Anything e (λ n k. k) (λ n k. tt) (λ r b i p.
    some_inside (IsOneWay d r.tag r.xref) (IsOneWay e r.tag r.xref) (IsNamed e) Anything b i.1 (λ n k. tt) (λ s c j q.
    some_in (Goes d r.tag r.xref s) (Goes e r.tag r.xref s) links (λ link k. (k.0, k.1, k.2, k.3, unanswered_lost g.name k.2 r.xref link (λ x. g.no_pointer_names_it (subst (IsNamed e) (sym x) (j.0 k.2 (pointer_names s.payload k.2 k.3)))) e d g.gained k.4)) q) p)
    (record_lost g.name d e d g.gained h)

-- Links: a renaming.

module _ (f : Bytes → Bytes) (d : Trees) (inj : (b a : Bytes) → IsNamed d b → IsAmong a (xrefs d) → f b ≡ f a → b ≡ a) where
  point_was : (x : Option Bytes) (p : Payload) (new : Bytes) → renamed_xref f x ≡ Some new → renamed_payload f p ≡ Pointer new → ((a : Bytes) → x ≡ Some a → IsAmong a (xrefs d)) → ((b : Bytes) → Names p b → IsNamed d b) → (name : Bytes) × (x ≡ Some name) × (p ≡ Pointer name)
  point_was None p new e k i j = absurd (none_some new e)
  point_was (Some a) Void new e k i j = absurd (differ k)
    where
      differ : Void ≡ Pointer new → ⊥
      differ z = cc
  point_was (Some a) (Pointer b) new e k i j = (a, refl, ap Pointer (inj b a (j b refl) (i a refl) (same (f b) k ∙ sym (some_some (f a) new e))))
    where
      same : (m : Bytes) → Pointer m ≡ Pointer new → m ≡ new
      same m z = cc
  point_was (Some a) (Text lines) new e k i j = absurd (differ k)
    where
      differ : Text lines ≡ Pointer new → ⊥
      differ z = cc

  back_was : (x : Option Bytes) (answers : List Bytes) → ((a : Bytes) → x ≡ Some a → IsAmong a (xrefs d)) → (xs : Trees) → ((b : Bytes) → IsNamed xs b → IsNamed d b) → SomeTree (PointsBack (renamed_xref f x) answers) (renamed f xs) → SomeTree (PointsBack x answers) xs
  back_was x answers i none j h = h
  back_was x answers i (tree s below next) j (inl h) = let k = point_was x s.payload h.1 h.2 h.3 i (λ b n. j b (inl n)) in inl (h.0, k.0, k.1, k.2)
  back_was x answers i (tree s below next) j (inr h) = inr (back_was x answers i next (λ b n. j b (inr (inr n))) h)

  one_way_renamed : OneWay d → OneWay (renamed f d)
  one_way_renamed h =
      some_renamed (HasOneWay d) (HasOneWay (renamed f d)) (IsNamed d) (λ n. IsAmong n (xrefs d)) f d (λ n k. k) (λ n k. k) (λ r b i p.
      some_renamed (IsOneWay d r.tag r.xref) (IsOneWay (renamed f d) r.tag (renamed_xref f r.xref)) (IsNamed d) Anything f b i.1 (λ n k. tt) (λ s c j q.
      some_in (Goes d r.tag r.xref s) (Goes (renamed f d) r.tag (renamed_xref f r.xref) (renamed_structure f s)) links (λ link k. (
        k.0,
        k.1,
        f k.2,
        ap (renamed_payload f) k.3,
        some_renamed (IsUnanswered k.2 r.xref link) (IsUnanswered (f k.2) (renamed_xref f r.xref) link) (IsNamed d) Anything f d (λ n m. m) (λ n m. tt) (λ t c l u. (ap (renamed_xref f) u.0, u.1, (λ z. u.2 (back_was r.xref link.answers i.2 c l.1 z)))) k.4,
      )) q) p) h

pub step_one_way : (edition : Edition) (d e : Trees) → Step edition d e → OneWay d → OneWay e
step_one_way edition d e h = by h.move
  where
    by : Move edition d e → OneWay d → OneWay e
    by (change k) = one_way_change edition d e k
    by (rename k) = λ o. subst OneWay (sym k.all_at_once) (one_way_renamed (new_name k.pairs) d (λ b a n m q. (keeps_apart d e k).apart b a (inr n) m q) o)
    by (gain k) = one_way_gain d e k
    by (lose k) = one_way_lose d e k

-- a step keeps a document without notices
pub step_no_notice : (edition : Edition) (d e : Trees) → Step edition d e → NoNotice d → NoNotice e
step_no_notice edition d e h n = let k = step_back edition d e h in record { both_ways = λ o. n.both_ways (step_one_way edition e d k o); all_listed = λ u. n.all_listed (step_unlisted edition e d k u) }
