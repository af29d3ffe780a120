-- Unused names are dropped and the others numbered by steps.
use Rattle.std.proofs.Common.{◌≡◌, ℕ, ◌+◌, ◌≤◌, ◌<◌, ◌^◌, Bool, true, false, cond, not, ◌&&◌, ◌||◌, ◌==◌, nat_lt, List, [], ◌∷◌, map, Option, Some, None, refl, sym, ap, ◌∙◌, subst, ◌⊎◌, inl, inr, ⊎_elim, arith, le-leb, eqb-true, length}
use Rattle.std.specs.Prelude.{bytes_eq, codes, is_none, nat_le, ⊤}
use Rattle.std.specs.List.{AllByRecursion, list_all}
use Rattle.std.specs.Int.Digits.{digits_of}
use Rattle.std.proofs.lemmas.Int.Digits.{same_from_digits_of, all_below_base_digits_of}
use Rattle.std.proofs.lemmas.Bool.{true≢false, false≢true, and_parts, and_from, or_right, or_left, false_from_ne_true}
use Rattle.ged_line.specs.Bytes.{Bytes}
use Rattle.ged_line.specs.Characters.{is_tag_character}
use Rattle.std.specs.Char.{is_ascii_uppercase, is_ascii_digit}
use Rattle.ged_line.specs.Names.{is_tag, is_xref}
use Rattle.ged_tree.specs.declared.payload.Payload.{Payload}
use Rattle.ged_tree.specs.declared.payload.Payload.TheVariants.{Void, Pointer, Text}
use Rattle.ged_tree.specs.Trees.{Structure, Trees, none, tree, line_count, lines_count}
use Rattle.ged_tree.specs.DocumentLines.{document_lines}
use Rattle.ged_tree.specs.Documents.{is_document, are_records, are_at, is_structure_at, is_payload_at}
use Rattle.ged_tree.specs.inner.DocumentParts.{is_head, is_record_tag, is_xref_at}
use Rattle.ged_link.specs.Links.{SomeTree, IsAmong, AreDistinct, xrefs, Resolved}
use Rattle.ged_link.specs.inner.Identifiers.{with_xref, Names}
use Rattle.ged_schema.specs.declared.context.Context.{Context}
use Rattle.ged_schema.specs.declared.context.Context.TheVariants.{File}
use Rattle.ged_schema.specs.Tables.{context_below}
use Rattle.ged_canon.specs.declared.edition.Edition.{Edition}
use Rattle.ged_canon.specs.Steps.{Step, rename, lose, Chain, done, then, new_name, Renamed, renamed_payload, renamed, Gains, gains, after}
use Rattle.ged_canon.specs.inner.StepParts.{renamed_structure, with_identifier, olds, news, renamed_xref}
use Rattle.ged_canon.specs.Normal.{numbered}
use Rattle.ged_canon.specs.inner.Working.{falls, put, is_named, used_xref, used_structure, used_trees, used_document, brief_structure, sorted, sorted_document, number_of, numbered_document}
use Rattle.ged_canon.proofs.theory.Texts.{same_bytes, equal_bytes}
use Rattle.ged_canon.proofs.theory.Fixed.{is_named-true, with_others}
use Rattle.ged_canon.proofs.theory.Heads.{parts, same_length}
use Rattle.ged_canon.proofs.theory.Bare.{Mentions, mentions_has, stands, document_bare}
use Rattle.ged_canon.proofs.theory.Used.{HasXref, has_xref, xref_among, some_put, some_sorted_xref, used_some, used_names, xrefs_used, document_sorted_names, xrefs_sorted, some_some, none_some}
use Rattle.ged_canon.proofs.theory.Renaming.{gained_names}
use Rattle.ged_canon.proofs.theory.Chains.{both, once}
use Rattle.ged_canon.proofs.theory.Chains as chains

-- Distinct identifiers, tree by tree.

abbrev pub Apart : Trees → Type 0
Apart none = ⊤
Apart (tree s below next) = ((name : Bytes) → s.xref ≡ Some name → SomeTree (HasXref name) next → ⊥) × Apart next

apart_first : (x : Option Bytes) (xs : Trees) → AreDistinct (with_xref x (xrefs xs)) → (name : Bytes) → x ≡ Some name → SomeTree (HasXref name) xs → ⊥
apart_first None xs h name e k = none_some name e
apart_first (Some first) xs h name e k = h.0 (subst (λ n. IsAmong n (xrefs xs)) (sym (some_some first name e)) (xref_among xs name k))

distinct_rest : (x : Option Bytes) (others : List Bytes) → AreDistinct (with_xref x others) → AreDistinct others
distinct_rest None others h = h
distinct_rest (Some name) others h = h.1

pub apart : (xs : Trees) → AreDistinct (xrefs xs) → Apart xs
apart none h = tt
apart (tree s below next) h = (apart_first s.xref next h, apart next (distinct_rest s.xref (xrefs next) h))

distinct_with : (x : Option Bytes) (xs : Trees) → ((name : Bytes) → x ≡ Some name → SomeTree (HasXref name) xs → ⊥) → AreDistinct (xrefs xs) → AreDistinct (with_xref x (xrefs xs))
distinct_with None xs h k = k
distinct_with (Some name) xs h k = (λ q. h name refl (has_xref xs name q), k)

pub distinct : (xs : Trees) → Apart xs → AreDistinct (xrefs xs)
distinct none h = tt
distinct (tree s below next) h = distinct_with s.xref next h.0 (distinct next h.1)

apart_put : (s : Structure) (b xs : Trees) → Apart (tree s b xs) → Apart (put s b xs)
apart_put s b none h = h
apart_put s b (tree x y xs) h = by (falls s.tag x.tag) (apart_put s b xs ((λ name e k. h.0 name e (inr k)), h.1.1))
  where
    by : (t : Bool) → Apart (put s b xs) → Apart (cond t (tree x y (put s b xs)) (tree s b (tree x y xs)))
    by true k = ((λ name e q. ⊎_elim (λ p. h.0 name p (inl e)) (λ p. h.1.0 name e p) (some_put (HasXref name) s b xs q)), k)
    by false k = h

apart_sorted : (edition : Edition) (context : Context) (xs : Trees) → Apart xs → Apart (sorted edition context xs)
apart_sorted edition context none h = tt
apart_sorted edition context (tree s below next) h = apart_put (brief_structure edition context s) (sorted edition (context_below context s.tag) below) (sorted edition context next) ((λ name e k. h.0 name e (some_sorted_xref edition name context next k)), apart_sorted edition context next h.1)

apart_document : (edition : Edition) (d : Trees) → Apart d → Apart (sorted_document edition d)
apart_document edition none h = tt
apart_document edition (tree s below next) h = ((λ name e k. h.0 name e (some_sorted_xref edition name File next k)), apart_sorted edition File next h.1)

used_was : (used : Bytes → Bool) (x : Option Bytes) (name : Bytes) → used_xref used x ≡ Some name → x ≡ Some name
used_was used None name e = e
used_was used (Some first) name e = by (used first) e
  where
    by : (t : Bool) → cond t (Some first) None ≡ Some name → ◌≡◌ {A = Option Bytes} (Some first) (Some name)
    by true k = k
    by false k = absurd (none_some name k)

apart_used : (used : Bytes → Bool) (xs : Trees) → Apart xs → Apart (used_trees used xs)
apart_used used none h = tt
apart_used used (tree s below next) h = ((λ name e k. h.0 name (used_was used s.xref name e) ((used_some used name next k).0)), apart_used used next h.1)

-- A name lost.

module _ (name : Bytes) where
  pub gains_has : (xs ys : Trees) → Gains name xs ys → IsAmong name (xrefs ys)
  gains_has _ _ (gains s below next) = inl refl
  gains_has _ _ (after {t = t} {u = u} s below h) = with_others s.xref (xrefs u) name (gains_has t u h)

  pub gains_cases : (other : Bytes) (xs ys : Trees) → Gains name xs ys → IsAmong other (xrefs ys) → (other ≡ name) ⊎ IsAmong other (xrefs xs)
  gains_cases other _ _ (gains s below next) k = k
  gains_cases other _ _ (after {t = t} {u = u} s below h) k = by s.xref (gains_cases other t u h) k
    where
      by : (x : Option Bytes) → (IsAmong other (xrefs u) → (other ≡ name) ⊎ IsAmong other (xrefs t)) → IsAmong other (with_xref x (xrefs u)) → (other ≡ name) ⊎ IsAmong other (with_xref x (xrefs t))
      by None f q = f q
      by (Some first) f (inl e) = inr (inl e)
      by (Some first) f (inr q) = ⊎_elim (λ e. inl e) (λ p. inr (inr p)) (f q)

  pub gains_among : (other : Bytes) (xs ys : Trees) → Gains name xs ys → IsAmong other (xrefs xs) → IsAmong other (xrefs ys)
  gains_among other _ _ (gains s below next) k = inr k
  gains_among other _ _ (after {t = t} {u = u} s below h) k = by s.xref (gains_among other t u h) k
    where
      by : (x : Option Bytes) → (IsAmong other (xrefs t) → IsAmong other (xrefs u)) → IsAmong other (with_xref x (xrefs t)) → IsAmong other (with_xref x (xrefs u))
      by None f q = f q
      by (Some first) f (inl e) = inl e
      by (Some first) f (inr q) = inr (f q)

  -- what is lost is no other's
  pub lost_free : (xs ys : Trees) → Gains name xs ys → AreDistinct (xrefs ys) → IsAmong name (xrefs xs) → ⊥
  lost_free _ _ (gains s below next) d k = d.0 k
  lost_free _ _ (after {t = t} {u = u} s below h) d k = by s.xref (lost_free t u h) d k
    where
      by : (x : Option Bytes) → (AreDistinct (xrefs u) → IsAmong name (xrefs t) → ⊥) → AreDistinct (with_xref x (xrefs u)) → IsAmong name (with_xref x (xrefs t)) → ⊥
      by None f e q = f e q
      by (Some first) f e (inl p) = e.0 (subst (λ n. IsAmong n (xrefs u)) p (gains_has t u h))
      by (Some first) f e (inr q) = f e.1 q

  pub lost_distinct : (xs ys : Trees) → Gains name xs ys → AreDistinct (xrefs ys) → AreDistinct (xrefs xs)
  lost_distinct _ _ (gains s below next) d = d.1
  lost_distinct _ _ (after {t = t} {u = u} s below h) d = by s.xref (lost_distinct t u h) d
    where
      by : (x : Option Bytes) → (AreDistinct (xrefs u) → AreDistinct (xrefs t)) → AreDistinct (with_xref x (xrefs u)) → AreDistinct (with_xref x (xrefs t))
      by None f e = f e
      by (Some first) f e = ((λ q. e.0 (gains_among first t u h q)), f e.1)

  lost_at : (level : ℕ) (xs ys : Trees) → Gains name xs ys → are_at level ys ≡ true → are_at level xs ≡ true
  lost_at level _ _ (gains s below next) h =
      let k = stands level (with_identifier s (Some name)) below next h in
      and_from (is_structure_at level (with_identifier s None)) (are_at (level + 1) below && are_at level next)
      (and_from (nat_le level 99 && (is_tag s.tag && not (bytes_eq s.tag (codes "CONT")))) (is_payload_at level s.payload) k.tagged k.carried)
      (and_from (are_at (level + 1) below) (are_at level next) k.below_stands k.next_stands)
  lost_at level _ _ (after {t = t} {u = u} s below h) k =
      let p = and_parts (is_structure_at level s) (are_at (level + 1) below && are_at level u) k in
      let q = and_parts (are_at (level + 1) below) (are_at level u) p.1 in
      and_from (is_structure_at level s) (are_at (level + 1) below && are_at level t) p.0 (and_from (are_at (level + 1) below) (are_at level t) q.0 (lost_at level t u h q.1))

  lost_records : (xs ys : Trees) → Gains name xs ys → are_records xs ≡ are_records ys
  lost_records _ _ (gains s below next) = refl
  lost_records _ _ (after {t = t} {u = u} s below h) = ap (λ b. is_record_tag s.tag && b) (lost_records t u h)

  lost_lines : (xs ys : Trees) → Gains name xs ys → lines_count xs ≡ lines_count ys
  lost_lines _ _ (gains s below next) = refl
  lost_lines _ _ (after {t = t} {u = u} s below h) = ap (λ n. line_count s.payload + lines_count below + n) (lost_lines t u h)

  -- the parts of a document make one
  pub lost_document : (xs ys : Trees) → Gains name xs ys → is_document ys ≡ true → is_document xs ≡ true
  lost_document _ _ (gains s below next) h = absurd (false≢true ((and_parts (bytes_eq s.tag (codes "HEAD")) false (parts (with_identifier s (Some name)) below next h).head).1))
  lost_document _ _ (after {t = t} {u = u} s below g) h =
      let p = parts s below u h in
      and_from (is_head s && are_records t) (are_at 0 (tree s below t) && nat_lt (length (document_lines (tree s below t))) (2 ^ 63))
      (and_from (is_head s) (are_records t) p.head (lost_records t u g ∙ p.records))
      (and_from (are_at 0 (tree s below t)) (nat_lt (length (document_lines (tree s below t))) (2 ^ 63)) (lost_at 0 (tree s below t) (tree s below u) (after s below g) p.places) (ap (λ n. nat_lt n (2 ^ 63)) (same_length (tree s below t) (tree s below u) (lost_lines (tree s below t) (tree s below u) (after s below g))) ∙ p.small))

-- Unused names dropped.

module _ (edition : Edition) (used : Bytes → Bool) where
  record Drop (xs ys : Trees) : Type 0 where
    name : Bytes
    is_unused : used name ≡ false
    gained : Gains name ys xs

  drops : (xs : Trees) → Chain Drop xs (used_trees used xs)
  drops none = done
  drops (tree s below next) = both (by s.xref refl) (chains.under (tree (used_structure used s) below) (λ x y h. record { name = h.name; is_unused = h.is_unused; gained = after (used_structure used s) below h.gained }) (drops next))
    where
      some_by : (name : Bytes) (t : Bool) → used name ≡ t → Chain Drop (tree (with_identifier s (Some name)) below next) (tree (with_identifier s (cond t (Some name) None)) below next)
      some_by name true u = done
      some_by name false u = once (record { name = name; is_unused = u; gained = gains s below next })

      by : (x : Option Bytes) → s.xref ≡ x → Chain Drop (tree s below next) (tree (with_identifier s (used_xref used s.xref)) below next)
      by None e = subst (λ x. Chain Drop (tree (with_identifier s x) below next) (tree (with_identifier s (used_xref used x)) below next)) (sym e) done
      by (Some name) e = subst (λ x. Chain Drop (tree (with_identifier s x) below next) (tree (with_identifier s (used_xref used x)) below next)) (sym e) (some_by name (used name) refl)

  drop_steps : (xs ys : Trees) → is_document xs ≡ true → AreDistinct (xrefs xs) → ((name : Bytes) → is_named xs name ≡ true → used name ≡ true) → Chain Drop xs ys → Chain (Step edition) xs ys
  drop_steps xs _ d a u done = done
  drop_steps xs ys d a u (then {b = zs} r k) =
      let same : (target : Bytes) → is_named zs target ≡ is_named xs target = λ target. gained_names r.name target zs xs r.gained in
      let e = lost_document r.name zs xs r.gained d in
      then (record { from = d; to = e; move = lose (record { name = r.name; no_record_has_it = lost_free r.name zs xs r.gained a; no_pointer_names_it = λ k. true≢false (sym (u r.name (sym (same r.name) ∙ is_named-true zs r.name k)) ∙ r.is_unused); gained = r.gained }) })
      (drop_steps zs ys e (lost_distinct r.name zs xs r.gained a) (λ target q. u target (sym (same target) ∙ q)) k)

pub reach_used : (edition : Edition) (d : Trees) → is_document d ≡ true → Resolved d → Chain (Step edition) d (used_document d)
reach_used edition d h r = drop_steps edition (is_named d) d (used_document d) h r.distinct (λ name k. k) (drops edition (is_named d) d)

-- Numbering.

map_injective : (xs ys : Bytes) → map (λ d. 48 + d) xs ≡ map (λ d. 48 + d) ys → xs ≡ ys
map_injective [] [] e = refl
map_injective [] (y ∷ ys) e = absurd (cc)
map_injective (x ∷ xs) [] e = absurd (cc)
map_injective (x ∷ xs) (y ∷ ys) e =
    let h : 48 + x ≡ 48 + y = cc in
    let k : map (λ d. 48 + d) xs ≡ map (λ d. 48 + d) ys = cc in
    let p : x ≡ y = omega arith in
    λ i. p i ∷ map_injective xs ys k i

pub numbered_injective : (m n : ℕ) → numbered m ≡ numbered n → m ≡ n
numbered_injective m n e = same_from_digits_of 10 m n (omega arith) (map_injective (digits_of 10 m) (digits_of 10 n) (rest (map (λ d. 48 + d) (digits_of 10 m)) (map (λ d. 48 + d) (digits_of 10 n)) e))
  where
    rest : (xs ys : Bytes) → ◌≡◌ {A = Bytes} (88 ∷ xs) (88 ∷ ys) → xs ≡ ys
    rest xs ys e = cc

abbrev pub paired : ℕ → List Bytes → List (Bytes × Bytes)
paired n [] = []
paired n (name ∷ names) = (name, numbered n) ∷ paired (n + 1) names

paired_olds : (n : ℕ) (ns : List Bytes) → olds (paired n ns) ≡ ns
paired_olds n [] = refl
paired_olds n (name ∷ ns) = ap (λ xs. name ∷ xs) (paired_olds (n + 1) ns)

among_later : (m n : ℕ) (ns : List Bytes) → IsAmong (numbered m) (news (paired n ns)) → n ≤ m
among_later m n [] h = absurd h
among_later m n (name ∷ ns) h = by (among_later m (n + 1) ns) h
  where
    by : (IsAmong (numbered m) (news (paired (n + 1) ns)) → n + 1 ≤ m) → (numbered m ≡ numbered n) ⊎ IsAmong (numbered m) (news (paired (n + 1) ns)) → n ≤ m
    by f (inl e) = let k = numbered_injective m n e in omega arith
    by f (inr q) = let k = f q in omega arith

paired_distinct : (n : ℕ) (ns : List Bytes) → AreDistinct (news (paired n ns))
paired_distinct n [] = tt
paired_distinct n (name ∷ ns) = (λ h. let k = among_later n (n + 1) ns h in omega arith, paired_distinct (n + 1) ns)

paired_is : (n : ℕ) (ns : List Bytes) (name : Bytes) → number_of n ns name ≡ new_name (paired n ns) name
paired_is n [] name = refl
paired_is n (first ∷ ns) name = ap (λ x. cond (bytes_eq first name) (numbered n) x) (paired_is (n + 1) ns name)

digits_are_tag_characters : (ds : Bytes) → AllByRecursion (λ d. d < 10) ds → list_all is_tag_character (map (λ d. 48 + d) ds) ≡ true
digits_are_tag_characters [] h = refl
digits_are_tag_characters (d ∷ ds) h =
    let p = h.0 in
    let lower : 48 ≤ 48 + d = omega arith in
    let upper : 48 + d ≤ 57 = omega arith in
    let c = and_from (nat_le 48 (48 + d)) (nat_le (48 + d) 57) (le-leb 48 (48 + d) lower) (le-leb (48 + d) 57 upper) in
    and_from (is_tag_character (48 + d)) (list_all is_tag_character (map (λ x. 48 + x) ds)) (or_left (is_ascii_uppercase (48 + d) || is_ascii_digit (48 + d)) ((48 + d) == 95) (or_right (is_ascii_uppercase (48 + d)) (is_ascii_digit (48 + d)) c)) (digits_are_tag_characters ds h.1)

pub numbered_name : (n : ℕ) → is_xref (numbered n) ≡ true
numbered_name n =
    and_from (not (length (numbered n) == 0) && not (bytes_eq (numbered n) (codes "VOID"))) (list_all is_tag_character (numbered n))
    (and_from (not (length (numbered n) == 0)) (not (bytes_eq (numbered n) (codes "VOID"))) (ap not some) (ap not not_void))
    (digits_are_tag_characters (digits_of 10 n) (all_below_base_digits_of 10 n (omega arith)))
  where
    head_or : ℕ → Bytes → ℕ
    head_or other [] = other
    head_or other (c ∷ cs) = c

    some : (length (numbered n) == 0) ≡ false
    some = false_from_ne_true (length (numbered n) == 0) (λ e. let k = eqb-true (length (numbered n)) 0 e in omega arith)

    not_void : bytes_eq (numbered n) (codes "VOID") ≡ false
    not_void = false_from_ne_true (bytes_eq (numbered n) (codes "VOID")) (λ e. let k : 88 ≡ 86 = ap (head_or 0) (equal_bytes (numbered n) (codes "VOID") e) in omega arith)

number_name : (n : ℕ) (ns : List Bytes) (name : Bytes) → IsAmong name ns → is_xref (number_of n ns name) ≡ true
number_name n [] name h = absurd h
number_name n (first ∷ ns) name h = by (bytes_eq first name) refl (number_name (n + 1) ns name) h
  where
    by : (t : Bool) → bytes_eq first name ≡ t → (IsAmong name ns → is_xref (number_of (n + 1) ns name) ≡ true) → (name ≡ first) ⊎ IsAmong name ns → is_xref (cond t (numbered n) (number_of (n + 1) ns name)) ≡ true
    by true e f k = numbered_name n
    by false e f (inl p) = absurd (true≢false (sym (same_bytes first name (sym p)) ∙ e))
    by false e f (inr k) = f k

-- A renaming by names leads from a document to a document.

module _ (f : Bytes → Bytes) where
  payload_renamed_at : (level : ℕ) (p : Payload) → ((name : Bytes) → Names p name → is_xref (f name) ≡ true) → is_payload_at level p ≡ true → is_payload_at level (renamed_payload f p) ≡ true
  payload_renamed_at level Void k h = h
  payload_renamed_at level (Pointer name) k h = k name refl
  payload_renamed_at level (Text lines) k h = h

  xref_renamed_at : (level : ℕ) (x : Option Bytes) → ((name : Bytes) → x ≡ Some name → is_xref (f name) ≡ true) → is_xref_at level x ≡ true → is_xref_at level (renamed_xref f x) ≡ true
  xref_renamed_at level None k h = h
  xref_renamed_at level (Some name) k h = and_from (level == 0) (is_xref (f name)) ((and_parts (level == 0) (is_xref name) h).0) (k name refl)

  renamed_at : (level : ℕ) (xs : Trees) → ((name : Bytes) → Mentions xs name → is_xref (f name) ≡ true) → are_at level xs ≡ true → are_at level (renamed f xs) ≡ true
  renamed_at level none k h = h
  renamed_at level (tree s below next) k h =
      let p = stands level s below next h in
      let x = xref_renamed_at level s.xref (λ name q. k name (inl q)) p.named in
      let y = payload_renamed_at level s.payload (λ name q. k name (inr (inl q))) p.carried in
      and_from (is_structure_at level (renamed_structure f s)) (are_at (level + 1) (renamed f below) && are_at level (renamed f next))
      (and_from (nat_le level 99 && (is_tag s.tag && not (bytes_eq s.tag (codes "CONT")))) (is_xref_at level (renamed_xref f s.xref) && is_payload_at level (renamed_payload f s.payload)) p.tagged (and_from (is_xref_at level (renamed_xref f s.xref)) (is_payload_at level (renamed_payload f s.payload)) x y))
      (and_from (are_at (level + 1) (renamed f below)) (are_at level (renamed f next)) (renamed_at (level + 1) below (λ name q. k name (inr (inr (inl q)))) p.below_stands) (renamed_at level next (λ name q. k name (inr (inr (inr q)))) p.next_stands))

  renamed_records : (xs : Trees) → are_records (renamed f xs) ≡ are_records xs
  renamed_records none = refl
  renamed_records (tree s below next) = ap (λ b. is_record_tag s.tag && b) (renamed_records next)

  payload_renamed_lines : (p : Payload) → line_count (renamed_payload f p) ≡ line_count p
  payload_renamed_lines Void = refl
  payload_renamed_lines (Pointer name) = refl
  payload_renamed_lines (Text lines) = refl

  renamed_lines : (xs : Trees) → lines_count (renamed f xs) ≡ lines_count xs
  renamed_lines none = refl
  renamed_lines (tree s below next) = λ i. payload_renamed_lines s.payload i + renamed_lines below i + renamed_lines next i

  renamed_head : (s : Structure) → is_head s ≡ true → is_head (renamed_structure f s) ≡ true
  renamed_head s h = let p = and_parts (bytes_eq s.tag (codes "HEAD")) (is_none s.xref) h in and_from (bytes_eq s.tag (codes "HEAD")) (is_none (renamed_xref f s.xref)) p.0 (still_none s.xref p.1)
    where
      still_none : (x : Option Bytes) → is_none x ≡ true → is_none (renamed_xref f x) ≡ true
      still_none None k = k
      still_none (Some name) k = k

  pub renamed_is_document : (d : Trees) → ((name : Bytes) → Mentions d name → is_xref (f name) ≡ true) → is_document d ≡ true → is_document (renamed f d) ≡ true
  renamed_is_document none k h = h
  renamed_is_document (tree s below next) k h =
      let p = parts s below next h in
      and_from (is_head (renamed_structure f s) && are_records (renamed f next)) (are_at 0 (renamed f (tree s below next)) && nat_lt (length (document_lines (renamed f (tree s below next)))) (2 ^ 63))
      (and_from (is_head (renamed_structure f s)) (are_records (renamed f next)) (renamed_head s p.head) (renamed_records next ∙ p.records))
      (and_from (are_at 0 (renamed f (tree s below next))) (nat_lt (length (document_lines (renamed f (tree s below next)))) (2 ^ 63)) (renamed_at 0 (tree s below next) k p.places) (ap (λ n. nat_lt n (2 ^ 63)) (same_length (renamed f (tree s below next)) (tree s below next) (renamed_lines (tree s below next))) ∙ p.small))

numbering : (s : Trees) → Resolved s → Renamed s (numbered_document s)
numbering s r = record {
  pairs = paired 1 (xrefs s);
  olds_are_xrefs = paired_olds 1 (xrefs s);
  olds_distinct = r.distinct;
  news_distinct = paired_distinct 1 (xrefs s);
  no_other_names_a_new = λ name h k. r.found name h;
  all_at_once = ap (λ f. renamed f s) (λ i name. paired_is 1 (xrefs s) name i);
}

pub numbering_step : (edition : Edition) (s : Trees) → is_document s ≡ true → Resolved s → Step edition s (numbered_document s)
numbering_step edition s h r = record {
  from = h;
  to = renamed_is_document (number_of 1 (xrefs s)) s (λ name m. number_name 1 (xrefs s) name (⊎_elim (λ p. p) (λ p. r.found name p) (mentions_has s name (document_bare s h) m))) h;
  move = rename (numbering s r);
}

pub resolved_sorted : (edition : Edition) (d : Trees) → Resolved d → Resolved (sorted_document edition (used_document d))
resolved_sorted edition d r = record {
  distinct = distinct (sorted_document edition (used_document d)) (apart_document edition (used_document d) (apart_used (is_named d) d (apart d r.distinct)));
  found = λ name h.
      let n = used_names (is_named d) d name (document_sorted_names edition name (used_document d) h) in
      xrefs_sorted edition name (used_document d) (xrefs_used d name (r.found name n) (is_named-true d name n));
}
