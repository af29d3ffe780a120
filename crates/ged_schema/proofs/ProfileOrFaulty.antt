-- A document is as the strict profile asks, or the first fault of it is found.
use Rattle.std.proofs.Common.{◌≡◌, ◌≢◌, ℕ, ◌+◌, Bool, true, false, refl, sym, ap, subst, ◌∙◌, arith, List, [], ◌∷◌, Option, Some, None, inl, inr}
use Rattle.std.specs.Prelude.{◌⊎◌}
use Rattle.std.proofs.lemmas.Bool.{cases_lt, false≢true}
use Rattle.ged_line.specs.Bytes.{Bytes}
use Rattle.ged_line.specs.Names.{is_standard_tag}
use Rattle.ged_tree.specs.declared.payload.Payload.{Payload}
use Rattle.ged_tree.specs.declared.payload.Payload.TheVariants.{Void, Pointer, Text}
use Rattle.ged_tree.specs.Trees.{Structure, Trees, none, tree, trees_count}
use Rattle.ged_tree.specs.Places.{line_at}
use Rattle.ged_link.specs.Links.{IsAmong, SomeTree}
use Rattle.ged_link.specs.LinkFaults.{IsLowest}
use Rattle.ged_link.specs.Notices.{Link, links, IsUnanswered, IsOneWay, OneWay, OneWayAt, SomeTreeFrom}
use Rattle.ged_link.specs.inner.Identifiers.{PointsBack}
use Rattle.ged_link.proofs.CallerLemmas.{one_way_within, one_way_has_place}
use Rattle.ged_schema.specs.declared.context.Context.{Context}
use Rattle.ged_schema.specs.declared.context.Context.TheVariants as contexts
use Rattle.ged_schema.specs.declared.fault.SchemaAt.{SchemaAt}
use Rattle.ged_schema.specs.declared.profile.Profile.TheVariants.{Lenient, Strict}
use Rattle.ged_schema.specs.Tables.{row, context_below}
use Rattle.ged_schema.specs.Checked.{Checked}
use Rattle.ged_schema.specs.Unlisted.{Unlisted, IsUnlisted, UnlistedFrom, UnlistedAt}
use Rattle.ged_schema.specs.Profiles.{CheckedAs, IsFirstNotice, IsFirstFaultAs}
use Rattle.ged_schema.specs.CheckedLaws.{CheckedOrFault}
use Rattle.ged_schema.proofs.FirstUnlisted.{unlisted_within, has_place as unlisted_place}
use Rattle.ged_schema.proofs.NoticeLaws.{first_link, first_tag, one_way_lines, unlisted_lines, no_one_way, no_unlisted}
use Rattle.ged_schema.proofs.Decided.{bool_cases, same_or_other, among_or_not, IsDecided, true_decided, both_decided, one_decided, name_decided, lowest_or_none}
use Rattle.ged_schema.proofs.CheckedOrFaulty.{some_tree_decided, are_checked}

not_decided : {P : Type 0} → IsDecided P → IsDecided (P → ⊥)
not_decided (inl p) = inr (λ n. n p)
not_decided (inr n) = inl n

three_decided : {P Q R : Type 0} → IsDecided P → IsDecided Q → IsDecided R → IsDecided (P × Q × R)
three_decided (inr n) q r = inr (λ h. n h.0)
three_decided (inl p) (inr n) r = inr (λ h. n h.1)
three_decided (inl p) (inl q) (inr n) = inr (λ h. n h.2)
three_decided (inl p) (inl q) (inl r) = inl (p, q, r)

number_decided : (n m : ℕ) → IsDecided (n ≡ m)
number_decided n m = elim (cases_lt n m) [
  | inl below ↦ inr (λ e. omega (arith, below, e))
  | inr above ↦ elim (cases_lt m n) [ inl below ↦ inr (λ e. omega (arith, below, e)) | inr low ↦ inl (omega (arith, above, low)) ]
]

none_decided : {X : Type 0} (o : Option X) → IsDecided (o ≡ None)
none_decided None = inl refl
none_decided (Some x) = inr (λ e. cc)

not_among : {X : Type 0} (P : X → Type 0) (x : X) (xs : List X) → (P x → ⊥) → ((y : X) × IsAmong y xs × P y → ⊥) → (y : X) → IsAmong y (x ∷ xs) → P y → ⊥
not_among P x xs first later y (inl e) p = first (subst P e p)
not_among P x xs first later y (inr h) p = later (y, h, p)

some_decided : {X : Type 0} (P : X → Type 0) → ((x : X) → IsDecided (P x)) → (xs : List X) → IsDecided ((x : X) × IsAmong x xs × P x)
some_decided P decided [] = inr (λ h. h.1)
some_decided P decided (x ∷ xs) = elim (decided x) [
  | inl here ↦ inl (x, inl refl, here)
  | inr other ↦ elim (some_decided P decided xs) [
    | inl h ↦ inl (h.0, inr h.1, h.2)
    | inr later ↦ inr (λ h. not_among P x xs other later h.0 h.1 h.2)
  ]
]

some_from_decided : (P : ℕ → Structure → Trees → Type 0) → ((here : ℕ) (s : Structure) (below : Trees) → IsDecided (P here s below)) → (start : ℕ) (t : Trees) → IsDecided (SomeTreeFrom start P t)
some_from_decided P decided start none = inr (λ h. h)
some_from_decided P decided start (tree s below next) = one_decided (decided start s below) (some_from_decided P decided (start + 1 + trees_count below) next)

-- ---- links in one direction only

same_pointer : (a b : Bytes) → Pointer a ≡ Pointer b → a ≡ b
same_pointer a b e = cc

void_pointer : (a : Bytes) → Void ≡ Pointer a → ⊥
void_pointer a e = cc

text_pointer : (lines : List Bytes) (a : Bytes) → Text lines ≡ Pointer a → ⊥
text_pointer lines a e = cc

same_some : (a b : Bytes) → Some a ≡ Some b → a ≡ b
same_some a b e = cc

none_some : (a : Bytes) → ◌≡◌ {A = Option Bytes} None (Some a) → ⊥
none_some a e = cc

pointer_decided : (payload : Payload) (P : Bytes → Type 0) → ((name : Bytes) → IsDecided (P name)) → IsDecided ((name : Bytes) × (payload ≡ Pointer name) × P name)
pointer_decided Void P decided = inr (λ h. void_pointer h.0 h.1)
pointer_decided (Text lines) P decided = inr (λ h. text_pointer lines h.0 h.1)
pointer_decided (Pointer name) P decided = elim (decided name) [
  | inl is ↦ inl (name, refl, is)
  | inr other ↦ inr (λ h. let same : h.0 ≡ name = sym (same_pointer name h.0 h.1) in other (rw same at h.2))
]

named_decided : (xref : Option Bytes) (payload : Payload) → IsDecided ((name : Bytes) × (xref ≡ Some name) × (payload ≡ Pointer name))
named_decided None payload = inr (λ h. none_some h.0 h.1)
named_decided (Some own) payload = elim (pointer_decided payload (λ name. own ≡ name) (λ name. same_or_other own name)) [
  | inl h ↦ inl (h.0, ap Some h.2, h.1)
  | inr other ↦ inr (λ h. other (h.0, h.2, same_some own h.0 h.1))
]

back_decided : (xref : Option Bytes) (tags : List Bytes) (s : Structure) (below : Trees) → IsDecided (PointsBack xref tags s below)
back_decided xref tags s below = elim (among_or_not s.tag tags) [
  | inr other ↦ inr (λ h. other h.0)
  | inl among ↦ elim (named_decided xref s.payload) [ inl h ↦ inl (among, h.0, h.1, h.2) | inr other ↦ inr (λ h. other (h.1, h.2, h.3)) ]
]

unanswered_decided : (name : Bytes) (xref : Option Bytes) (link : Link) (s : Structure) (below : Trees) → IsDecided (IsUnanswered name xref link s below)
unanswered_decided name xref link s below =
    three_decided (name_decided s.xref name) (same_or_other s.tag link.to)
    (not_decided (some_tree_decided (PointsBack xref link.answers) (back_decided xref link.answers) below))

abbrev IsOneWayBy : Trees → Bytes → Option Bytes → Structure → Link → Type 0
IsOneWayBy d at xref s link = (link.at ≡ at) × (link.tag ≡ s.tag) × (name : Bytes) × (s.payload ≡ Pointer name) × SomeTree (IsUnanswered name xref link) d

link_decided : (d : Trees) (at : Bytes) (xref : Option Bytes) (s : Structure) (link : Link) → IsDecided (IsOneWayBy d at xref s link)
link_decided d at xref s link = elim (same_or_other link.at at) [
  | inr other ↦ inr (λ h. other h.0)
  | inl under ↦ elim (same_or_other link.tag s.tag) [
    | inr other ↦ inr (λ h. other h.1)
    | inl tag ↦ elim (pointer_decided s.payload (λ name. SomeTree (IsUnanswered name xref link) d) (λ name. some_tree_decided (IsUnanswered name xref link) (unanswered_decided name xref link) d)) [
      | inl h ↦ inl (under, tag, h.0, h.1, h.2)
      | inr other ↦ inr (λ h. other (h.2, h.3, h.4))
    ]
  ]
]

one_way_decided : (d : Trees) (at : Bytes) (xref : Option Bytes) (s : Structure) (below : Trees) → IsDecided (IsOneWay d at xref s below)
one_way_decided d at xref s below = some_decided (IsOneWayBy d at xref s) (link_decided d at xref s) links

one_way_at_decided : (d : Trees) (place : ℕ) → IsDecided (OneWayAt d place)
one_way_at_decided d place =
    some_from_decided (λ start r children. SomeTreeFrom (start + 1) (λ here s below. (here ≡ place) × IsOneWay d r.tag r.xref s below) children)
    (λ start r children. some_from_decided (λ here s below. (here ≡ place) × IsOneWay d r.tag r.xref s below)
    (λ here s below. both_decided (number_decided here place) (one_way_decided d r.tag r.xref s below)) (start + 1) children)
    0 d

-- ---- unlisted tags

abbrev is_unchecked : Context → Bool
is_unchecked contexts.Unchecked = true
is_unchecked _ = false

asks : (c : Context) → is_unchecked c ≡ false → c ≢ contexts.Unchecked
asks c other e = false≢true (sym other ∙ ap is_unchecked e)

unchecked_is : (c : Context) → is_unchecked c ≡ true → c ≡ contexts.Unchecked
unchecked_is contexts.Unchecked e = refl
unchecked_is _ e = absurd (false≢true e)

asked_decided : (c : Context) → IsDecided (c ≢ contexts.Unchecked)
asked_decided c = elim (bool_cases (is_unchecked c)) [
  | inl nothing ↦ inr (λ asks. asks (unchecked_is c nothing))
  | inr other ↦ inl (asks c other)
]

unlisted_decided : (c : Context) (tag : Bytes) → IsDecided (IsUnlisted c tag)
unlisted_decided c tag = three_decided (true_decided (is_standard_tag tag)) (asked_decided c) (none_decided (row c tag))

unlisted_from_decided : (c : Context) (start : ℕ) (t : Trees) (place : ℕ) → IsDecided (UnlistedFrom c start t place)
unlisted_from_decided c start none place = inr (λ h. h)
unlisted_from_decided c start (tree s below next) place =
    one_decided (both_decided (unlisted_decided c s.tag) (number_decided place start))
    (one_decided (unlisted_from_decided (context_below c s.tag) (start + 1) below place) (unlisted_from_decided c (start + 1 + trees_count below) next place))

-- ---- each profile

module _ (d : Trees) where
  one_way_lowest : ((p : ℕ) × IsLowest (OneWayAt d) p) ⊎ (OneWay d → ⊥)
  one_way_lowest = elim (lowest_or_none (OneWayAt d) (one_way_at_decided d) (trees_count d)) [
    | inl low ↦ inl low
    | inr never ↦ inr (λ one. let (p, h) = (one_way_has_place d).0 one in never p (one_way_within d p h) h)
  ]

  unlisted_lowest : ((p : ℕ) × IsLowest (UnlistedAt d) p) ⊎ (Unlisted contexts.File d → ⊥)
  unlisted_lowest = elim (lowest_or_none (UnlistedAt d) (unlisted_from_decided contexts.File 0 d) (trees_count d)) [
    | inl low ↦ inl low
    | inr never ↦ inr (λ some. let (p, h) = unlisted_place contexts.File 0 d some in
        let inside = unlisted_within contexts.File 0 d p h in
        never p (omega (arith, inside.1)) h)
  ]

  first_of_both : (p q : ℕ) → IsLowest (OneWayAt d) p → IsLowest (UnlistedAt d) q → (at : SchemaAt) × IsFirstNotice d at
  first_of_both p q link tag = elim (cases_lt (line_at 1 d q) (line_at 1 d p)) [
    | inl tag_first ↦ (_, first_tag d (line_at 1 d q) (q, tag, refl) (λ r h. let l = one_way_lines d (line_at 1 d p) (p, link, refl) r h in omega (arith, l, tag_first)))
    | inr link_first ↦ (_, first_link d (line_at 1 d p) (p, link, refl) (λ r h. let l = unlisted_lines d (line_at 1 d q) (q, tag, refl) r h in omega (arith, l, link_first)))
  ]

  strictly : Checked d → ((p : ℕ) × IsLowest (OneWayAt d) p) ⊎ (OneWay d → ⊥) → ((p : ℕ) × IsLowest (UnlistedAt d) p) ⊎ (Unlisted contexts.File d → ⊥)
      → CheckedAs Strict d ⊎ ((at : SchemaAt) × IsFirstFaultAs Strict d at)
  strictly checked (inl (p, link)) (inl (q, tag)) = let first = first_of_both p q link tag in inr (first.0, inr (checked, first.1))
  strictly checked (inl (p, link)) (inr listed) = inr (_, inr (checked, first_link d (line_at 1 d p) (p, link, refl) (no_unlisted d (line_at 1 d p) listed)))
  strictly checked (inr straight) (inl (q, tag)) = inr (_, inr (checked, first_tag d (line_at 1 d q) (q, tag, refl) (no_one_way d (line_at 1 d q) straight)))
  strictly checked (inr straight) (inr listed) = inl (checked, record { both_ways = straight; all_listed = listed })

pub checked_or_fault : CheckedOrFault
checked_or_fault Lenient d = elim (are_checked d contexts.File 0 d) [
  | inl checked ↦ inl checked
  | inr (f, h) ↦ inr (record { line = line_at 1 d f.place; fault = f.fault }, (f, h, refl))
]
checked_or_fault Strict d = elim (are_checked d contexts.File 0 d) [
  | inl checked ↦ strictly d checked (one_way_lowest d) (unlisted_lowest d)
  | inr (f, h) ↦ inr (record { line = line_at 1 d f.place; fault = f.fault }, inl (f, h, refl))
]
