-- The first notice of a document: lower places stand on lower lines, and no place has two notices.
use Rattle.std.proofs.Common.{◌≡◌, ℕ, zero, suc, ◌+◌, ◌-◌, ◌<◌, ◌≤◌, sym, ◌∙◌, refl, arith, inl, inr, None}
use Rattle.std.specs.Prelude.{◌↔◌, MatchResult, Result, Ok, Err}
use Rattle.std.proofs.lemmas.Bool.{cases_lt}
use Rattle.ged_tree.specs.Trees.{Trees, none, tree, trees_count, Structure}
use Rattle.ged_tree.specs.Places.{line_at}
use Rattle.ged_tree.proofs.CallerLemmas.{next_line}
use Rattle.ged_link.specs.LinkFaults.{IsLowest}
use Rattle.ged_link.specs.Links.{IsAmong}
use Rattle.ged_link.specs.Notices.{Link, links, OneWay, OneWayAt, IsOneWay, SomeTreeFrom}
use Rattle.ged_link.proofs.CallerLemmas.{one_way_within, one_way_has_place}
use Rattle.ged_schema.specs.declared.context.Context.TheVariants.{File}
use Rattle.ged_schema.specs.declared.fault.FaultPlace.{FaultPlace}
use Rattle.ged_schema.specs.declared.fault.SchemaAt.{SchemaAt}
use Rattle.ged_schema.specs.declared.fault.SchemaFault.TheVariants.{OneWayLink, UnlistedTag}
use Rattle.ged_schema.specs.Tables.{row, rows, context_below}
use Rattle.ged_schema.specs.Unlisted.{Unlisted, UnlistedFrom, UnlistedAt}
use Rattle.ged_schema.specs.declared.profile.Profile.{Profile}
use Rattle.ged_schema.specs.declared.profile.Profile.TheVariants.{Lenient, Strict}
use Rattle.ged_schema.specs.Profiles.{CheckedAs, NoNotice, IsNotice, IsFirstNotice, IsFirstFaultAs}
use Rattle.ged_schema.proofs.FaultLaws.{one_first_fault, no_first_fault}
use Rattle.ged_schema.proofs.FirstUnlisted.{unlisted_within, place_has}

-- of two places the lower stands on the lower line
line_rises : (d : Trees) (p k : ℕ) → p + 1 + k < trees_count d → line_at 1 d p < line_at 1 d (p + 1 + k)
line_rises d p zero inside =
    let e = next_line d p (omega (arith, inside)) in
    let same : p + 1 + 0 ≡ p + 1 = omega arith in
    rw same (omega (arith, e))
line_rises d p (suc k) inside =
    let more = line_rises d p k (omega (arith, inside)) in
    let e = next_line d (p + 1 + k) (omega (arith, inside)) in
    let same : p + 1 + suc k ≡ p + 1 + k + 1 = omega arith in
    rw same (omega (arith, more, e))

pub lower_line : (d : Trees) (p q : ℕ) → p < q → q < trees_count d → line_at 1 d p < line_at 1 d q
lower_line d p q below inside =
    let e : p + 1 + (q - p - 1) ≡ q = omega (arith, below) in
    rw e at (line_rises d p (q - p - 1) (omega (arith, below, inside)))

unlisted_inside : (d : Trees) (p : ℕ) → UnlistedAt d p → p < trees_count d
unlisted_inside d p h = let k = unlisted_within File 0 d p h in omega (arith, k.1)

-- the structure that stands lowest begins on the lowest line
lowest_line : (d : Trees) (P : ℕ → Type 0) → ((q : ℕ) → P q → q < trees_count d) → (p : ℕ) → IsLowest P p → (q : ℕ) → P q → line_at 1 d p ≤ line_at 1 d q
lowest_line d P inside p low q h = elim (cases_lt p q) [
  | inl below ↦ (let l = lower_line d p q below (inside q h) in omega (arith, l))
  | inr above ↦ (let e : p ≡ q = omega (arith, above, low.1 q h) in rw e (omega arith))
]

-- a line on which the first link in one direction only begins, or the first structure with an unlisted tag
abbrev pub HasLowest : Trees → (ℕ → Type 0) → ℕ → Type 0
HasLowest d P line = (p : ℕ) × IsLowest P p × (line ≡ line_at 1 d p)

module _ (d : Trees) (line : ℕ) where
  pub one_way_lines : HasLowest d (OneWayAt d) line → (q : ℕ) → OneWayAt d q → line ≤ line_at 1 d q
  one_way_lines (p, low, e) q h = let l = lowest_line d (OneWayAt d) (one_way_within d) p low q h in omega (arith, l, e)

  pub unlisted_lines : HasLowest d (UnlistedAt d) line → (q : ℕ) → UnlistedAt d q → line ≤ line_at 1 d q
  unlisted_lines (p, low, e) q h = let l = lowest_line d (UnlistedAt d) (unlisted_inside d) p low q h in omega (arith, l, e)

  pub first_link : HasLowest d (OneWayAt d) line → ((q : ℕ) → UnlistedAt d q → line ≤ line_at 1 d q) → IsFirstNotice d (record { line = line; fault = OneWayLink })
  first_link (p, low, e) others = (
    record { place = p; fault = OneWayLink },
    inl (low.0, refl),
    λ other notice. elim notice [
      | inl h ↦ lowest_line d (OneWayAt d) (one_way_within d) p low other.place h.0
      | inr h ↦ (let l = others other.place h.0 in omega (arith, l, e))
    ],
    rw e refl,
  )

  pub first_tag : HasLowest d (UnlistedAt d) line → ((q : ℕ) → OneWayAt d q → line ≤ line_at 1 d q) → IsFirstNotice d (record { line = line; fault = UnlistedTag })
  first_tag (p, low, e) others = (
    record { place = p; fault = UnlistedTag },
    inr (low.0, refl),
    λ other notice. elim notice [
      | inl h ↦ (let l = others other.place h.0 in omega (arith, l, e))
      | inr h ↦ lowest_line d (UnlistedAt d) (unlisted_inside d) p low other.place h.0
    ],
    rw e refl,
  )

  pub no_unlisted : (Unlisted File d → ⊥) → (q : ℕ) → UnlistedAt d q → line ≤ line_at 1 d q
  no_unlisted never q h = absurd (never (place_has File 0 d q h))

  pub no_one_way : (OneWay d → ⊥) → (q : ℕ) → OneWayAt d q → line ≤ line_at 1 d q
  no_one_way never q h = absurd (never ((one_way_has_place d).1 (q, h)))

-- ---- no place has two notices

-- the tables list each link where it stands
row_of_link : (link : Link) → IsAmong link links → row (context_below File link.at) link.tag ≡ None → ⊥
unfolding row rows
row_of_link link (inl e) nothing = let k = rw e at nothing in cc
row_of_link link (inr (inl e)) nothing = let k = rw e at nothing in cc
row_of_link link (inr (inr (inl e))) nothing = let k = rw e at nothing in cc
row_of_link link (inr (inr (inr (inl e)))) nothing = let k = rw e at nothing in cc
row_of_link link (inr (inr (inr (inr (inl e))))) nothing = let k = rw e at nothing in cc
row_of_link link (inr (inr (inr (inr (inr h))))) nothing = h

link_has_row : (d below : Trees) (r s : Structure) → IsOneWay d r.tag r.xref s below → row (context_below File r.tag) s.tag ≡ None → ⊥
link_has_row d below r s (link, among, h) nothing = row_of_link link among (rw (sym h.0, sym h.1) at nothing)

module _ (d : Trees) (p : ℕ) where
  -- a link of the record stands at the place
  abbrev LinkFrom : Structure → ℕ → Trees → Type 0
  LinkFrom r start t = SomeTreeFrom start (λ here s below. (here ≡ p) × IsOneWay d r.tag r.xref s below) t

  abbrev LinksFrom : ℕ → Trees → Type 0
  LinksFrom start t = SomeTreeFrom start (λ here r children. LinkFrom r (here + 1) children) t

  link_within : (r : Structure) (start : ℕ) (t : Trees) → LinkFrom r start t → (start ≤ p) × (p < start + trees_count t)
  link_within r start none h = absurd h
  link_within r start (tree s b n) (inl h) = (omega (arith, h.0), omega (arith, h.0))
  link_within r start (tree s b n) (inr h) = let k = link_within r (start + 1 + trees_count b) n h in (omega (arith, k.0), omega (arith, k.1))

  links_after : (start : ℕ) (t : Trees) → LinksFrom start t → start ≤ p
  links_after start none h = absurd h
  links_after start (tree r b n) (inl h) = let k = link_within r (start + 1) b h in omega (arith, k.0)
  links_after start (tree r b n) (inr h) = let k = links_after (start + 1 + trees_count b) n h in omega (arith, k)

  link_listed : (r : Structure) (start : ℕ) (t : Trees) → LinkFrom r start t → UnlistedFrom (context_below File r.tag) start t p → ⊥
  link_listed r start none h u = h
  link_listed r start (tree s b n) (inl h) (inl u) = link_has_row d b r s h.1 u.0.2
  link_listed r start (tree s b n) (inl h) (inr (inl u)) =
      let w = unlisted_within (context_below (context_below File r.tag) s.tag) (start + 1) b p u in omega (arith, w.0, h.0)
  link_listed r start (tree s b n) (inl h) (inr (inr u)) =
      let w = unlisted_within (context_below File r.tag) (start + 1 + trees_count b) n p u in omega (arith, w.0, h.0)
  link_listed r start (tree s b n) (inr h) (inl u) = let k = link_within r (start + 1 + trees_count b) n h in omega (arith, k.0, u.1)
  link_listed r start (tree s b n) (inr h) (inr (inl u)) =
      let k = link_within r (start + 1 + trees_count b) n h in
      let w = unlisted_within (context_below (context_below File r.tag) s.tag) (start + 1) b p u in omega (arith, w.1, k.0)
  link_listed r start (tree s b n) (inr h) (inr (inr u)) = link_listed r (start + 1 + trees_count b) n h u

  links_listed : (start : ℕ) (t : Trees) → LinksFrom start t → UnlistedFrom File start t p → ⊥
  links_listed start none h u = h
  links_listed start (tree r b n) (inl h) (inl u) = let k = link_within r (start + 1) b h in omega (arith, k.0, u.1)
  links_listed start (tree r b n) (inl h) (inr (inl u)) = link_listed r (start + 1) b h u
  links_listed start (tree r b n) (inl h) (inr (inr u)) =
      let k = link_within r (start + 1) b h in
      let w = unlisted_within File (start + 1 + trees_count b) n p u in omega (arith, w.0, k.1)
  links_listed start (tree r b n) (inr h) (inl u) = let k = links_after (start + 1 + trees_count b) n h in omega (arith, k, u.1)
  links_listed start (tree r b n) (inr h) (inr (inl u)) =
      let k = links_after (start + 1 + trees_count b) n h in
      let w = unlisted_within (context_below File r.tag) (start + 1) b p u in omega (arith, w.1, k)
  links_listed start (tree r b n) (inr h) (inr (inr u)) = links_listed (start + 1 + trees_count b) n h u

one_notice : (d : Trees) (p : ℕ) → OneWayAt d p → UnlistedAt d p → ⊥
one_notice d p h u = links_listed d p 0 d h u

notice_inside : (d : Trees) (f : FaultPlace) → IsNotice d f → f.place < trees_count d
notice_inside d f (inl h) = one_way_within d f.place h.0
notice_inside d f (inr h) = unlisted_inside d f.place h.0

-- places on one line are the same
same_line : (d : Trees) (p q : ℕ) → p < trees_count d → q < trees_count d → line_at 1 d p ≡ line_at 1 d q → p ≡ q
same_line d p q inside other e = elim (cases_lt p q) [
  | inl below ↦ (let l = lower_line d p q below other in absurd (omega (arith, l, e)))
  | inr above ↦ elim (cases_lt q p) [
    | inl below ↦ (let l = lower_line d q p below inside in absurd (omega (arith, l, e)))
    | inr equal ↦ omega (arith, above, equal)
  ]
]

pub two_lines : (d : Trees) (p q : ℕ) → OneWayAt d p → UnlistedAt d q → line_at 1 d p ≡ line_at 1 d q → ⊥
two_lines d p q h u e = let same : p ≡ q = same_line d p q (one_way_within d p h) (unlisted_inside d q u) e in one_notice d p h (rw (sym same) at u)

same_notice : (d : Trees) (f g : FaultPlace) → f.place ≡ g.place → IsNotice d f → IsNotice d g → f.fault ≡ g.fault
same_notice d f g e (inl h) (inl k) = h.1 ∙ sym k.1
same_notice d f g e (inl h) (inr k) = absurd (one_notice d f.place h.0 (rw (sym e) at k.0))
same_notice d f g e (inr h) (inl k) = absurd (one_notice d f.place (rw (sym e) at k.0) h.0)
same_notice d f g e (inr h) (inr k) = h.1 ∙ sym k.1

pub one_first_notice : (d : Trees) (at other : SchemaAt) → IsFirstNotice d at → IsFirstNotice d other → at ≡ other
one_first_notice d at other (f, h, low, e) (g, k, low', e') =
    let lines : line_at 1 d f.place ≡ line_at 1 d g.place = omega (arith, low g k, low' f h) in
    let places : f.place ≡ g.place = same_line d f.place g.place (notice_inside d f h) (notice_inside d g k) lines in
    e ∙ rw (lines, same_notice d f g places h k) refl ∙ sym e'

pub no_first_notice : (d : Trees) (at : SchemaAt) → NoNotice d → IsFirstNotice d at → ⊥
no_first_notice d at without (f, inl h, low, e) = without.both_ways ((one_way_has_place d).1 (f.place, h.0))
no_first_notice d at without (f, inr h, low, e) = without.all_listed (place_has File 0 d f.place h.0)

-- ---- each profile

pub one_first_fault_as : (profile : Profile) (d : Trees) (at other : SchemaAt) → IsFirstFaultAs profile d at → IsFirstFaultAs profile d other → at ≡ other
one_first_fault_as Lenient d at other h k = one_first_fault d at other h k
one_first_fault_as Strict d at other (inl h) (inl k) = one_first_fault d at other h k
one_first_fault_as Strict d at other (inl h) (inr k) = absurd (no_first_fault d at k.0 h)
one_first_fault_as Strict d at other (inr h) (inl k) = absurd (no_first_fault d other h.0 k)
one_first_fault_as Strict d at other (inr h) (inr k) = one_first_notice d at other h.1 k.1

pub no_fault_as : (profile : Profile) (d : Trees) (at : SchemaAt) → CheckedAs profile d → IsFirstFaultAs profile d at → ⊥
no_fault_as Lenient d at checked h = no_first_fault d at checked h
no_fault_as Strict d at checked (inl h) = no_first_fault d at checked.0 h
no_fault_as Strict d at checked (inr h) = no_first_notice d at checked.1 h.1

-- an answer that tells one or the other
pub faulty : (profile : Profile) (d : Trees) (answer : Result (Unit {0}) SchemaAt) → MatchResult answer (λ _. CheckedAs profile d) (λ at. IsFirstFaultAs profile d at)
    → ((at : SchemaAt) × IsFirstFaultAs profile d at) ↔ (CheckedAs profile d → ⊥)
faulty profile d (Ok _) h = (λ f checked. no_fault_as profile d f.0 checked f.1, λ never. absurd (never h))
faulty profile d (Err at) h = (λ f checked. no_fault_as profile d f.0 checked f.1, λ never. (at, h))
