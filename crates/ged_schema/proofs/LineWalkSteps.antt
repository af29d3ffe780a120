-- One structure's lines, read by a walk over the lines of a document.
use Rattle.std.proofs.Common.{◌≡◌, ◌≢◌, ℕ, zero, suc, ◌+◌, ◌==◌, ◌&&◌, Bool, true, false, not, sym, ◌∙◌, ap, refl, arith, List, [], ◌∷◌, ◌++◌, map, inl, inr, Option, Some, None, slice_get, subst, nat_le, eqb→eq, T}
use Rattle.std.specs.Prelude.{◌⊎◌, codes}
use Rattle.std.specs.Option.{option_map_or}
use Rattle.std.specs.List.{list_all}
use Rattle.std.specs.Str.{bytes_eq}
use Rattle.std.specs.Int.{bit_at}
use Rattle.std.proofs.lemmas.Slice.Eq.{bytes_eq-Decides}
use Rattle.ged_line.specs.Bytes.{Bytes}
use Rattle.ged_line.specs.Lines.{LineParts, line_parts}
use Rattle.ged_line.specs.Names.{is_tag, is_xref}
use Rattle.ged_tree.specs.declared.payload.Payload.{Payload}
use Rattle.ged_tree.specs.declared.payload.Payload.TheVariants.{Void, Pointer, Text}
use Rattle.ged_tree.specs.Trees.{Structure, Trees, tree, further_lines}
use Rattle.ged_tree.specs.Documents.{is_structure_at, is_payload_at}
use Rattle.ged_tree.specs.DocumentLines.{line_value, first_value}
use Rattle.ged_value.specs.declared.kind.Kind.{Kind}
use Rattle.ged_value.specs.Kinds.{takes_lines, target}
use Rattle.ged_link.specs.LedByTags.{led_by, IsLed}
use Rattle.ged_schema.specs.declared.context.Context.{Context}
use Rattle.ged_schema.specs.declared.context.Context.TheVariants as contexts
use Rattle.ged_schema.specs.declared.line_walk.LineWalk.{LineWalk}
use Rattle.ged_schema.specs.Rows.{Row}
use Rattle.ged_schema.specs.Tables.{rows, row}
use Rattle.ged_schema.specs.Payloads.{IsOfKind}
use Rattle.ged_schema.specs.Checked.{PointsRight, count_of}
use Rattle.ged_schema.specs.inner.LineWalks.{open_at, FitsValue, MarksTag, Opens, Takes, goes_on, ends, opens, Walks}
use Rattle.ged_schema.proofs.Decided.{bool_cases, and_left, and_right}
use Rattle.ged_schema.proofs.Marking.{AreMarked, IsMarked}
use Rattle.ged_schema.proofs.Numbers.{row_found}
use Rattle.ged_schema.proofs.Runs.{count_same, count_other}

-- lines that are read in two parts
pub walks_apart : (a b : List LineParts) (s u : LineWalk) → Walks s (a ++ b) u → (m : LineWalk) × Walks s a m × Walks m b u
walks_apart [] b s u walks = (s, refl, walks)
walks_apart (line ∷ a) b s u (m, takes, rest) = let (n, first, second) = walks_apart a b m u rest in (n, (m, takes, first), second)

-- the further lines of a payload change nothing, and come only where they may
pub further_read : (level : ℕ) (texts : List Bytes) (s u : LineWalk) → Walks s (map (λ line. line_parts (level + 1) None (codes "CONT") (line_value line)) texts) u
    → (u ≡ s) × ((texts ≡ []) ⊎ (takes_lines s.last ≡ true))
further_read level [] s u walks = (walks, inl refl)
further_read level (text ∷ texts) s u (m, goes_on cont may same, rest) = ((further_read level texts m u rest).0 ∙ same, inr may)
further_read level (text ∷ texts) s u (m, ends other trailer same, rest) = cc
further_read level (text ∷ texts) s u (m, opens other nor opened, rest) = cc

never : (b : Bool) → b ≡ true → b ≡ false → ⊥
never true t f = cc
never false t f = cc

-- the parts of a structure's test
module _ (level : ℕ) (s : Structure) (at : is_structure_at level s ≡ true) where
  abbrev names : Bool
  names = is_tag s.tag && not (bytes_eq s.tag (codes "CONT"))

  abbrev parts : Bool
  parts = option_map_or (λ name. (level == 0) && is_xref name) s.xref true && is_payload_at level s.payload

  pub structure_payload : is_payload_at level s.payload ≡ true
  structure_payload = and_right (option_map_or (λ name. (level == 0) && is_xref name) s.xref true) (is_payload_at level s.payload) (and_right (nat_le level 99 && names) parts at)

  pub structure_is_no_cont : bytes_eq s.tag (codes "CONT") ≡ false
  structure_is_no_cont = other (bytes_eq s.tag (codes "CONT")) (and_right (is_tag s.tag) (not (bytes_eq s.tag (codes "CONT"))) (and_right (nat_le level 99) names (and_left (nat_le level 99 && names) parts at)))
    where
      other : (b : Bool) → not b ≡ true → b ≡ false
      other true h = cc
      other false h = refl

  -- its own line opens it
  pub structure_opens : (level ≡ 0 → bytes_eq s.tag (codes "TRLR") ≡ false) → (old new : LineWalk) → Takes (line_parts level s.xref s.tag (first_value s.payload)) old new
      → Opens (open_at old level).context level (line_parts level s.xref s.tag (first_value s.payload)) old new
  structure_opens bare old new (goes_on cont may same) = absurd (never (bytes_eq s.tag (codes "CONT")) cont structure_is_no_cont)
  structure_opens bare old new (ends other trailer same) =
      let top : level ≡ 0 = eqb→eq level 0 (subst T (sym (and_left (level == 0) (bytes_eq s.tag (codes "TRLR")) trailer)) tt) in
      absurd (never (bytes_eq s.tag (codes "TRLR")) (and_right (level == 0) (bytes_eq s.tag (codes "TRLR")) trailer) (bare top))
  structure_opens bare old new (opens other nor opened) = opened

-- a structure's tag marks its row among those of its context
pub tag_marked : (rs : List Row) (before after : ℕ) (s : Structure) (b n all : Trees) → MarksTag rs s.tag before after → AreMarked rs before (tree s b n) all → AreMarked rs after n all
tag_marked rs before after s b n all marks so_far i r stands = elim (bool_cases (bytes_eq s.tag r.tag)) [
  | inl same ↦ (
      let tag : s.tag ≡ r.tag = (bytes_eq-Decides s.tag r.tag).0 same in
      let one : count_of r.tag (tree s b n) ≡ 1 + count_of r.tag n = count_same r.tag (tree s b n) s b n refl tag in
      let (new, free) = (marks i r stands).0 (sym tag) in
      let old : IsMarked (bit_at before i) (count_of r.tag (tree s b n)) (count_of r.tag all) r.most = so_far i r stands in
      record {
        some = omega (arith, new, one, old.some);
        each = elim free [
          | inl any ↦ inl any
          | inr fresh ↦ elim old.each [
            | inl any ↦ inl any
            | inr most ↦ inr (omega (arith, new, one, most, fresh))
          ]
        ];
      })
  | inr other ↦ (
      let apart : r.tag ≢ s.tag = λ e. (let equal : bytes_eq s.tag r.tag ≡ true = (bytes_eq-Decides s.tag r.tag).1 (sym e) in cc) in
      let new : bit_at after i ≡ bit_at before i = (marks i r stands).1 apart in
      let rest : count_of r.tag (tree s b n) ≡ count_of r.tag n = count_other r.tag (tree s b n) s b n refl other in
      let old : IsMarked (bit_at before i) (count_of r.tag (tree s b n)) (count_of r.tag all) r.most = so_far i r stands in
      record {
        some = omega (arith, new, rest, old.some);
        each = elim old.each [
          | inl any ↦ inl any
          | inr most ↦ inr (omega (arith, new, rest, most))
        ];
      })
]

-- a payload is of a kind by its first line, and by whether it has more
pub payload_fits : (level : ℕ) (kind : Kind) (payload : Payload) → is_payload_at level payload ≡ true → FitsValue kind (first_value payload)
    → (further_lines payload ≡ []) ⊎ (takes_lines kind ≡ true) → IsOfKind kind payload
payload_fits level kind Void at fits more = fits
payload_fits level kind (Pointer name) at fits more = fits
payload_fits level kind (Text []) at fits more = cc
payload_fits level kind (Text ([] ∷ [])) at fits more = fits
payload_fits level kind (Text ((b ∷ bs) ∷ [])) at fits more = fits
payload_fits level kind (Text (line ∷ next ∷ lines)) at fits (inl nothing) = cc
payload_fits level kind (Text (line ∷ next ∷ lines)) at fits (inr many) = many

-- where a pointer's tag says to which records it leads, the tables want no other
abbrev wanted_by_tag : Option Bytes → Option Bytes → Bool
wanted_by_tag None led = true
wanted_by_tag (Some wanted) None = false
wanted_by_tag (Some wanted) (Some led) = bytes_eq led wanted

abbrev is_wanted_by_tag : Row → Bool
is_wanted_by_tag r = wanted_by_tag (target r.kind) (led_by r.tag)

all_wanted : (c : Context) → list_all is_wanted_by_tag (rows c) ≡ true
unfolding rows target
all_wanted contexts.File = refl
all_wanted contexts.Head = refl
all_wanted contexts.Gedc = refl
all_wanted contexts.Schma = refl
all_wanted contexts.HeadSour = refl
all_wanted contexts.HeadData = refl
all_wanted contexts.HeadPlac = refl
all_wanted contexts.DateTime = refl
all_wanted contexts.DateMore = refl
all_wanted contexts.Phrase = refl
all_wanted contexts.Typed = refl
all_wanted contexts.Indi = refl
all_wanted contexts.IndiFact = refl
all_wanted contexts.IndiNamed = refl
all_wanted contexts.IndiBirth = refl
all_wanted contexts.IndiAdop = refl
all_wanted contexts.AdopFamc = refl
all_wanted contexts.IndiFamc = refl
all_wanted contexts.Notes = refl
all_wanted contexts.NameMore = refl
all_wanted contexts.NameTran = refl
all_wanted contexts.Fam = refl
all_wanted contexts.FamFact = refl
all_wanted contexts.FamNamed = refl
all_wanted contexts.FamAge = refl
all_wanted contexts.NonEvent = refl
all_wanted contexts.Chan = refl
all_wanted contexts.Crea = refl
all_wanted contexts.Asso = refl
all_wanted contexts.Cite = refl
all_wanted contexts.CiteData = refl
all_wanted contexts.Note = refl
all_wanted contexts.Leaf = refl
all_wanted contexts.Unchecked = refl

all_at : (P : Row → Bool) (rs : List Row) (i : ℕ) (r : Row) → list_all P rs ≡ true → slice_get rs i ≡ Some r → P r ≡ true
all_at P [] i r all e = cc
all_at P (q ∷ rs) zero r all e = subst (λ (x : Row). P x ≡ true) (some_is q r e) (and_left (P q) (list_all P rs) all)
  where
    some_is : (x y : Row) → Some x ≡ Some y → x ≡ y
    some_is x y e = cc
all_at P (q ∷ rs) (suc i) r all e = all_at P rs i r (and_right (P q) (list_all P rs) all) e

pub led_as_wanted : (c : Context) (tag : Bytes) (r : Row) → row c tag ≡ Some r → (wanted : Bytes) → target r.kind ≡ Some wanted → led_by tag ≡ Some wanted
unfolding row
led_as_wanted c tag r some wanted leads =
    let found = row_found (rows c) tag r some in
    subst (λ (t : Bytes). led_by t ≡ Some wanted) found.same (told (target r.kind) (led_by r.tag) leads (all_at is_wanted_by_tag (rows c) found.number r (all_wanted c) found.stands))
  where
    told : (o led : Option Bytes) → o ≡ Some wanted → wanted_by_tag o led ≡ true → led ≡ Some wanted
    told None led e h = absurd (none_some e)
      where
        none_some : None ≡ Some wanted → ⊥
        none_some e = cc
    told (Some w) None e h = cc
    told (Some w) (Some l) e h = ap Some ((bytes_eq-Decides l w).0 h) ∙ e

-- so a pointer that leads where its tag says leads to what its row wants
pub points_by_tag : (d : Trees) (wanted : Option Bytes) (tag : Bytes) (payload : Payload) → ((t : Bytes) → wanted ≡ Some t → led_by tag ≡ Some t) → IsLed d tag payload
    → PointsRight d wanted payload
points_by_tag d None tag Void leads led = tt
points_by_tag d None tag (Pointer name) leads led = tt
points_by_tag d None tag (Text lines) leads led = tt
points_by_tag d (Some t) tag Void leads led = tt
points_by_tag d (Some t) tag (Pointer name) leads led = rw (leads t refl) at led
points_by_tag d (Some t) tag (Text lines) leads led = tt
