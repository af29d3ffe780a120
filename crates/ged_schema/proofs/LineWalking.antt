-- A walk over the lines of a document that holds says that the document is as the tables ask.
use Rattle.std.proofs.Common.{◌≡◌, ℕ, zero, suc, ◌+◌, ◌^◌, ◌<◌, ◌&&◌, Bool, true, false, not, sym, ◌∙◌, ap, refl, arith, [], ◌∷◌, ◌++◌, map, inl, inr, Option, Some, None, subst, nat_lt, length}
use Rattle.std.specs.Prelude.{◌⊎◌, ◌↔◌, IfSome, IsTrue, codes, ⊤, is_none}
use Rattle.std.specs.Option.{option_map_or}
use Rattle.std.specs.List.{AllByRecursion}
use Rattle.std.specs.Str.{bytes_eq}
use Rattle.std.proofs.lemmas.Slice.Eq.{bytes_eq-Decides}
use Rattle.ged_line.specs.Bytes.{Bytes}
use Rattle.ged_line.specs.Lines.{line_parts, Empty}
use Rattle.ged_tree.specs.Trees.{Structure, Trees, none, tree, further_lines}
use Rattle.ged_tree.specs.Documents.{is_document, are_at, are_records, is_structure_at}
use Rattle.ged_tree.specs.DocumentLines.{line_value, first_value, lines_of, document_lines}
use Rattle.ged_tree.proofs.CallerLemmas.{at_of_document}
use Rattle.ged_value.specs.Kinds.{takes_lines, target}
use Rattle.ged_link.specs.LedByTags.{AreLed, IsLed}
use Rattle.ged_schema.specs.declared.context.Context.{Context}
use Rattle.ged_schema.specs.declared.context.Context.TheVariants.{File}
use Rattle.ged_schema.specs.declared.line_walk.Open.{Open}
use Rattle.ged_schema.specs.declared.line_walk.LineWalk.{LineWalk}
use Rattle.ged_schema.specs.Rows.{Row}
use Rattle.ged_schema.specs.Tables.{rows, row, context_below, below_row}
use Rattle.ged_schema.specs.Checked.{AreChecked, Checked, MeetsRow, CountsRight}
use Rattle.ged_schema.specs.Unlisted.{Unlisted}
use Rattle.ged_schema.specs.inner.LineWalks.{open_at, FitsValue, IsClosed, IsFirst, HasWalked, Opens, Takes, goes_on, ends, opens, Walks}
use Rattle.ged_schema.specs.inner.Marks.{are_simple, AreMarkedAsNeeded}
use Rattle.ged_schema.proofs.Decided.{and_left, and_right}
use Rattle.ged_schema.proofs.Marking.{AreMarked, none_marked, marked_right}
use Rattle.ged_schema.proofs.LineWalkSteps.{walks_apart, further_read, structure_payload, structure_opens, tag_marked, payload_fits, led_as_wanted, points_by_tag}

-- no tree at level 0 is TRLR's
abbrev AreNoTrailers : ℕ → Trees → Type 0
AreNoTrailers level none = ⊤
AreNoTrailers level (tree s b n) = (level ≡ 0 → bytes_eq s.tag (codes "TRLR") ≡ false) × AreNoTrailers level n

deeper_are_no_trailers : (level : ℕ) (t : Trees) → AreNoTrailers (level + 1) t
deeper_are_no_trailers level none = tt
deeper_are_no_trailers level (tree s b n) = (λ top. absurd (omega (arith, top)), deeper_are_no_trailers level n)

-- what reading the lines of trees, which stand in a context at a level, tells of them
record TreesWalked (d : Trees) (c : Context) (level : ℕ) (t : Trees) (old new : LineWalk) : Type 0 where
  kept : (l : ℕ) → l < level → open_at new l ≡ open_at old l
  here : (open_at new level).context ≡ c
  marked : (all : Trees) → AreMarked (rows c) (open_at old level).marks t all → AreMarked (rows c) (open_at new level).marks none all
  checked : ((l : ℕ) → level < l → IsClosed new l) → AreLed d t → AreChecked d c t × ((l : ℕ) → level < l → IsClosed old l)
  noted : (new.noted ≡ true) ↔ ((old.noted ≡ true) ⊎ Unlisted c t)

nothing_walked : (d : Trees) (c : Context) (level : ℕ) (walk : LineWalk) → (open_at walk level).context ≡ c → TreesWalked d c level none walk walk
nothing_walked d c level walk here = record {
  kept = λ l under. refl;
  here = here;
  marked = λ all so_far. so_far;
  checked = λ closed led. (tt, closed);
  noted = (λ told. inl told, λ h. elim h [ inl told ↦ told | inr never ↦ absurd never ]);
}

-- a structure's payload and substructures meet its row
row_met : (d : Trees) (c : Context) (level : ℕ) (s : Structure) (b : Trees) (o : Option Row) → row c s.tag ≡ o → is_structure_at level s ≡ true
    → IfSome o (λ r. FitsValue r.kind (first_value s.payload)) → (further_lines s.payload ≡ []) ⊎ (option_map_or (λ r. takes_lines r.kind) o true ≡ true)
    → IsLed d s.tag s.payload → AllByRecursion (CountsRight b) (rows (below_row o)) → MeetsRow d o s.payload b
row_met d c level s b None is at fits more led counted = tt
row_met d c level s b (Some r) is at fits more led counted = (
  payload_fits level r.kind s.payload (structure_payload level s at) fits more,
  points_by_tag d (target r.kind) s.tag s.payload (led_as_wanted c s.tag r is) led,
  counted,
)

-- what stands open and closed at a level counts right
counted_right : (c : Context) (t : Trees) (walk : LineWalk) (level : ℕ) → (open_at walk level).context ≡ c → IsClosed walk level
    → AreMarked (rows c) (open_at walk level).marks none t → AllByRecursion (CountsRight t) (rows c)
counted_right c t walk level here (needed, simple, marks) marked =
    marked_right needed (rows c) (open_at walk level).marks none t refl (subst (λ (x : Context). are_simple needed 0 (rows x) ≡ true) here simple) marks marked

trees_walked : (d : Trees) (c : Context) (level : ℕ) (t : Trees) (old new : LineWalk) → are_at level t ≡ true → AreNoTrailers level t → (open_at old level).context ≡ c
    → Walks old (lines_of level t) new → TreesWalked d c level t old new
trees_walked d c level none old new at bare here walks = subst (λ (w : LineWalk). TreesWalked d c level none old w) (sym walks) (nothing_walked d c level old here)
trees_walked d c level (tree s b n) old new at bare here (m, takes, rest) =
    let at_here : is_structure_at level s ≡ true = and_left (is_structure_at level s) (are_at (level + 1) b && are_at level n) at in
    let at_rest : (are_at (level + 1) b && are_at level n) ≡ true = and_right (is_structure_at level s) (are_at (level + 1) b && are_at level n) at in
    let line = line_parts level s.xref s.tag (first_value s.payload) in
    let opened : Opens c level line old m = subst (λ (x : Context). Opens x level line old m) here (structure_opens level s at_here bare.0 old m takes) in
    let further = map (λ text. line_parts (level + 1) None (codes "CONT") (line_value text)) (further_lines s.payload) in
    let (e, whole, next) = walks_apart (further ++ lines_of (level + 1) b) (lines_of level n) m new rest in
    let (k, conts, below) = walks_apart further (lines_of (level + 1) b) m e whole in
    let (same, more) = further_read level (further_lines s.payload) m k conts in
    let cb = context_below c s.tag in
    let under : TreesWalked d cb (level + 1) b m e = trees_walked d cb (level + 1) b m e
    (and_left (are_at (level + 1) b) (are_at level n) at_rest) (deeper_are_no_trailers level b) (ap (λ (o : Open). o.context) opened.below)
    (subst (λ (w : LineWalk). Walks w (lines_of (level + 1) b) e) same below) in
    let same_here : open_at e level ≡ open_at m level = under.kept level (omega arith) in
    let last : TreesWalked d c level n e new = trees_walked d c level n e new
    (and_right (are_at (level + 1) b) (are_at level n) at_rest) bare.1 (ap (λ (o : Open). o.context) same_here ∙ opened.here) next in
    record {
      kept = λ l lower. last.kept l lower ∙ under.kept l (omega (arith, lower)) ∙ opened.others l (λ e. absurd (omega (arith, lower, e))) (λ e. absurd (omega (arith, lower, e)));
      here = last.here;
      marked = λ all so_far. last.marked all (subst (λ (o : Open). AreMarked (rows c) o.marks n all) (sym same_here) (tag_marked (rows c) (open_at old level).marks (open_at m level).marks s b n all opened.marked so_far));
      checked = λ closed led.
          let (rest_checked, closed_after) = last.checked closed led.1.1 in
          let (below_checked, closed_before) = under.checked (λ l deeper. closed_after l (omega (arith, deeper))) led.1.0 in
          let counted : AllByRecursion (CountsRight b) (rows cb) = counted_right cb b e (level + 1) under.here (closed_after (level + 1) (omega arith))
          (under.marked b (subst (λ (o : Open). AreMarked (rows cb) o.marks b b) (sym opened.below) (none_marked (rows cb) b))) in (
            (
              row_met d c level s b (row c s.tag) refl at_here opened.fits (elim more [ inl alone ↦ inl alone | inr may ↦ inr (sym opened.goes_on ∙ may) ]) led.0 counted,
              below_checked,
              rest_checked,
            ),
            λ l deeper. elim (next_or_deeper level l deeper) [
              | inl first ↦ subst (λ (x : ℕ). IsClosed old x) (sym first) opened.closed
              | inr others ↦ subst (λ (o : Open). AreMarkedAsNeeded (rows o.context) o.marks) (opened.others l (λ e. absurd (omega (arith, deeper, e))) (λ e. absurd (omega (arith, others, e)))) (closed_before l others)
            ],
          );
      noted = (
        λ told. elim (last.noted.0 told) [
          | inl before ↦ elim (under.noted.0 before) [
            | inl earlier ↦ elim (opened.noted.0 earlier) [ inl first ↦ inl first | inr itself ↦ inr (inl itself) ]
            | inr deeper ↦ inr (inr (inl deeper))
          ]
          | inr later ↦ inr (inr (inr later))
        ],
        λ h. last.noted.1 (elim h [
          | inl first ↦ inl (under.noted.1 (inl (opened.noted.1 (inl first))))
          | inr (inl itself) ↦ inl (under.noted.1 (inl (opened.noted.1 (inr itself))))
          | inr (inr (inl deeper)) ↦ inl (under.noted.1 (inr deeper))
          | inr (inr (inr later)) ↦ inr later
        ]),
      );
    }
  where
    next_or_deeper : (level l : ℕ) → level < l → (l ≡ level + 1) ⊎ (level + 1 < l)
    next_or_deeper zero zero under = absurd (omega (arith, under))
    next_or_deeper zero (suc zero) under = inl (omega arith)
    next_or_deeper zero (suc (suc l)) under = inr (omega arith)
    next_or_deeper (suc level) zero under = absurd (omega (arith, under))
    next_or_deeper (suc level) (suc l) under = elim (next_or_deeper level l (omega (arith, under))) [ inl e ↦ inl (omega (arith, e)) | inr more ↦ inr (omega (arith, more)) ]

-- the trees of a document
document_has_no_trailers : (d : Trees) → is_document d ≡ true → AreNoTrailers 0 d
document_has_no_trailers none is = tt
document_has_no_trailers (tree s b n) is = (λ top. head_is_no_trailer, records_have_none n records)
  where
    first : ((bytes_eq s.tag (codes "HEAD") && is_none s.xref) && are_records n) ≡ true
    first = and_left ((bytes_eq s.tag (codes "HEAD") && is_none s.xref) && are_records n) (are_at 0 (tree s b n) && nat_lt (length (document_lines (tree s b n))) (2 ^ 63)) is

    records : are_records n ≡ true
    records = and_right (bytes_eq s.tag (codes "HEAD") && is_none s.xref) (are_records n) first

    head_is_no_trailer : bytes_eq s.tag (codes "TRLR") ≡ false
    head_is_no_trailer =
        let header : bytes_eq s.tag (codes "HEAD") ≡ true = and_left (bytes_eq s.tag (codes "HEAD")) (is_none s.xref) (and_left (bytes_eq s.tag (codes "HEAD") && is_none s.xref) (are_records n) first) in
        ap (λ (t : Bytes). bytes_eq t (codes "TRLR")) ((bytes_eq-Decides s.tag (codes "HEAD")).0 header)

    not_true : (b : Bool) → not b ≡ true → b ≡ false
    not_true true h = cc
    not_true false h = refl

    records_have_none : (t : Trees) → are_records t ≡ true → AreNoTrailers 0 t
    records_have_none none are = tt
    records_have_none (tree r below next) are =
        let names : (not (bytes_eq r.tag (codes "HEAD")) && not (bytes_eq r.tag (codes "TRLR"))) ≡ true = and_left (not (bytes_eq r.tag (codes "HEAD")) && not (bytes_eq r.tag (codes "TRLR"))) (are_records next) are in (
          λ top. not_true (bytes_eq r.tag (codes "TRLR")) (and_right (not (bytes_eq r.tag (codes "HEAD"))) (not (bytes_eq r.tag (codes "TRLR"))) names),
          records_have_none next (and_right (not (bytes_eq r.tag (codes "HEAD")) && not (bytes_eq r.tag (codes "TRLR"))) (are_records next) are),
        )

trailer_read : (old new : LineWalk) → Takes (line_parts 0 None (codes "TRLR") Empty) old new → new ≡ old
trailer_read old new (goes_on cont may same) = same
trailer_read old new (ends other trailer same) = same
trailer_read old new (opens other nor opened) = cc

-- a walk over the lines of a document after which nothing is missing
pub walked_checked : (d : Trees) (first last : LineWalk) → is_document d ≡ true → IsFirst first → Walks first (document_lines d) last
    → ((level : ℕ) → IsClosed last level) → AreLed d d → Checked d × (IsTrue last.noted ↔ Unlisted File d)
walked_checked d first last is begins walks closed led =
    let (m, through, (k, takes, end)) = walks_apart (lines_of 0 d) (line_parts 0 None (codes "TRLR") Empty ∷ []) first last walks in
    let same : m ≡ last = sym (end ∙ trailer_read m k takes) in
    let walked : TreesWalked d File 0 d first last = trees_walked d File 0 d first last (at_of_document d is) (document_has_no_trailers d is) (ap (λ (o : Open). o.context) begins.file)
    (subst (λ (w : LineWalk). Walks first (lines_of 0 d) w) same through) in (
      (walked.checked (λ l deeper. closed l) led).0,
      (λ told. elim (walked.noted.0 told) [ inl never ↦ cc | inr some ↦ some ], λ some. walked.noted.1 (inr some)),
    )

-- the same of a walk that has read the lines of a document
pub walk_covers : (d : Trees) (walk : LineWalk) → is_document d ≡ true → IsTrue walk.holds → ((level : ℕ) → IsClosed walk level) → HasWalked walk (document_lines d) → AreLed d d
    → Checked d × (IsTrue walk.noted ↔ Unlisted File d)
walk_covers d walk is holds closed walked led = let (first, begins, walks) = walked holds in walked_checked d first walk is begins walks closed led
