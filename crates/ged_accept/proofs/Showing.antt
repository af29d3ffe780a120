-- Lines that go through a buffer one after another.
use Rattle.std.proofs.Common.{◌≡◌, ℕ, ◌+◌, ◌/◌, ◌%◌, ◌<◌, ◌≤◌, ◌∷◌, ◌++◌, [], Option, Result, Ok, Err, OnErr, take, get_or, decimal, refl, sym, ◌∙◌, ap, subst, append_assoc, append-nil}
use Rattle.std.proofs.lemmas.Fmt.{decimal_digit}
use Rattle.itoa.proofs.Decimal.{decimal_two}
use Rattle.std.specs.Io.{StartsWith}
use Rattle.std.specs.Io.KnownBytes.{Appends}
use Rattle.ged_line.specs.Bytes.{Bytes, space, line_feed}
use Rattle.ged_tree.specs.Trees.{Trees}
use Rattle.ged_tree.specs.Places.{structure_at}
use Rattle.ged_tree.specs.Runs.{IsStep, trees_between}
use Rattle.ged_schema.specs.declared.context.Context.{Context}
use Rattle.ged_schema.specs.Rows.{Row}
use Rattle.ged_schema.specs.Tables.{row, below_row}
use Rattle.ged_devices.specs.Buffers.{GoesThrough, StopsWithin}
use Rattle.ged_accept.specs.Shown.{structure_line, shown}
use Rattle.ged_devices.proofs.CallerLemmas.{through_nothing, through_both, stops_behind, stops_before}

-- of a text the front went through the buffer, and the rest is left
pub record HasShown (taken holds : Option Bytes) (before after whole rest : Bytes) : Type 0 where
  pub front : Bytes
  pub went : GoesThrough taken holds before after front
  pub whole_is : whole ≡ front ++ rest

pub shown_none : (taken : Option Bytes) (before whole : Bytes) → HasShown taken taken before before whole whole
shown_none taken before whole = record { front = []; went = through_nothing taken before; whole_is = refl }

-- one more part of what is left
pub shown_more : {taken middle holds : Option Bytes} {before between after : Bytes} (whole rest part left : Bytes) → HasShown taken middle before between whole rest → rest ≡ part ++ left
    → GoesThrough middle holds between after part → HasShown taken holds before after whole left
shown_more whole rest part left h e k = record {
  front = h.front ++ part;
  went = through_both h.went k;
  whole_is = h.whole_is ∙ ap (λ xs. h.front ++ xs) e ∙ sym (append_assoc h.front part left);
}

-- the writer stopped at a part of what is left
pub shown_stops : {taken middle holds : Option Bytes} {before between : Bytes} (whole rest part left : Bytes) → HasShown taken middle before between whole rest → rest ≡ part ++ left
    → StopsWithin middle holds between part → StopsWithin taken holds before whole
shown_stops {taken} {holds = holds} {before} whole rest part left h e k =
    subst (StopsWithin taken holds before) (sym (h.whole_is ∙ ap (λ xs. h.front ++ xs) e)) (stops_behind h.went (stops_before left k))

-- a clause on an error, where what it says holds in any case
pub on_err : {X E F : Type 0} {taken holds : Option Bytes} {before text : Bytes} (r : Result X E) → F → StopsWithin taken holds before text → OnErr r (F × StopsWithin taken holds before text)
on_err (Ok x) failed stops = tt
on_err (Err e) failed stops = (failed, stops)

-- the line of a structure, in the pieces in which it is written
pub line_pieces : (level : ℕ) (tag word : Bytes)
    → (decimal level ++ space ∷ []) ++ (tag ++ (space ∷ [] ++ (word ++ line_feed ∷ []))) ≡ decimal level ++ space ∷ (tag ++ space ∷ (word ++ line_feed ∷ []))
line_pieces level tag word = append_assoc (decimal level) (space ∷ []) (tag ++ space ∷ (word ++ line_feed ∷ []))

-- the front of a line whose level has one digit, and of one whose level has two
pub digit_front : (level : ℕ) (letters tag : Bytes) → level < 10 → letters ≡ tag → (48 + level) ∷ 32 ∷ letters ≡ decimal level ++ space ∷ tag
digit_front level letters tag digit tag_is = ap (λ t. (48 + level) ∷ space ∷ t) tag_is ∙ ap (λ ds. ds ++ space ∷ tag) (sym (decimal_digit level digit))

pub deep_front : (level : ℕ) (letters tag : Bytes) → 10 ≤ level → level < 100 → letters ≡ tag → (48 + level / 10) ∷ (48 + level % 10) ∷ 32 ∷ letters ≡ decimal level ++ space ∷ tag
deep_front level letters tag more less tag_is =
    ap (λ t. (48 + level / 10) ∷ (48 + level % 10) ∷ space ∷ t) tag_is ∙ ap (λ ds. ds ++ space ∷ tag) (sym (decimal_two level more less))

-- the line that its front and what stands behind it make; the last byte of its array tells how many bytes that has
pub line_joined : (level number : ℕ) (front tag ending word : Bytes) → front ≡ decimal level ++ space ∷ tag
    → number ≡ get_or ending 15 0 → take (get_or ending 15 0) ending ≡ space ∷ (word ++ line_feed ∷ [])
    → front ++ take number ending ≡ decimal level ++ space ∷ (tag ++ space ∷ (word ++ line_feed ∷ []))
line_joined level number front tag ending word front_is number_is ending_is =
    ap (λ xs. front ++ xs) (ap (λ n. take n ending) number_is ∙ ending_is)
    ∙ ap (λ xs. xs ++ space ∷ (word ++ line_feed ∷ [])) front_is
    ∙ append_assoc (decimal level) (space ∷ tag) (space ∷ (word ++ line_feed ∷ []))

-- what a run shows is the line of its first structure, what is below it, and what is behind
pub step_shown : (trees : Trees) (level : ℕ) (context rows below : Context) (place end after : ℕ) (tag : Bytes) (r : Option Row) → IsStep trees place end after
    → tag ≡ (structure_at trees place).tag → rows ≡ context → r ≡ row rows tag → below ≡ below_row r
    → shown level context (trees_between trees place end)
    ≡ structure_line level tag r ++ (shown (level + 1) below (trees_between trees (place + 1) after) ++ shown level context (trees_between trees after end))
step_shown trees level context rows below place end after tag r step tag_is rows_is row_is below_is =
    let s = structure_at trees place in
    let left = shown level context (trees_between trees after end) in
    let its_row : r ≡ row context s.tag = row_is ∙ ap (λ c. row c tag) rows_is ∙ ap (λ t. row context t) tag_is in
    let its_context : below ≡ below_row (row context s.tag) = below_is ∙ ap below_row its_row in
    ap (shown level context) step.first
    ∙ sym (ap (λ t. structure_line level t r ++ (shown (level + 1) below (trees_between trees (place + 1) after) ++ left)) tag_is
    ∙ ap (λ q. structure_line level s.tag q ++ (shown (level + 1) below (trees_between trees (place + 1) after) ++ left)) its_row
    ∙ ap (λ b. structure_line level s.tag (row context s.tag) ++ (shown (level + 1) b (trees_between trees (place + 1) after) ++ left)) its_context)

-- all of a text went to an empty buffer, and the writer stopped as that was emptied
pub stops_emptied : {taken middle holds : Option Bytes} {before between whole : Bytes} → before ≡ [] → GoesThrough taken middle before between whole
    → StopsWithin middle holds between [] → (written : Bytes) × Appends taken holds written × StartsWith whole written
stops_emptied {whole = whole} none h k =
    let stops = stops_behind h k in
    (stops.written, stops.took, subst (λ xs. StartsWith xs stops.written) (ap (λ xs. xs ++ (whole ++ [])) none ∙ append-nil whole) stops.front)
