use Rattle.std.proofs.Common.{◌-◌, ◌++◌, length, refl, sym, ◌∙◌, ap}
use Rattle.ged_line.specs.WholeLines.{EndsLine}
use Rattle.ged_line.proofs.CallerLemmas.{nil_of}
use Rattle.ged_tool.specs.Fed.{Fed}
use Rattle.ged_tool.specs.Judged.{IsReady}
use Rattle.ged_tool.proofs.calls.Feeding.{ready_of, held_ready, none_told, still_ready, told_in_piece, ready_behind, some_end, whole_fault_stays}
use Rattle.ged_tool.proofs.calls.feed.Feed.piece.Goals as goal

pub invariant_of-self-then-is_empty : goal.invariant_of-self-then-is_empty
invariant_of-self-then-is_empty c =
    let inside = c.self.inside in
    let new = c.extend_from_slice.new.self in
    let ready : IsReady inside.bytes.items inside.whole inside.judged = ready_of inside.told inside.bytes.items inside.whole inside.judged c.in_default.is c.self.invariant in
    held_ready inside.told new.items inside.whole inside.judged c.in_default.is
    (still_ready inside.bytes.items new.items c.args.piece.now c.split_whole.result.0.now c.split_whole.result.1.now inside.whole inside.judged ready
    c.in_default-extend_from_slice.ensures.items c.split_whole.ensures.parts c.split_whole.ensures.waiting (nil_of c.split_whole.result.0.now (sym c.if-is_empty.true ∙ c.is_empty.ensures)))

pub returns-then-is_empty-clause-faultless : goal.returns-then-is_empty-clause-faultless
returns-then-is_empty-clause-faultless c =
    let inside = c.self.inside in
    let new = c.extend_from_slice.new.self in
    none_told new.items inside.whole inside.judged (ready_of inside.told new.items inside.whole inside.judged c.in_default.is (invariant_of-self-then-is_empty c))

pub invariant_of-self-in-Err-take : goal.invariant_of-self-in-Err-take
invariant_of-self-in-Err-take c =
    let inside = c.self.inside in
    let new = c.extend_from_slice.new.self in
    let ended = c.split_whole.result.0.now in
    let waiting = c.split_whole.result.1.now in
    let ready : IsReady inside.bytes.items inside.whole inside.judged = ready_of inside.told inside.bytes.items inside.whole inside.judged c.in_default.is c.self.invariant in
    let ends : EndsLine ended = some_end ended c.split_whole.ensures.whole (sym c.is_empty.ensures ∙ c.if-is_empty.false) in
    told_in_piece inside.bytes.items new.items c.args.piece.now ended waiting inside.whole inside.judged ready
    c.in_default-extend_from_slice.ensures.items c.split_whole.ensures.parts c.split_whole.ensures.waiting
    c.len.result (c.len.result - length waiting) (c.len.ensures ∙ new.ok.0) refl
    c.deref.result.now c.split_at.result.0.now c.split_at.result.1.now inside.whole c.deref.ensures.value c.split_at.ensures.front c.split_at.ensures.back
    ends c.in-Err-take.at.line c.in-Err-take.at.fault c.into.result c.in-Err-take.ensures c.into.ensures

pub returns-in-Err-take-clause-refuses : goal.returns-in-Err-take-clause-refuses
returns-in-Err-take-clause-refuses c = λ none.
    let fault = invariant_of-self-in-Err-take c in (
      c.in_default-extend_from_slice.ensures.items ∙ ap (λ (f : Fed). f.bytes ++ c.args.piece.now) c.self.view_is,
      refl,
      fault,
      λ profile more. whole_fault_stays profile c.extend_from_slice.new.self.items more c.in-Err-take.at.line c.into.result fault,
    )

pub invariant_of-self-2 : goal.invariant_of-self-2
invariant_of-self-2 c =
    let inside = c.self.inside in
    let new = c.extend_from_slice.new.self in
    let ended = c.split_whole.result.0.now in
    let waiting = c.split_whole.result.1.now in
    let ready : IsReady inside.bytes.items inside.whole inside.judged = ready_of inside.told inside.bytes.items inside.whole inside.judged c.in_default.is c.self.invariant in
    let ends : EndsLine ended = some_end ended c.split_whole.ensures.whole (sym c.is_empty.ensures ∙ c.if-is_empty.false) in
    held_ready inside.told new.items (c.len.result - length waiting) c.take.new.self c.in_default.is
    (ready_behind inside.bytes.items new.items c.args.piece.now ended waiting inside.whole inside.judged ready
    c.in_default-extend_from_slice.ensures.items c.split_whole.ensures.parts c.split_whole.ensures.waiting
    c.len.result (c.len.result - length waiting) (c.len.ensures ∙ new.ok.0) refl
    c.deref.result.now c.split_at.result.0.now c.split_at.result.1.now inside.whole c.deref.ensures.value c.split_at.ensures.front c.split_at.ensures.back
    ends c.take.new.self c.in_default-take.ensures)

pub returns-clause-faultless : goal.returns-clause-faultless
returns-clause-faultless c =
    let inside = c.self.inside in
    let new = c.extend_from_slice.new.self in
    let cut = c.len.result - length c.split_whole.result.1.now in
    none_told new.items cut c.take.new.self (ready_of inside.told new.items cut c.take.new.self c.in_default.is (invariant_of-self-2 c))
