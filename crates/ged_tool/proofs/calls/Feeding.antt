-- A file that comes piece by piece, and what it tells of its whole lines.
use Rattle.std.proofs.Common.{◌≡◌, ◌≢◌, ◌==◌, false, ℕ, ◌-◌, [], ◌++◌, inl, inr, Option, Some, None, MatchOption, length, take, drop, refl, sym, ◌∙◌, ap, subst, arith, append_assoc, append-nil, length-append}
use Rattle.std.proofs.lemmas.Bool.{true≢false}
use Rattle.std.proofs.lemmas.Option.{same_Some}
use Rattle.std.proofs.lemmas.List.{take-append-drop}
use Rattle.std.proofs.Math.Seq.{take-append_seam}
use Rattle.ged_line.specs.Bytes.{Bytes}
use Rattle.ged_line.specs.Files.{FileText}
use Rattle.ged_line.specs.Pieces.{HasNoEnd}
use Rattle.ged_line.specs.WholeLines.{EndsLine, AreWhole, IsWholeFront}
use Rattle.ged_line.specs.declared.fault.LineFault.TheVariants as of_line
use Rattle.ged_line.proofs.CallerLemmas.{one_whole, EndsLine-behind, HasNoEnd-append}
use Rattle.ged_tree.specs.FileFaults.{FirstFaultIn}
use Rattle.ged_tree.specs.declared.fault.TreeFault.{TreeFault}
use Rattle.ged_tree.specs.declared.fault.TreeFault.TheVariants as of_tree
use Rattle.ged_tree.proofs.CallerLemmas.{first_fault_stays, only_trailer}
use Rattle.ged_schema.specs.declared.profile.Profile.{Profile}
use Rattle.ged_faults.specs.declared.faults.FileFault.{FileFault}
use Rattle.ged_faults.specs.declared.faults.FileFault.TheVariants.{NoTrailer}
use Rattle.ged_faults.specs.declared.faults.Fault.{Fault}
use Rattle.ged_faults.specs.declared.faults.Fault.TheVariants.{InFile, TooLong, ReadFailed, WriteFailed, Memory}
use Rattle.ged_tool.specs.declared.calls.judged_lines.Judged.{Judged}
use Rattle.ged_faults.specs.Faults.{file_fault_of_tree}
use Rattle.ged_accept.specs.Accepted.{FileFaultAt, IsRefusal}
use Rattle.ged_tool.specs.Fed.{WholeLinesFaultAt}
use Rattle.ged_tool.specs.Judged.{HasJudged, IsReady, IsToldOf}

-- no other fault of lines has the name of the one that TRLR is missing
early_kind : (fault : TreeFault) → fault ≢ of_tree.NoTrailer → file_fault_of_tree fault ≢ NoTrailer
early_kind (of_tree.Line of_line.NotUtf8) n e = cc
early_kind (of_tree.Line of_line.BannedCharacter) n e = cc
early_kind (of_tree.Line of_line.EmptyLine) n e = cc
early_kind (of_tree.Line of_line.BadLevel) n e = cc
early_kind (of_tree.Line of_line.LevelTooLarge) n e = cc
early_kind (of_tree.Line of_line.BadXref) n e = cc
early_kind (of_tree.Line of_line.BadTag) n e = cc
early_kind (of_tree.Line of_line.BadValue) n e = cc
early_kind of_tree.LevelJump n e = cc
early_kind of_tree.XrefNotAllowed n e = cc
early_kind of_tree.MisplacedCont n e = cc
early_kind of_tree.NoHeader n e = cc
early_kind of_tree.SecondHeader n e = cc
early_kind of_tree.TrailerNotEmpty n e = cc
early_kind of_tree.AfterTrailer n e = cc
early_kind of_tree.NoTrailer n e = n refl

-- a fault of whole lines is the file's, whatever follows
pub whole_fault_stays : (profile : Profile) (bytes more : Bytes) (line : ℕ) (kind : FileFault) → WholeLinesFaultAt bytes line kind
    → FileFaultAt profile (bytes ++ more) line kind
whole_fault_stays profile bytes more line kind w =
    let (fault, first, is) = w.first in
    let waiting = w.is_front.waiting in
    let early : fault ≢ of_tree.NoTrailer = λ e. w.early (is ∙ ap file_fault_of_tree e) in
    let whole : w.front ++ (waiting ++ more) ≡ bytes ++ more = sym (append_assoc w.front waiting more) ∙ ap (λ (bs : Bytes). bs ++ more) (sym w.is_front.parts) in
    inl (fault, subst (λ (bs : Bytes). FirstFaultIn bs line fault) whole (first_fault_stays w.front (waiting ++ more) line fault w.some first early), is)

pub whole_fault : (profile : Profile) (bytes : Bytes) (line : ℕ) (kind : FileFault) → WholeLinesFaultAt bytes line kind → FileFaultAt profile bytes line kind
whole_fault profile bytes line kind w = subst (λ (bs : Bytes). FileFaultAt profile bs line kind) (append-nil bytes) (whole_fault_stays profile bytes [] line kind w)

-- whole lines that are judged have no fault
pub none_told : (bytes : Bytes) (whole : ℕ) (judged : Judged) → IsReady bytes whole judged → (line : ℕ) (kind : FileFault) → ¬ (WholeLinesFaultAt bytes line kind)
none_told bytes whole judged r line kind w =
    let (fault, first, is) = w.first in
    let same : r.front ≡ w.front = one_whole bytes r.front w.front r.is_front w.is_front in
    let spelled = subst (λ (bs : Bytes). FileText r.judges.lines bs) same r.judges.spelled in
    w.early (is ∙ ap file_fault_of_tree (only_trailer w.front r.judges.lines line fault w.some spelled r.judges.pass first))

-- a fault of the whole lines is told
pub told_of : (bytes front : Bytes) (line : ℕ) (fault : TreeFault) (kind : FileFault) → IsWholeFront bytes front → EndsLine front → FirstFaultIn front line fault
    → fault ≢ of_tree.NoTrailer → kind ≡ file_fault_of_tree fault → WholeLinesFaultAt bytes line kind
told_of bytes front line fault kind f e first n is =
    record { front = front; is_front = f; some = e; first = (fault, first, is); early = λ k. early_kind fault n (sym is ∙ k) }

-- what a feed that has told no fault holds
pub ready_of : (told : Option Fault) (bytes : Bytes) (whole : ℕ) (judged : Judged) → told ≡ None → MatchOption told (IsReady bytes whole judged) (IsToldOf bytes) → IsReady bytes whole judged
ready_of None bytes whole judged e h = h
ready_of (Some fault) bytes whole judged e h = cc

pub held_ready : (told : Option Fault) (bytes : Bytes) (whole : ℕ) (judged : Judged) → told ≡ None → IsReady bytes whole judged → MatchOption told (IsReady bytes whole judged) (IsToldOf bytes)
held_ready None bytes whole judged e r = r
held_ready (Some fault) bytes whole judged e r = cc

-- and what one that has told a fault answers
told_refusal : (profile : Profile) (bytes : Bytes) (fault : Fault) → IsToldOf bytes fault → IsRefusal (FileFaultAt profile bytes) fault
told_refusal profile bytes (InFile line kind) w = whole_fault profile bytes line kind w
told_refusal profile bytes (Memory error) w = absurd w
told_refusal profile bytes TooLong w = absurd w
told_refusal profile bytes ReadFailed w = absurd w
told_refusal profile bytes WriteFailed w = absurd w

pub refusal_of : (profile : Profile) (told : Option Fault) (fault : Fault) (bytes : Bytes) (whole : ℕ) (judged : Judged) → told ≡ Some fault
    → MatchOption told (IsReady bytes whole judged) (IsToldOf bytes) → IsRefusal (FileFaultAt profile bytes) fault
refusal_of profile None fault bytes whole judged e h = cc
refusal_of profile (Some other) fault bytes whole judged e h =
    told_refusal profile bytes fault (subst (λ (f : Fault). IsToldOf bytes f) (same_Some other fault e) h)

-- a piece, cut behind its last line end, comes behind what was taken in
module _ (old new piece ended waiting : Bytes) (whole : ℕ) (judged : Judged) (r : IsReady old whole judged) (is : new ≡ old ++ piece) (parts : piece ≡ ended ++ waiting) (unended : HasNoEnd waiting) where
  still_waiting : Bytes
  still_waiting = r.is_front.waiting ++ waiting

  -- where no line end came, the whole lines are what they were
  pub still_ready : ended ≡ [] → IsReady new whole judged
  unfolding still_waiting
  still_ready none = record {
    front = r.front;
    is_front = record {
      waiting = still_waiting;
      parts = is ∙ ap (λ (bs : Bytes). bs ++ piece) r.is_front.parts ∙ append_assoc r.front r.is_front.waiting piece
          ∙ ap (λ (bs : Bytes). r.front ++ (r.is_front.waiting ++ bs)) (parts ∙ ap (λ (bs : Bytes). bs ++ waiting) none);
      whole = r.is_front.whole;
      unended = HasNoEnd-append r.is_front.waiting waiting r.is_front.unended unended;
    };
    long = r.long;
    judges = r.judges;
  }

  longer_parts : new ≡ (old ++ ended) ++ waiting
  longer_parts = is ∙ ap (λ (bs : Bytes). old ++ bs) parts ∙ sym (append_assoc old ended waiting)

  -- where one came, they go up to the last one
  longer_front : EndsLine ended → IsWholeFront new (old ++ ended)
  longer_front e = record { waiting = waiting; parts = longer_parts; whole = inr (EndsLine-behind old ended e); unended = unended }

  module _ (len cut : ℕ) (long : len ≡ length new) (cut_is : cut ≡ len - length waiting) where
    cut_long : cut ≡ length (old ++ ended)
    cut_long =
        let sizes = ap (λ (bs : Bytes). length bs) longer_parts ∙ length-append (old ++ ended) waiting in
        omega (arith, sizes)

    cut_front : take cut new ≡ old ++ ended
    cut_front =
        ap (λ (bs : Bytes). take cut bs) longer_parts ∙ ap (λ (n : ℕ). take n ((old ++ ended) ++ waiting)) cut_long ∙ take-append_seam (old ++ ended) waiting

    module _ (items front more : Bytes) (place : ℕ) (items_are : items ≡ new) (front_is : front ≡ take place (take cut items)) (more_is : more ≡ drop place (take cut items)) where
      joined : front ++ more ≡ old ++ ended
      joined =
          ap (λ (bs : Bytes). bs ++ more) front_is ∙ ap (λ (bs : Bytes). take place (take cut items) ++ bs) more_is
          ∙ take-append-drop place (take cut items) ∙ ap (λ (bs : Bytes). take cut bs) items_are ∙ cut_front

      pub told_in_piece : EndsLine ended → (line : ℕ) (fault : TreeFault) (kind : FileFault) → FirstFaultIn (front ++ more) line fault × (fault ≢ of_tree.NoTrailer)
          → kind ≡ file_fault_of_tree fault → WholeLinesFaultAt new line kind
      told_in_piece e line fault kind f k =
          told_of new (old ++ ended) line fault kind (longer_front e) (EndsLine-behind old ended e)
          (subst (λ (bs : Bytes). FirstFaultIn bs line fault) joined f.0) f.1 k

      pub ready_behind : EndsLine ended → (next : Judged) → HasJudged next (front ++ more) → IsReady new cut next
      ready_behind e next h = record { front = old ++ ended; is_front = longer_front e; long = cut_long; judges = subst (λ (bs : Bytes). HasJudged next bs) joined h }

pub some_end : (bs : Bytes) → AreWhole bs → (length bs == 0) ≡ false → EndsLine bs
some_end bs (inl e) n = absurd (true≢false (ap (λ (xs : Bytes). length xs == 0) (sym e) ∙ n))
some_end bs (inr e) n = e
