-- What a run says: why one over two files stops before it has an answer, and how one over one file ends.
use Rattle.std.proofs.Common.{◌≡◌, ℕ, [], Option, Some, None, refl, sym, subst, inl, inr}
use Rattle.std.specs.Io.{StartsWith}
use Rattle.std.specs.Io.KnownBytes.{Consumes, Appends}
use Rattle.std.proofs.KnownBytes.{Consumes-nil, Appends-nil}
use Rattle.ged_line.specs.Bytes.{Bytes}
use Rattle.ged_tree.specs.Trees.{Trees}
use Rattle.ged_schema.specs.declared.profile.Profile.{Profile}
use Rattle.ged_faults.specs.declared.faults.Which.{Which}
use Rattle.ged_faults.specs.declared.faults.Which.TheVariants.{First, Second}
use Rattle.ged_faults.specs.declared.faults.FileFault.{FileFault}
use Rattle.ged_faults.specs.declared.faults.Fault.{Fault}
use Rattle.ged_faults.specs.declared.faults.Fault.TheVariants.{InFile, TooLong, ReadFailed, WriteFailed, Memory}
use Rattle.ged_faults.specs.declared.faults.Outcome.{Outcome}
use Rattle.ged_faults.specs.declared.faults.Outcome.TheVariants.{Done, Failed}
use Rattle.ged_accept.specs.Accepted.{IsRefusal}
use Rattle.ged_tool.specs.Run.{IsWhole, Tells}
use Rattle.ged_tool.specs.inner.Steps.{StopsReading, StopsAnswering, of_which}
use Rattle.ged_tool.specs.Same.{IsSameRefusal}
use Rattle.ged_tool.specs.SameRun.{Came, TellsOfFile}
use Rattle.ged_tool.specs.Kept.{IsKeptOf, IsKeptRunOf, IsKeptSameRunOf, IsKeptWith}

abbrev came_of : Bytes → Option Bytes → Came
came_of bytes left = record { bytes = bytes; left = left }

first_told : (profile : Profile) (limit : ℕ) (came : Bytes) (left second_left : Option Bytes) (fault : Fault) → StopsReading limit came fault
    → TellsOfFile profile limit (came_of came left) (came_of [] second_left) First fault
first_told profile limit came left second_left (InFile line kind) h = absurd h
first_told profile limit came left second_left TooLong h = (h, refl)
first_told profile limit came left second_left ReadFailed h = (h, refl)
first_told profile limit came left second_left WriteFailed h = absurd h
first_told profile limit came left second_left (Memory error) h = inl (h, refl)

second_told : (profile : Profile) (limit : ℕ) (first came : Bytes) (first_left left : Option Bytes) (fault : Fault) → IsWhole limit first first_left → StopsReading limit came fault
    → TellsOfFile profile limit (came_of first first_left) (came_of came left) Second fault
second_told profile limit first came first_left left (InFile line kind) whole h = absurd h
second_told profile limit first came first_left left TooLong whole h = (whole, h)
second_told profile limit first came first_left left ReadFailed whole h = (whole, h)
second_told profile limit first came first_left left WriteFailed whole h = absurd h
second_told profile limit first came first_left left (Memory error) whole h = (whole, h)

judged_told : (profile : Profile) (limit : ℕ) (first second : Bytes) (first_left second_left : Option Bytes) (which : Which) (fault : Fault) → IsWhole limit first first_left
    → IsWhole limit second second_left → IsSameRefusal profile first second which fault → TellsOfFile profile limit (came_of first first_left) (came_of second second_left) which fault
judged_told profile limit first second first_left second_left First (InFile line kind) whole other h = (whole, other, h)
judged_told profile limit first second first_left second_left Second (InFile line kind) whole other h = (whole, other, h)
judged_told profile limit first second first_left second_left First TooLong whole other h = absurd h
judged_told profile limit first second first_left second_left Second TooLong whole other h = absurd h.1
judged_told profile limit first second first_left second_left First ReadFailed whole other h = absurd h
judged_told profile limit first second first_left second_left Second ReadFailed whole other h = absurd h.1
judged_told profile limit first second first_left second_left First WriteFailed whole other h = absurd h
judged_told profile limit first second first_left second_left Second WriteFailed whole other h = absurd h.1
judged_told profile limit first second first_left second_left First (Memory error) whole other h = inr (whole, other)
judged_told profile limit first second first_left second_left Second (Memory error) whole other h = (whole, other.within)

-- nothing is kept of a file that did not come whole
nothing_kept : (limit : ℕ) (came bytes : Bytes) (fault : Fault) → StopsReading limit came fault → bytes ≡ [] → IsKeptWith bytes came fault
nothing_kept limit came bytes (InFile line kind) h none = absurd h
nothing_kept limit came bytes TooLong h none = none
nothing_kept limit came bytes ReadFailed h none = none
nothing_kept limit came bytes WriteFailed h none = absurd h
nothing_kept limit came bytes (Memory error) h none = inr none

-- all of one that came whole
all_kept : (says : ℕ → FileFault → Type 0) (came bytes : Bytes) (fault : Fault) → IsRefusal says fault → bytes ≡ came → IsKeptWith bytes came fault
all_kept says came bytes (InFile line kind) h same = same
all_kept says came bytes TooLong h same = absurd h
all_kept says came bytes ReadFailed h same = absurd h
all_kept says came bytes WriteFailed h same = absurd h
all_kept says came bytes (Memory error) h same = inl same

-- nothing is written where a file has the fault
stopped : (profile : Profile) (Becomes : Trees → Trees → Type 0) (limit : ℕ) (first_to_come first_left second_to_come second_left taken : Option Bytes) (first second bytes : Bytes) (which : Which) (fault : Fault) (outcome : Outcome)
    → Consumes first_to_come first_left first → Consumes second_to_come second_left second
    → TellsOfFile profile limit (came_of first first_left) (came_of second second_left) which fault
    → IsKeptOf bytes first second (Failed (Some which) fault) → outcome ≡ Failed (Some which) fault
    → IsKeptSameRunOf profile Becomes limit first_to_come first_left second_to_come second_left taken taken outcome bytes
stopped profile Becomes limit first_to_come first_left second_to_come second_left taken first second bytes which fault outcome first_gave second_gave told kept is =
    subst (λ (o : Outcome). IsKeptSameRunOf profile Becomes limit first_to_come first_left second_to_come second_left taken taken o bytes) (sym is) (record {
      run = record {
        first = first;
        second = second;
        written = [];
        first_gave = first_gave;
        second_gave = second_gave;
        took = Appends-nil taken;
        means = (told, refl);
      };
      kept = kept;
    })

-- the first file did not come whole, and the second was not read
pub first_stops : (profile : Profile) (Becomes : Trees → Trees → Type 0) (limit : ℕ) (first_to_come first_left second_to_come taken : Option Bytes) (came bytes : Bytes) (fault : Fault) (outcome : Outcome)
    → Consumes first_to_come first_left came → StopsReading limit came fault → bytes ≡ [] → outcome ≡ Failed (Some First) fault
    → IsKeptSameRunOf profile Becomes limit first_to_come first_left second_to_come second_to_come taken taken outcome bytes
first_stops profile Becomes limit first_to_come first_left second_to_come taken came bytes fault outcome gave stops none is =
    stopped profile Becomes limit first_to_come first_left second_to_come second_to_come taken came [] bytes First fault outcome gave (Consumes-nil second_to_come)
    (first_told profile limit came first_left second_to_come fault stops) (nothing_kept limit came bytes fault stops none) is

-- the first file came whole, and the second did not
pub second_stops : (profile : Profile) (Becomes : Trees → Trees → Type 0) (limit : ℕ) (first_to_come first_left second_to_come second_left taken : Option Bytes) (first came bytes : Bytes) (fault : Fault) (outcome : Outcome)
    → IsWhole limit first first_left → Consumes first_to_come first_left first → Consumes second_to_come second_left came → StopsReading limit came fault → bytes ≡ [] → outcome ≡ Failed (Some Second) fault
    → IsKeptSameRunOf profile Becomes limit first_to_come first_left second_to_come second_left taken taken outcome bytes
second_stops profile Becomes limit first_to_come first_left second_to_come second_left taken first came bytes fault outcome whole first_gave gave stops none is =
    stopped profile Becomes limit first_to_come first_left second_to_come second_left taken first came bytes Second fault outcome first_gave gave
    (second_told profile limit first came first_left second_left fault whole stops) (nothing_kept limit came bytes fault stops none) is

-- both came whole, and one is not accepted, or memory was wanted
pub judging_stops : (profile : Profile) (Becomes : Trees → Trees → Type 0) (limit : ℕ) (first_to_come first_left second_to_come second_left taken : Option Bytes) (first second seen other_seen bytes : Bytes) (which : Which) (fault : Fault) (outcome : Outcome)
    → IsWhole limit first first_left → Consumes first_to_come first_left first → IsWhole limit second second_left → Consumes second_to_come second_left second → seen ≡ first → other_seen ≡ second
    → IsSameRefusal profile seen other_seen which fault → bytes ≡ of_which which first second → outcome ≡ Failed (Some which) fault
    → IsKeptSameRunOf profile Becomes limit first_to_come first_left second_to_come second_left taken taken outcome bytes
judging_stops profile Becomes limit first_to_come first_left second_to_come second_left taken first second seen other_seen bytes which fault outcome whole first_gave other second_gave same other_same refused of is =
    let told : IsSameRefusal profile first second which fault =
    subst (λ (bytes : Bytes). IsSameRefusal profile first bytes which fault) other_same (subst (λ (bytes : Bytes). IsSameRefusal profile bytes other_seen which fault) same refused) in
    stopped profile Becomes limit first_to_come first_left second_to_come second_left taken first second bytes which fault outcome first_gave second_gave
    (judged_told profile limit first second first_left second_left which fault whole other told) (keeps which told of) is
  where
    keeps : (which : Which) → IsSameRefusal profile first second which fault → bytes ≡ of_which which first second
        → IsKeptOf bytes first second (Failed (Some which) fault)
    keeps First h of = all_kept _ first bytes fault h of
    keeps Second h of = all_kept _ second bytes fault h.1 of

-- One file that did not come whole: nothing is written.
pub run_stops : (Answer : Bytes → Bytes → Type 0) (Wrong : Bytes → ℕ → FileFault → Type 0) (limit : ℕ) (to_come left taken : Option Bytes) (came bytes : Bytes) (fault : Fault) (outcome : Outcome)
    → Consumes to_come left came → StopsReading limit came fault → bytes ≡ [] → outcome ≡ Failed None fault
    → IsKeptRunOf Answer Wrong limit to_come left taken taken outcome bytes
run_stops Answer Wrong limit to_come left taken came bytes fault outcome gave stops none is =
    subst (λ (o : Outcome). IsKeptRunOf Answer Wrong limit to_come left taken taken o bytes) (sym is) (record {
      run = record { came = came; written = []; gave = gave; took = Appends-nil taken; means = (refl, tells fault stops) };
      kept = nothing_kept limit came bytes fault stops none;
    })
  where
    tells : (fault : Fault) → StopsReading limit came fault → Tells Answer Wrong limit came left [] fault
    tells (InFile line kind) h = absurd h
    tells TooLong h = (h, refl)
    tells ReadFailed h = (h, refl)
    tells WriteFailed h = absurd h
    tells (Memory error) h = (h, refl)

-- one that came whole, and has no answer
pub run_refused : (Answer : Bytes → Bytes → Type 0) (Wrong : Bytes → ℕ → FileFault → Type 0) (limit : ℕ) (to_come left taken : Option Bytes) (came bytes : Bytes) (fault : Fault) (outcome : Outcome)
    → IsWhole limit came left → Consumes to_come left came → IsRefusal (Wrong came) fault → bytes ≡ came → outcome ≡ Failed None fault
    → IsKeptRunOf Answer Wrong limit to_come left taken taken outcome bytes
run_refused Answer Wrong limit to_come left taken came bytes fault outcome whole gave refused same is =
    subst (λ (o : Outcome). IsKeptRunOf Answer Wrong limit to_come left taken taken o bytes) (sym is) (record {
      run = record { came = came; written = []; gave = gave; took = Appends-nil taken; means = (refl, tells fault refused) };
      kept = all_kept _ came bytes fault refused same;
    })
  where
    tells : (fault : Fault) → IsRefusal (Wrong came) fault → Tells Answer Wrong limit came left [] fault
    tells (InFile line kind) h = (whole, h, refl)
    tells TooLong h = absurd h
    tells ReadFailed h = absurd h
    tells WriteFailed h = absurd h
    tells (Memory error) h = (whole.within, refl)

-- one whose answer was written
pub run_answered : (Answer : Bytes → Bytes → Type 0) (Wrong : Bytes → ℕ → FileFault → Type 0) (limit : ℕ) (to_come left taken holds : Option Bytes) (came text : Bytes)
    → IsWhole limit came left → Consumes to_come left came → Answer came text → Appends taken holds text
    → IsKeptRunOf Answer Wrong limit to_come left taken holds Done came
run_answered Answer Wrong limit to_come left taken holds came text whole gave answers took =
    record { run = record { came = came; written = text; gave = gave; took = took; means = (whole, answers) }; kept = refl }

-- one of whose answer a front was written
pub run_unwritten : (Answer : Bytes → Bytes → Type 0) (Wrong : Bytes → ℕ → FileFault → Type 0) (limit : ℕ) (to_come left taken holds : Option Bytes) (came text written bytes : Bytes) (outcome : Outcome)
    → IsWhole limit came left → Consumes to_come left came → Answer came text → Appends taken holds written → StartsWith text written
    → bytes ≡ came → outcome ≡ Failed None WriteFailed
    → IsKeptRunOf Answer Wrong limit to_come left taken holds outcome bytes
run_unwritten Answer Wrong limit to_come left taken holds came text written bytes outcome whole gave answers took front same is =
    subst (λ (o : Outcome). IsKeptRunOf Answer Wrong limit to_come left taken holds o bytes) (sym is) (record {
      run = record { came = came; written = written; gave = gave; took = took; means = (refl, (whole, (text, answers, front))) };
      kept = same;
    })

-- one that came whole, and whose answer was not written whole
pub run_unanswered : (Answer : Bytes → Bytes → Type 0) (Wrong : Bytes → ℕ → FileFault → Type 0) (limit : ℕ) (to_come left taken holds : Option Bytes) (came seen bytes : Bytes) (fault : Fault) (outcome : Outcome)
    → IsWhole limit came left → Consumes to_come left came → StopsAnswering (Answer seen) (Wrong seen) taken holds fault → seen ≡ came
    → bytes ≡ came → outcome ≡ Failed None fault → IsKeptRunOf Answer Wrong limit to_come left taken holds outcome bytes
run_unanswered Answer Wrong limit to_come left taken holds came seen bytes fault outcome whole gave stops see same is =
    by_fault fault (subst (λ (b : Bytes). StopsAnswering (Answer b) (Wrong b) taken holds fault) see stops) is
  where
    by_fault : (fault : Fault) → StopsAnswering (Answer came) (Wrong came) taken holds fault → outcome ≡ Failed None fault
        → IsKeptRunOf Answer Wrong limit to_come left taken holds outcome bytes
    by_fault (InFile line kind) (stands, untouched) e =
        subst (λ (h : Option Bytes). IsKeptRunOf Answer Wrong limit to_come left taken h outcome bytes) (sym untouched)
        (run_refused Answer Wrong limit to_come left taken came bytes (InFile line kind) outcome whole gave stands same e)
    by_fault TooLong h e = absurd h
    by_fault ReadFailed h e = absurd h
    by_fault WriteFailed (text, written, answers, took, front) e = run_unwritten Answer Wrong limit to_come left taken holds came text written bytes outcome whole gave answers took front same e
    by_fault (Memory error) untouched e =
        subst (λ (h : Option Bytes). IsKeptRunOf Answer Wrong limit to_come left taken h outcome bytes) (sym untouched)
        (run_refused Answer Wrong limit to_come left taken came bytes (Memory error) outcome whole gave tt same e)
