-- What a run says once its answer is flushed.
use Rattle.std.proofs.Common.{◌≡◌, ◌↔◌, ◌∙◌, Bool, true, false, IsTrue, List, ℕ, Option, Some, None, refl, sym, subst, inl, inr}
use Rattle.std.specs.Io.{StartsWith}
use Rattle.std.specs.Io.KnownBytes.{Appends, Keeps}
use Rattle.std.proofs.Math.Seq.{take-length}
use Rattle.ged_tool.specs.declared.Profile.{Profile}
use Rattle.ged_tool.specs.declared.Edition.{Edition}
use Rattle.ged_tool.specs.Answers.{Answers, FaultAt}
use Rattle.ged_tool.specs.Same.{AreComparedBy, relation_of}
use Rattle.ged_tool.specs.SameRun.{IsAllOf, same_line}
use Rattle.ged_tool.specs.declared.comparison.Form.{Form}
use Rattle.ged_faults.specs.declared.faults.FileFault.{FileFault}
use Rattle.ged_faults.specs.declared.faults.Which.{Which}
use Rattle.ged_faults.specs.declared.faults.Which.TheVariants.{First, Second}
use Rattle.ged_faults.specs.declared.faults.Fault.{Fault}
use Rattle.ged_faults.specs.declared.faults.Fault.TheVariants.{ReadFailed, WriteFailed}
use Rattle.ged_faults.specs.declared.faults.Outcome.{Outcome}
use Rattle.ged_faults.specs.declared.faults.Outcome.TheVariants.{Done, Different, Failed}
use Rattle.ged_tool.specs.declared.runs.answer.Command.{Command}
use Rattle.ged_tool.specs.Limits.{greatest_limit}
use Rattle.ged_cmd.specs.Program.{Files, IsAnswerOf, IsCompared, IsOver}
use Rattle.ged_cmd.specs.Streams.{Reader, Writer, reader as reader_of}
use Rattle.ged_cmd.specs.inner.Flushes.{IsFlushed}

-- what a writer took stays taken where what it holds is kept
pub keeps_appended : (before between after : Option (List ℕ)) (written : List ℕ) → Appends before between written → Keeps between after
    → Appends before after written
keeps_appended None between after written took kept = tt
keeps_appended (Some x) None after written took kept = absurd took
keeps_appended (Some x) (Some y) None written took kept = absurd kept
keeps_appended (Some x) (Some y) (Some z) written took kept = kept ∙ took

keeps_same : (before after : Option (List ℕ)) → after ≡ before → Keeps before after
keeps_same None after same = tt
keeps_same (Some x) after same = subst (Keeps (Some x)) (sym same) refl

-- the flush went well, or nothing was to be flushed
kept_answered : (Answer : List ℕ → List ℕ → Type 0) (Wrong : List ℕ → ℕ → FileFault → Type 0) (reader : Reader) (taken between holds : Option (List ℕ)) (failed_before failed : Bool)
    (before after : Outcome)
    → IsAnswerOf Answer Wrong reader (record { taken = taken; holds = between; failed = failed_before }) before
    → Keeps between holds → failed ≡ failed_before → after ≡ before
    → IsAnswerOf Answer Wrong reader (record { taken = taken; holds = holds; failed = failed }) after
kept_answered Answer Wrong reader taken between holds failed_before failed before after answered keeps stays same =
    subst (IsAnswerOf Answer Wrong reader (record { taken = taken; holds = holds; failed = failed })) (sym same) (record {
      bytes = record {
        came = answered.bytes.came;
        written = answered.bytes.written;
        gave = answered.bytes.gave;
        took = keeps_appended taken between holds answered.bytes.written answered.bytes.took keeps;
        means = answered.bytes.means;
      };
      read_failed = answered.read_failed;
      write_failed = subst (λ b. IsTrue b ↔ (before ≡ Failed None WriteFailed)) (sym stays) answered.write_failed;
    })

-- the flush failed: what was written is the whole answer
unflushed_answered : (Answer : List ℕ → List ℕ → Type 0) (Wrong : List ℕ → ℕ → FileFault → Type 0) (reader : Reader) (taken between holds : Option (List ℕ)) (failed_before failed : Bool)
    (after : Outcome)
    → IsAnswerOf Answer Wrong reader (record { taken = taken; holds = between; failed = failed_before }) Done
    → Keeps between holds → failed ≡ true → after ≡ Failed None WriteFailed
    → IsAnswerOf Answer Wrong reader (record { taken = taken; holds = holds; failed = failed }) after
unflushed_answered Answer Wrong reader taken between holds failed_before failed after answered keeps fails gave =
    let (whole, answers) = answered.bytes.means in
    let written = answered.bytes.written in
    subst (IsAnswerOf Answer Wrong reader (record { taken = taken; holds = holds; failed = failed })) (sym gave) (record {
      bytes = record {
        came = answered.bytes.came;
        written = written;
        gave = answered.bytes.gave;
        took = keeps_appended taken between holds written answered.bytes.took keeps;
        means = (refl, (whole, (written, answers, take-length written)));
      };
      read_failed = (λ t. absurd (not_done (answered.read_failed.0 t)), λ e. cc);
      write_failed = (λ t. refl, λ e. fails);
    })
  where
    not_done : Done ≡ Failed None ReadFailed → ⊥
    not_done e = cc

-- one file answered, once the answer is flushed
pub flushed_answered : (Answer : List ℕ → List ℕ → Type 0) (Wrong : List ℕ → ℕ → FileFault → Type 0) (reader : Reader) (taken between holds : Option (List ℕ)) (failed_before failed : Bool)
    (before after : Outcome)
    → IsAnswerOf Answer Wrong reader (record { taken = taken; holds = between; failed = failed_before }) before
    → IsFlushed (record { taken = between; holds = holds; failed = failed }) failed_before before after
    → IsAnswerOf Answer Wrong reader (record { taken = taken; holds = holds; failed = failed }) after
flushed_answered Answer Wrong reader taken between holds failed_before failed Done after answered (inl (same, (keeps, stays))) =
    kept_answered Answer Wrong reader taken between holds failed_before failed Done after answered keeps stays same
flushed_answered Answer Wrong reader taken between holds failed_before failed Done after answered (inr (gave, (keeps, fails))) =
    unflushed_answered Answer Wrong reader taken between holds failed_before failed after answered keeps fails gave
flushed_answered Answer Wrong reader taken between holds failed_before failed Different after answered flushed = absurd answered.bytes.means
flushed_answered Answer Wrong reader taken between holds failed_before failed (Failed which fault) after answered (same, kept, stays) =
    kept_answered Answer Wrong reader taken between holds failed_before failed (Failed which fault) after answered
    (keeps_same between holds kept) stays same

-- an outcome that is a fault stays, and so does the writer
stays_failed : (writer : Writer) (failed_before : Bool) (before after : Outcome) (which : Option Which) (fault : Fault)
    → before ≡ Failed which fault → IsFlushed writer failed_before before after
    → (after ≡ Failed which fault) × (writer.holds ≡ writer.taken) × (writer.failed ≡ failed_before)
stays_failed writer failed_before before after which fault gave flushed = subst (λ o. IsFlushed writer failed_before o after) gave flushed

module _ {D T : Type 0} where
  -- a command over a file, or over standard input, once the answer is flushed
  pub flushed_over : (files : Files D T) (to_come : D → Option (List ℕ)) (read_failed : D → Bool) (profile : Profile) (edition : Edition)
      (command : Command) (file : Option (List ℕ)) (input : Reader) (taken between holds : Option (List ℕ)) (failed_before failed : Bool)
      (before after : Outcome)
      → IsOver files to_come read_failed profile edition command file input (record { taken = taken; holds = between; failed = failed_before }) before
      → IsFlushed (record { taken = between; holds = holds; failed = failed }) failed_before before after
      → IsOver files to_come read_failed profile edition command file input (record { taken = taken; holds = holds; failed = failed }) after
  flushed_over files to_come read_failed profile edition command None input taken between holds failed_before failed before after over flushed =
      flushed_answered (Answers profile edition command) (FaultAt profile command) input taken between holds failed_before failed before after over flushed
  flushed_over files to_come read_failed profile edition command (Some name) input taken between holds failed_before failed before after
      (unread, inl (refuses, (kept, none), gave)) flushed =
      let (same, holds_same, stays) = stays_failed (record { taken = between; holds = holds; failed = failed }) failed_before before after
      None ReadFailed gave flushed in
      (unread, inl (refuses, (holds_same ∙ kept, stays ∙ none), same))
  flushed_over files to_come read_failed profile edition command (Some name) input taken between holds failed_before failed before after
      (unread, inr (device, left, opens, answered)) flushed = (
        unread,
        inr (
          device,
          left,
          opens,
          flushed_answered (Answers profile edition command) (FaultAt profile command) (reader_of to_come read_failed device left) taken between holds failed_before failed before after
              answered flushed,
        ),
      )

-- the same of two files
kept_compared : (form : Form) (profile : Profile) (edition : Edition) (first second : Reader) (taken between holds : Option (List ℕ)) (failed_before failed : Bool)
    (before after : Outcome)
    → IsCompared form profile edition first second (record { taken = taken; holds = between; failed = failed_before }) before
    → Keeps between holds → failed ≡ failed_before → after ≡ before
    → IsCompared form profile edition first second (record { taken = taken; holds = holds; failed = failed }) after
kept_compared form profile edition first second taken between holds failed_before failed before after compared keeps stays same =
    subst (IsCompared form profile edition first second (record { taken = taken; holds = holds; failed = failed })) (sym same) (record {
      bytes = record {
        first = compared.bytes.first;
        second = compared.bytes.second;
        written = compared.bytes.written;
        first_gave = compared.bytes.first_gave;
        second_gave = compared.bytes.second_gave;
        took = keeps_appended taken between holds compared.bytes.written compared.bytes.took keeps;
        means = compared.bytes.means;
      };
      first_failed = compared.first_failed;
      second_failed = compared.second_failed;
      write_failed = subst (λ b. IsTrue b ↔ (before ≡ Failed None WriteFailed)) (sym stays) compared.write_failed;
    })

-- the flush failed: what was written is the whole line
unflushed_compared : (form : Form) (profile : Profile) (edition : Edition) (first second : Reader) (taken between holds : Option (List ℕ)) (failed_before failed : Bool)
    (before after : Outcome) (same : Bool)
    → (compared : IsCompared form profile edition first second (record { taken = taken; holds = between; failed = failed_before }) before)
    → IsAllOf greatest_limit (record { bytes = compared.bytes.first; left = first.left }) × IsAllOf greatest_limit (record { bytes = compared.bytes.second; left = second.left })
    × AreComparedBy profile (relation_of form edition) compared.bytes.first compared.bytes.second same × (compared.bytes.written ≡ same_line same)
    → ((which : Which) → before ≡ Failed (Some which) ReadFailed → ⊥)
    → Keeps between holds → failed ≡ true → after ≡ Failed None WriteFailed
    → IsCompared form profile edition first second (record { taken = taken; holds = holds; failed = failed }) after
unflushed_compared form profile edition first second taken between holds failed_before failed before after same compared (whole, other_whole, are, line) no_read keeps fails gave =
    subst (IsCompared form profile edition first second (record { taken = taken; holds = holds; failed = failed })) (sym gave) (record {
      bytes = record {
        first = compared.bytes.first;
        second = compared.bytes.second;
        written = compared.bytes.written;
        first_gave = compared.bytes.first_gave;
        second_gave = compared.bytes.second_gave;
        took = keeps_appended taken between holds compared.bytes.written compared.bytes.took keeps;
        means = (refl, whole, other_whole, (same, are, subst (λ w. StartsWith (same_line same) w) (sym line) (take-length (same_line same))));
      };
      first_failed = (λ t. absurd (no_read First (compared.first_failed.0 t)), λ e. cc);
      second_failed = (λ t. absurd (no_read Second (compared.second_failed.0 t)), λ e. cc);
      write_failed = (λ t. refl, λ e. fails);
    })

-- two files compared, once the line is flushed
pub flushed_compared : (form : Form) (profile : Profile) (edition : Edition) (first second : Reader) (taken between holds : Option (List ℕ)) (failed_before failed : Bool)
    (before after : Outcome)
    → IsCompared form profile edition first second (record { taken = taken; holds = between; failed = failed_before }) before
    → IsFlushed (record { taken = between; holds = holds; failed = failed }) failed_before before after
    → IsCompared form profile edition first second (record { taken = taken; holds = holds; failed = failed }) after
flushed_compared form profile edition first second taken between holds failed_before failed Done after compared (inl (same, (keeps, stays))) =
    kept_compared form profile edition first second taken between holds failed_before failed Done after compared keeps stays same
flushed_compared form profile edition first second taken between holds failed_before failed Done after compared (inr (gave, (keeps, fails))) =
    unflushed_compared form profile edition first second taken between holds failed_before failed Done after true compared compared.bytes.means
    (λ which e. cc) keeps fails gave
flushed_compared form profile edition first second taken between holds failed_before failed Different after compared (inl (same, (keeps, stays))) =
    kept_compared form profile edition first second taken between holds failed_before failed Different after compared keeps stays same
flushed_compared form profile edition first second taken between holds failed_before failed Different after compared (inr (gave, (keeps, fails))) =
    unflushed_compared form profile edition first second taken between holds failed_before failed Different after false compared compared.bytes.means
    (λ which e. cc) keeps fails gave
flushed_compared form profile edition first second taken between holds failed_before failed (Failed which fault) after compared (same, kept, stays) =
    kept_compared form profile edition first second taken between holds failed_before failed (Failed which fault) after compared
    (keeps_same between holds kept) stays same
