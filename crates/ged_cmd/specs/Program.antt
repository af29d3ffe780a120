-- What the program does, for the words, the files and the streams that it has.
use Rattle.std.specs.Prelude.{◌≡◌, ◌≢◌, ◌↔◌, ◌⊎◌, ℕ, nat_lt, List, [], ◌∷◌, ◌++◌, Bool, true, false, ⊤, IsTrue, Option, Some, None, map, if◌then◌else◌}
use Rattle.clap.specs.Words.{Text, fault_of}
use Rattle.clap.specs.Kinds.{IsAmong}
use Rattle.clap.specs.declared.error.kind.ErrorKind.{ErrorKind}
use Rattle.clap.specs.declared.error.kind.ErrorKind.TheVariants.{DisplayHelp, DisplayVersion, OutOfMemory}
use Rattle.std.specs.Io.KnownBytes.{Appends}
use Rattle.ged_tool.specs.declared.Profile.{Profile}
use Rattle.ged_tool.specs.declared.Edition.{Edition}
use Rattle.ged_accept.specs.Accepted.{FileFaultAt}
use Rattle.ged_tool.specs.Answers.{Answers, FaultAt}
use Rattle.ged_tool.specs.DigestRun.{TellsDigest}
use Rattle.ged_tool.specs.Run.{IsRunOf}
use Rattle.ged_tool.specs.Same.{relation_of}
use Rattle.ged_tool.specs.SameRun.{IsSameRunOf}
use Rattle.ged_tool.specs.declared.comparison.Form.{Form}
use Rattle.ged_faults.specs.Faults.{status_of}
use Rattle.ged_tool.specs.declared.runs.answer.Command.{Command}
use Rattle.ged_faults.specs.declared.faults.FileFault.{FileFault}
use Rattle.ged_faults.specs.declared.faults.Which.{Which}
use Rattle.ged_faults.specs.declared.faults.Which.TheVariants.{First, Second}
use Rattle.ged_faults.specs.declared.faults.Fault.{Fault}
use Rattle.ged_faults.specs.declared.faults.Fault.TheVariants.{ReadFailed, WriteFailed, Memory}
use Rattle.ged_faults.specs.declared.faults.Outcome.{Outcome}
use Rattle.ged_faults.specs.declared.faults.Outcome.TheVariants.{Done, Failed}
use Rattle.ged_devices.specs.declared.drafts.Fate.{Fate}
use Rattle.ged_devices.specs.declared.drafts.Fate.TheVariants.{Pending, Placed, Dropped}
use Rattle.ged_explain.specs.Names.{Named, as_named}
use Rattle.ged_explain.specs.declared.faults.Meaning.{Meaning}
use Rattle.ged_cmd.specs.CommandLine.{gedtool}
use Rattle.ged_cmd.specs.Streams.{Reader, Writer, reader, writer}
use Rattle.ged_cmd.specs.Telling.{Tells, faults_asked, meanings_text}
use Rattle.ged_cmd.specs.Shelves.{ShelfCall, drafting, opening, opening_named}
use Rattle.ged_cmd.specs.Tasks.{Task, asked, digest, explain, explains, input_same, is_input, run, same}
use Rattle.ged_tool.specs.Limits.{greatest_limit}

abbrev pub IsUnread : Reader → Type 0
IsUnread reader = (reader.left ≡ reader.to_come) × (reader.failed ≡ false)

abbrev pub IsUnwritten : Writer → Type 0
IsUnwritten writer = (writer.holds ≡ writer.taken) × (writer.failed ≡ false)

-- A run over one input, its answer written and flushed: `Answer` says which text answers the bytes that came, and `Wrong` which
-- fault they have at which line. The reader has failed exactly where the outcome says so, and so has the writer, by a write
-- or by the flush.
pub record IsAnswerOf (Answer : List ℕ → List ℕ → Type 0) (Wrong : List ℕ → ℕ → FileFault → Type 0) (reader : Reader) (writer : Writer) (outcome : Outcome) : Type 0 where
  pub bytes : IsRunOf Answer Wrong greatest_limit reader.to_come reader.left writer.taken writer.holds outcome
  pub read_failed : IsTrue reader.failed ↔ (outcome ≡ Failed None ReadFailed)
  pub write_failed : IsTrue writer.failed ↔ (outcome ≡ Failed None WriteFailed)

-- the run of a command
abbrev pub IsAnswered : Profile → Edition → Command → Reader → Writer → Outcome → Type 0
IsAnswered profile edition command = IsAnswerOf (Answers profile edition command) (FaultAt profile command)

-- and one that tells the digest of a file of this name
abbrev pub IsDigested : Profile → Edition → (name : Text) → Reader → Writer → Outcome → Type 0
IsDigested profile edition name = IsAnswerOf (TellsDigest profile edition name) (FileFaultAt profile)

-- two files compared in a form, in the same way
pub record IsCompared (form : Form) (profile : Profile) (edition : Edition) (first second : Reader) (writer : Writer) (outcome : Outcome) : Type 0 where
  pub bytes : IsSameRunOf profile (relation_of form edition) greatest_limit first.to_come first.left second.to_come second.left writer.taken writer.holds outcome
  pub first_failed : IsTrue first.failed ↔ (outcome ≡ Failed (Some First) ReadFailed)
  pub second_failed : IsTrue second.failed ↔ (outcome ≡ Failed (Some Second) ReadFailed)
  pub write_failed : IsTrue writer.failed ↔ (outcome ≡ Failed None WriteFailed)

-- What is known of files by their names: which devices a name opens, and that it can't be opened; which new files may take
-- the place of the file of a name, and by which fault none can.
pub record Files (D T : Type 0) : Type 1 where
  pub opens : Text → D → Type 0
  pub refuses : Text → Type 0
  pub drafts : Text → T → Type 0
  pub withholds : Text → Fault → Type 0

-- Nothing is read, and the outcome says whether the writer has failed. Where it has not, what was asked for is printed: meanings of
-- these faults, by their numbers and names.
pub record IsExplained (named : Option Named) (input : Reader) (writer : Writer) (outcome : Outcome) : Type 0 where
  pub unread : IsUnread input
  pub told : outcome ≡ (if writer.failed then Failed None WriteFailed else Done)
  pub printed : writer.failed ≡ false → (meanings : List Meaning) × (map as_named meanings ≡ faults_asked named) × Appends writer.taken writer.holds (meanings_text meanings)

module _ {D : Type 0} where
  -- A file that was opened, and what was then done with it. `opens` says which devices the name of a file opens.
  abbrev pub SomeFile : (opens : D → Type 0) → (to_come : D → Option (List ℕ)) → (failed : D → Bool) → (Reader → Type 0) → Type 0
  SomeFile opens to_come failed done = (device left : D) × opens device × done (reader to_come failed device left)

-- a file can't be opened, which is told with which of two it is, and nothing is written
abbrev pub IsNotOpened : Type 0 → Option Which → Writer → Outcome → Type 0
IsNotOpened refuses which writer outcome = refuses × IsUnwritten writer × (outcome ≡ Failed which ReadFailed)

-- the new file holds nothing, if it tells what it holds
abbrev pub IsEmpty : Option (List ℕ) → Type 0
IsEmpty None = ⊤
IsEmpty (Some bytes) = bytes ≡ []

-- what keeps a file from being replaced: it can't be, or no memory was found to prepare it
abbrev pub IsFaultOfReplacing : Fault → Type 0
IsFaultOfReplacing WriteFailed = ⊤
IsFaultOfReplacing (Memory error) = ⊤
IsFaultOfReplacing fault = ⊥

-- the file of a name can't be replaced, which is told by the fault that keeps it from that, and nothing is read of standard input
abbrev pub IsWithheld : (withholds : Fault → Type 0) → (input : Reader) → Outcome → Type 0
IsWithheld withholds input outcome =
    IsUnread input × ((fault : Fault) × IsFaultOfReplacing fault × withholds fault × (outcome ≡ Failed None fault))

-- What becomes of a new file: where all went well it takes the place of the other one, which else stays as it is.
abbrev pub fate_of : Outcome → Fate
fate_of Done = Placed
fate_of outcome = Dropped

-- the graver of two outcomes, by their statuses; the later one where these are the same
abbrev pub graver : (before later : Outcome) → Outcome
graver before later = if nat_lt (status_of later) (status_of before) then before else later

-- a reader goes on from where it was left, and what was done with it in all
abbrev pub IsReadOn : (before next : Reader) → Type 0
IsReadOn before next = (before.failed ≡ false) × (next.to_come ≡ before.left)

abbrev pub read_in_all : (before next : Reader) → Reader
read_in_all before next = record { to_come = before.to_come; left = next.left; failed = next.failed }

-- the same of a writer
abbrev pub IsWrittenOn : (before next : Writer) → Type 0
IsWrittenOn before next = (before.failed ≡ false) × (next.taken ≡ before.holds)

abbrev pub written_in_all : (before next : Writer) → Writer
written_in_all before next = record { taken = before.taken; holds = next.holds; failed = next.failed }

-- Digests are told of files, one after the other, while these calls are made: at first nothing is read or written; each file that
-- has a name is opened and its digest told, or it can't be opened; and one whose name stands for standard input is read from there.
-- Once the output has failed nothing more is done, and no file opened. The outcome is the gravest of all.
pub data AreDigested {D T : Type 0} (files : Files D T) (to_come : D → Option (List ℕ)) (failed : D → Bool) (profile : Profile) (edition : Edition) : List Text → (input : Reader) → Writer → (made : List ShelfCall) → Outcome → Type 0 where
  at_first : {input : Reader} {writer : Writer} → IsUnread input → IsUnwritten writer
      → AreDigested files to_come failed profile edition [] input writer [] Done
  and_file : {names : List Text} {input : Reader} {writer : Writer} {made : List ShelfCall} {before : Outcome} (name : Text) (next : Writer) (outcome : Outcome)
      → AreDigested files to_come failed profile edition names input writer made before
      → IsWrittenOn writer next → is_input name ≡ false
      → IsNotOpened (files.refuses name) None next outcome
      ⊎ SomeFile (files.opens name) to_come failed (λ file. IsDigested profile edition name file next outcome)
      → AreDigested files to_come failed profile edition (names ++ name ∷ []) input (written_in_all writer next) (made ++ opening name ∷ []) (graver before outcome)
  and_input : {names : List Text} {input : Reader} {writer : Writer} {made : List ShelfCall} {before : Outcome} (name : Text) (reader : Reader) (next : Writer) (outcome : Outcome)
      → AreDigested files to_come failed profile edition names input writer made before
      → IsWrittenOn writer next → is_input name ≡ true → IsReadOn input reader → IsDigested profile edition name reader next outcome
      → AreDigested files to_come failed profile edition (names ++ name ∷ []) (read_in_all input reader) (written_in_all writer next) made (graver before outcome)
  and_nothing : {names : List Text} {input : Reader} {writer : Writer} {made : List ShelfCall} {before : Outcome} (name : Text)
      → AreDigested files to_come failed profile edition names input writer made before → IsTrue writer.failed
      → AreDigested files to_come failed profile edition (names ++ name ∷ []) input writer made before

module _ {D T : Type 0} where
  -- a command over the file of a name, or over standard input where none is named
  abbrev pub IsOver : Files D T → (to_come : D → Option (List ℕ)) → (failed : D → Bool) → Profile → Edition → Command
      → (file : Option Text) → (input : Reader) → Writer → Outcome → Type 0
  IsOver files to_come failed profile edition command None input writer outcome =
      IsAnswered profile edition command input writer outcome
  IsOver files to_come failed profile edition command (Some name) input writer outcome =
      IsUnread input × (IsNotOpened (files.refuses name) None writer outcome
      ⊎ SomeFile (files.opens name) to_come failed (λ file. IsAnswered profile edition command file writer outcome))

  -- An answer that goes into a new file, which is empty at first and neither placed nor given up, and what becomes of this.
  abbrev pub IsPut : Files D T → (taken : T → Option (List ℕ)) → (write_failed : T → Bool) → (fate : T → Fate) → (name : Text)
      → (Writer → Type 0) → Outcome → Type 0
  IsPut files taken write_failed fate name done outcome =
      (draft left : T) × files.drafts name draft × IsEmpty (taken draft) × (fate draft ≡ Pending)
      × done (writer taken write_failed draft left)
      × (fate left ≡ fate_of outcome)

  -- What the program does for a task, over the files of which `files` tells, and standard input, and the calls that it makes for
  -- these files, each once: but for digests, no file is opened where the one before could not be opened or replaced. Where the second
  -- file of a comparison can't be opened, nothing is read of the first.
  abbrev pub IsDone : Files D T → (to_come : D → Option (List ℕ)) → (failed : D → Bool)
      → (taken : T → Option (List ℕ)) → (write_failed : T → Bool) → (fate : T → Fate)
      → Task → (input : Reader) → Writer → (made : List ShelfCall) → Outcome → Type 0
  IsDone files to_come failed taken write_failed fate (run profile edition command file None) input output made outcome =
      IsOver files to_come failed profile edition command file input output outcome × (made ≡ opening_named file)
  IsDone files to_come failed taken write_failed fate (run profile edition command file (Some name)) input output made outcome =
      IsUnwritten output × ((IsWithheld (files.withholds name) input outcome × (made ≡ drafting name ∷ []))
      ⊎ (IsPut files taken write_failed fate name (λ writer. IsOver files to_come failed profile edition command file input writer outcome)
      outcome × (made ≡ drafting name ∷ opening_named file)))
  IsDone files to_come failed taken write_failed fate (same form profile edition first None) input output made outcome =
      ((IsUnread input × IsNotOpened (files.refuses first) (Some First) output outcome)
      ⊎ SomeFile (files.opens first) to_come failed (λ file. IsCompared form profile edition file input output outcome))
      × (made ≡ opening first ∷ [])
  IsDone files to_come failed taken write_failed fate (same form profile edition first (Some second)) input output made outcome =
      IsUnread input × ((IsNotOpened (files.refuses first) (Some First) output outcome × (made ≡ opening first ∷ []))
      ⊎ ((SomeFile (files.opens first) to_come failed (λ file. IsUnread file × IsNotOpened (files.refuses second) (Some Second) output outcome)
      ⊎ SomeFile (files.opens first) to_come failed (λ file. SomeFile (files.opens second) to_come failed (λ other.
      IsCompared form profile edition file other output outcome)))
      × (made ≡ opening first ∷ opening second ∷ [])))
  IsDone files to_come failed taken write_failed fate (input_same form profile edition second) input output made outcome =
      ((IsUnread input × IsNotOpened (files.refuses second) (Some Second) output outcome)
      ⊎ SomeFile (files.opens second) to_come failed (λ file. IsCompared form profile edition input file output outcome))
      × (made ≡ opening second ∷ [])
  IsDone files to_come failed taken write_failed fate (explain named) input output made outcome =
      IsExplained named input output outcome × (made ≡ [])
  IsDone files to_come failed taken write_failed fate (digest profile edition names) input output made outcome =
      AreDigested files to_come failed profile edition names input output made outcome

-- The status for words that clap refuses: 3 for want of memory, and for help or the version that can't be written, which
-- else is 0; 2 for a mistake.
abbrev pub refusal_status : ErrorKind → (write_failed : Bool) → ℕ
refusal_status OutOfMemory failed = 3
refusal_status DisplayHelp failed = if failed then 3 else 0
refusal_status DisplayVersion failed = if failed then 3 else 0
refusal_status kind failed = 2

-- The words are refused: memory is wanting, or they have one of the faults that clap finds in them. Nothing is read of standard
-- input, and something is written to standard output only where help or the version is asked for.
pub record IsRefused (words : List Text) (input : Reader) (writer : Writer) (status : ℕ) : Type 0 where
  pub kind : ErrorKind
  pub found : (kind ≡ OutOfMemory) ⊎ IsAmong kind (fault_of gedtool words)
  pub unread : IsUnread input
  pub unwritten : kind ≢ DisplayHelp → kind ≢ DisplayVersion → IsUnwritten writer
  pub told : status ≡ refusal_status kind writer.failed

module _ {D T : Type 0} where
  -- What the words ask for is done, and told as `Tells` says, and the status is the outcome's.
  pub record IsObeyed (files : Files D T) (to_come : D → Option (List ℕ)) (failed : D → Bool) (taken : T → Option (List ℕ)) (write_failed : T → Bool) (fate : T → Fate) (words : List Text) (input : Reader) (writer errors : Writer) (made : List ShelfCall) (status : ℕ) : Type 0 where
    pub task : Task
    pub outcome : Outcome
    pub faultless : fault_of gedtool words ≡ []
    pub task_asked : asked words ≡ Some task
    pub done : IsDone files to_come failed taken write_failed fate task input writer made outcome
    pub tells : Tells (explains words) task outcome errors
    pub told : status ≡ status_of outcome

  -- What the program does for the words of its command line. Words without a fault that ask for nothing are a mistake:
  -- those under which both files of `same`, or two of `digest`, would be standard input, and a word of `explain` that is of no fault.
  -- Where words are refused or a mistake, no file is opened and no new one prepared.
  abbrev pub Performs : Files D T → (to_come : D → Option (List ℕ)) → (failed : D → Bool)
      → (taken : T → Option (List ℕ)) → (write_failed : T → Bool) → (fate : T → Fate)
      → (words : List Text) → (input : Reader) → (writer errors : Writer) → (made : List ShelfCall) → (status : ℕ) → Type 0
  Performs files to_come failed taken write_failed fate words input writer errors made status =
      (IsRefused words input writer status × (made ≡ []))
      ⊎ IsObeyed files to_come failed taken write_failed fate words input writer errors made status
      ⊎ ((fault_of gedtool words ≡ []) × (asked words ≡ None) × IsUnread input × IsUnwritten writer × (made ≡ []) × (status ≡ 2))
