-- Nothing here need be believed: only private contracts and proofs cite it.
use Rattle.std.specs.Prelude.{◌≡◌, ◌≢◌, ◌⊎◌, ⊤, ℕ, List, [], ◌++◌, Bool, false, None, Option, codes}
use Rattle.std.specs.Io.KnownBytes.{Appends}
use Rattle.ged_faults.specs.declared.faults.Fault.{Fault}
use Rattle.ged_faults.specs.declared.faults.Fault.TheVariants.{ReadFailed, WriteFailed}
use Rattle.ged_faults.specs.declared.faults.Which.{Which}
use Rattle.ged_faults.specs.declared.faults.Outcome.{Outcome}
use Rattle.ged_faults.specs.declared.faults.Outcome.TheVariants.{Failed}
use Rattle.ged_explain.specs.Openings.{Opens, cause_head, file_line, reason_line}
use Rattle.ged_explain.specs.Showing.{Begins}
use Rattle.ged_cmd.specs.Telling.{fault_line}
use Rattle.ged_cmd.specs.Tasks.{Task}
use Rattle.ged_cmd.specs.inner.Names.{shown_text}
use Rattle.ged_cmd.specs.inner.Tasks.{file_with_fault, file_written, name_or}
use Rattle.ged_cmd.specs.Streams.{Writer}

-- where no write has failed, none had failed before, and the text was appended
abbrev pub Wrote : (failed_before : Bool) → Writer → List ℕ → Type 0
Wrote failed_before writer text = writer.failed ≡ false → (failed_before ≡ false) × Appends writer.taken writer.holds text

-- the same of some text
abbrev pub WroteSome : (failed_before : Bool) → Writer → Type 0
WroteSome failed_before writer = writer.failed ≡ false → (failed_before ≡ false) × ((text : List ℕ) × Appends writer.taken writer.holds text)

-- how a fault's explanation begins: with the name of the file, and with its line, or, of a fault of a device, with the reason
abbrev pub Explains : (name bytes : List ℕ) → Fault → (reason text : List ℕ) → Type 0
Explains name bytes ReadFailed reason text = Begins (file_line name ++ (reason_line reason ++ cause_head)) text
Explains name bytes WriteFailed reason text = Begins (file_line name ++ (reason_line reason ++ cause_head)) text
Explains name bytes fault reason text = Opens name bytes fault text

-- the name is that of the file of which a fault is told, or of the stream
abbrev pub IsNameOf : Task → Option Which → Fault → (name : List ℕ) → Type 0
IsNameOf task which fault name =
    (fault ≡ WriteFailed → name ≡ name_or (file_written task) (codes "standard output"))
    × (fault ≢ WriteFailed → name ≡ name_or (file_with_fault task which) (codes "standard input"))

-- where no write has failed, none had failed before, and such a text was appended, or nothing
abbrev pub WroteAny : (failed_before : Bool) → Writer → (List ℕ → Type 0) → Type 0
WroteAny failed_before writer Is = writer.failed ≡ false
    → (failed_before ≡ false) × ((text : List ℕ) × ((text ≡ []) ⊎ Is text) × Appends writer.taken writer.holds text)

-- behind the line of an outcome's fault only its explanation is written, with the name as it is shown
abbrev pub WroteExplanation : (failed_before : Bool) → Writer → Task → (bytes reason : List ℕ) → Outcome → Type 0
WroteExplanation failed_before writer task bytes reason (Failed which fault) = (name : List ℕ) × IsNameOf task which fault name
    × WroteAny failed_before writer (Explains (shown_text name) bytes fault reason)
WroteExplanation failed_before writer task bytes reason outcome = ⊤

-- the line that tells a fault of a file of `digest` after the file's name, as it is shown; one of the output has no name
abbrev pub named_line : (name : List ℕ) → Fault → List ℕ
named_line name WriteFailed = fault_line None WriteFailed
named_line name fault = shown_text name ++ (codes ": " ++ fault_line None fault)

-- that line, of an outcome that has a fault
abbrev pub named_told : (name : List ℕ) → Outcome → List ℕ
named_told name (Failed which fault) = named_line name fault
named_told name outcome = []
