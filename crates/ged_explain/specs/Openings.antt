-- How the lines that explain a fault begin.
use Rattle.std.specs.Prelude.{◌==◌, ℕ, [], ◌∷◌, ◌++◌, codes, decimal, length, if◌then◌else◌}
use Rattle.ged_line.specs.Bytes.{Bytes, line_feed}
use Rattle.ged_faults.specs.declared.faults.Fault.{Fault}
use Rattle.ged_faults.specs.declared.faults.Fault.TheVariants.{InFile, TooLong, ReadFailed, WriteFailed, Memory}
use Rattle.ged_explain.specs.Showing.{Begins, ShowsPiece}

-- the line that names the file
abbrev pub file_line : Bytes → Bytes
file_line name = codes "  file: " ++ (name ++ line_feed ∷ [])

-- that line, and the number of a line at the head of the next one
abbrev pub opening : Bytes → ℕ → Bytes
opening name line = file_line name ++ (codes "  line " ++ decimal line)

-- the lines that name the file and show a line of it
abbrev pub ShowsLine : Bytes → Bytes → ℕ → Bytes → Type 0
ShowsLine name bytes line text = (shown : Bytes) × ShowsPiece bytes line shown × Begins (opening name line ++ shown) text

-- the line that tells a reason; none for the empty one
abbrev pub reason_line : Bytes → Bytes
reason_line reason = if length reason == 0 then [] else codes "  reason: " ++ (reason ++ line_feed ∷ [])

-- how the line begins that tells what usually causes a fault
abbrev pub cause_head : Bytes
cause_head = codes "  cause: "

-- how the lines that explain a fault begin: with the file and the line, or with the file and then its cause
abbrev pub Opens : Bytes → Bytes → Fault → Bytes → Type 0
Opens name bytes (InFile line kind) text = ShowsLine name bytes line text
Opens name bytes TooLong text = Begins (file_line name ++ cause_head) text
Opens name bytes ReadFailed text = Begins (file_line name ++ cause_head) text
Opens name bytes WriteFailed text = Begins (file_line name ++ cause_head) text
Opens name bytes (Memory error) text = Begins (file_line name ++ cause_head) text
