-- What the proofs of the crates above cite of this crate, and they cite nothing else of its proofs.
use Rattle.std.specs.Prelude.{◌≡◌, ℕ, ◌≤◌, ◌==◌, true, List, [], ◌∷◌, ◌++◌, ◌⊎◌, length}
use Rattle.std.specs.List.{AllByRecursion}
use Rattle.ged_line.specs.Bytes.{Bytes, space}
use Rattle.ged_line.specs.Characters.{is_tag_character, is_plain}
use Rattle.ged_line.specs.Names.{is_tag, is_xref}
use Rattle.ged_line.specs.Lines.{Value, LineParts}
use Rattle.ged_line.specs.inner.LineTexts.{IsValuePart, LineInParts}
use Rattle.ged_line.specs.Spelling.{LineText}
use Rattle.ged_line.specs.Faults.{StandsAt, word}
use Rattle.ged_line.specs.Pieces.{HasNoEnd, IsFirstPiece, AreCutInto, ArePiecesOf, IsBehindMark, pieces_of}
use Rattle.ged_line.specs.WholeLines.{EndsLine, OneWholeFront, WholePiecesStay}
use Rattle.ged_line.specs.Files.{FileText, AreTexts, StopsAt}
use Rattle.ged_line.specs.Laws.{OneLine, OneCut, OneListOfLines, WrittenIsRead}
use Rattle.ged_line.specs.declared.fault.LineFault.{LineFault}
use Rattle.ged_line.proofs.bytes.Banned as banned
use Rattle.ged_line.proofs.bytes.Cutting as cutting
use Rattle.ged_line.proofs.file.FileLaws as files
use Rattle.ged_line.proofs.file.WholeLines as whole_lines
use Rattle.ged_line.proofs.line.LineLaws as lines_of_pieces
use Rattle.ged_line.proofs.line.LineTexts as texts_of_lines
use Rattle.ged_line.proofs.line.NameTests as names
use Rattle.ged_line.proofs.line.Scans as scans
use Rattle.std.proofs.lemmas.Str.{IsUtf8-nil}
use Rattle.std.proofs.Common.{refl}

-- ---- names and texts

-- each character of a tag is a tag character
pub tag_each : (tag : Bytes) → is_tag tag ≡ true → AllByRecursion (λ c. is_tag_character c ≡ true) tag
tag_each = names.tag_each

-- and of the name of a cross-reference identifier
pub xref_each : (name : Bytes) → is_xref name ≡ true → AllByRecursion (λ c. is_tag_character c ≡ true) name
xref_each = names.xref_each

-- the empty text has no character that may not stand in a line
pub nothing_plain : is_plain [] ≡ true
nothing_plain = banned.is_plain-from [] IsUtf8-nil ([], refl, tt)

-- ---- lines

-- a piece has one line at most
pub one_line : OneLine
one_line = lines_of_pieces.one_line

-- no fault stands at the text of a line
pub no_fault : (line : LineParts) (text : Bytes) → LineText line text → (fault : LineFault) → ¬ (StandsAt fault text)
no_fault = lines_of_pieces.no_fault

-- the text of a line is UTF-8 without banned characters
pub line_plain : (line : LineParts) (text : Bytes) → LineText line text → is_plain text ≡ true
line_plain line text t = let plain = lines_of_pieces.line_plain line text t in banned.is_plain-from text plain.0 plain.1

-- the text of a line is its level, its identifier, its tag and what spells its value
pub in_parts : (line : LineParts) (text : Bytes) → LineText line text → LineInParts line text
in_parts = texts_of_lines.in_parts

-- what stands behind a tag is nothing or begins with a space
pub part_ends : (value : Value) (part : Bytes) → IsValuePart value part → (part ≡ []) ⊎ ((more : Bytes) × (part ≡ space ∷ more))
part_ends = lines_of_pieces.part_ends

-- a tag is the word that stands before such a part
pub word_tag : (rest tag part : Bytes) → (is_tag tag ≡ true) × ((part ≡ []) ⊎ ((more : Bytes) × (part ≡ space ∷ more))) × (rest ≡ tag ++ part) → word rest ≡ tag
word_tag = scans.word_tag

-- ---- pieces

-- bytes are cut into the pieces that are computed
pub are_cut : (bytes : Bytes) → AreCutInto bytes (pieces_of bytes)
are_cut = cutting.are_cut

-- the first of them, and those of the rest
pub first_of_pieces : (bytes piece rest : Bytes) → IsFirstPiece bytes piece rest → pieces_of bytes ≡ piece ∷ pieces_of rest
first_of_pieces = cutting.first_of_pieces

-- a file is cut into pieces in one way
pub one_cut : OneCut
one_cut = files.one_cut

-- ---- files

-- pieces that spell lines are those of a file that spells them
pub file_from_texts : (file : Bytes) (lines : List LineParts) (pieces : List Bytes) → ArePiecesOf file pieces → AreTexts lines pieces → FileText lines file
file_from_texts = files.FileText-from_texts

-- and the other way round
pub texts_of_file : (file : Bytes) (lines : List LineParts) → FileText lines file → (pieces : List Bytes) × ArePiecesOf file pieces × AreTexts lines pieces
texts_of_file = files.FileText-texts

-- a file spells one list of lines at most
pub one_reading : OneListOfLines
one_reading = files.one_reading

-- a file at which reading stops spells no lines
pub no_stop : (file : Bytes) (lines others : List LineParts) (line : ℕ) (fault : LineFault) → StopsAt file lines line fault → ¬ (FileText others file)
no_stop = files.no_stop

-- what is written of lines spells these lines
pub written_is_read : WrittenIsRead
written_is_read = files.FileText-file_of

-- ---- lines that are counted, and a file that grows

pub AreTexts-more : (lines : List LineParts) (before : List Bytes) (line : LineParts) (piece : Bytes)
    → AreTexts lines before → LineText line piece → AreTexts (lines ++ (line ∷ [])) (before ++ (piece ∷ []))
AreTexts-more = files.AreTexts-more

pub length-AreTexts : (lines : List LineParts) (pieces : List Bytes) → AreTexts lines pieces → length lines ≡ length pieces
length-AreTexts = files.length-AreTexts

pub length-ArePiecesOf : (file : Bytes) (pieces : List Bytes) → ArePiecesOf file pieces → length pieces ≤ length file
length-ArePiecesOf = files.length-ArePiecesOf

-- a file that spells lines has a piece for each; and pieces that are lines' texts make the file that spells them
pub FileText-texts : (file : Bytes) (lines : List LineParts) → FileText lines file → (pieces : List Bytes) × ArePiecesOf file pieces × AreTexts lines pieces
FileText-texts = files.FileText-texts

pub FileText-from_texts : (file : Bytes) (lines : List LineParts) (pieces : List Bytes) → ArePiecesOf file pieces → AreTexts lines pieces → FileText lines file
FileText-from_texts = files.FileText-from_texts

pub nil_of : (bs : List ℕ) → true ≡ (length bs == 0) → bs ≡ []
nil_of = cutting.nil_of

-- the pieces of whole lines stay, and bytes have one whole front, as the functions of these names in src/ state
pub whole_stay : WholePiecesStay
whole_stay = whole_lines.whole_stay

pub one_whole : OneWholeFront
one_whole = whole_lines.one_whole

-- a file of whole lines is more than its mark
pub mark_no_line : (file bytes : Bytes) → EndsLine file → IsBehindMark file bytes → bytes ≡ [] → ⊥
mark_no_line = whole_lines.mark_no_line

pub EndsLine-behind : (xs ys : Bytes) → EndsLine ys → EndsLine (xs ++ ys)
EndsLine-behind = whole_lines.EndsLine-behind

pub HasNoEnd-append : (xs ys : Bytes) → HasNoEnd xs → HasNoEnd ys → HasNoEnd (xs ++ ys)
HasNoEnd-append = whole_lines.HasNoEnd-append
