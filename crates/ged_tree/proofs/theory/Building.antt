-- What building answers of lines, and what of a file.
use Rattle.std.proofs.Common.{◌≡◌, ℕ, ◌+◌, ◌<◌, ◌≤◌, List, [], ◌∷◌, ◌++◌, length, drop, cond, ◌==◌, Option, Some, None, inl, inr, refl, sym, subst, ◌∙◌, ap, arith, length-append, append_assoc, append-nil}
use Rattle.std.proofs.lemmas.Bool.{cases_lt}
use Rattle.ged_line.specs.Bytes.{Bytes}
use Rattle.ged_line.specs.Lines.{LineParts}
use Rattle.ged_line.specs.Spelling.{LineText}
use Rattle.ged_line.specs.Faults.{IsFaultOf, line_fault_number}
use Rattle.ged_line.specs.declared.fault.LineFault.TheVariants.{NotUtf8, BannedCharacter, EmptyLine, BadLevel, LevelTooLarge, BadXref, BadTag, BadValue}
use Rattle.ged_line.specs.Pieces.{ArePiecesOf}
use Rattle.ged_line.specs.Files.{FileText, AreTexts, StopsAt}
use Rattle.ged_line.specs.declared.fault.LineAt.{LineAt}
use Rattle.ged_line.specs.declared.fault.LineFault.{LineFault}
use Rattle.ged_line.proofs.CallerLemmas.{one_line, no_fault, one_cut, one_reading, no_stop, texts_of_file}
use Rattle.ged_tree.proofs.theory.ReadLines.{AreTexts-more, length-AreTexts}
use Rattle.ged_tree.specs.Documents.{HasLines}
use Rattle.ged_tree.specs.DocumentLines.{document_lines}
use Rattle.ged_tree.specs.TreeFaults.{Pass, start, FirstTreeFault, no_lines, past_last}
use Rattle.ged_tree.specs.TreeFaults.{at_line as at_line_of}
use Rattle.ged_tree.specs.Trees.{Trees}
use Rattle.ged_tree.specs.FileFaults.{ComesAfter, FirstFaultIn, at_piece, at_text, at_end}
use Rattle.ged_tree.specs.Building.{HasFile, IsBuildFault, ReadsAs, FaultyFileHasNone, FileFaultIsBuildFault, SameLinesOneDocument}
use Rattle.ged_tree.specs.declared.fault.TreeFault.{TreeFault}
use Rattle.ged_tree.specs.declared.fault.TreeFault.TheVariants.{Line, NoHeader, NoTrailer}
use Rattle.ged_tree.specs.declared.fault.TreeAt.{TreeAt}
use Rattle.ged_tree.proofs.theory.LinesThatPass.{passes}
use Rattle.ged_tree.proofs.theory.FirstFaults.{none_of_faulty}

-- where the first fault stands past all lines, they pass
past_pass : (lines : List LineParts) (line : ℕ) (fault : TreeFault) → FirstTreeFault lines line fault → length lines < line → Pass lines
past_pass _ _ _ (at_line_of before after line fault p e) h = absurd (omega (arith, h, length-append before (line ∷ after)))
past_pass _ _ _ no_lines h = start
past_pass _ _ _ (past_last lines p n t) h = p

-- there the fault of a stop is the first
pub stop_first : (lines : List LineParts) (stop : LineAt) (line n : ℕ) (fault f : TreeFault) → FirstTreeFault lines line fault → length lines < line → n ≡ stop.line → f ≡ Line stop.fault
    → IsBuildFault lines (Some stop) n f
stop_first lines stop line n fault f first h e g = inr (past_pass lines line fault first h, e, g)

-- and before it, that of the lines
pub line_first : (lines : List LineParts) (stop : Option LineAt) (line : ℕ) (fault : TreeFault) → FirstTreeFault lines line fault → line ≤ length lines → IsBuildFault lines stop line fault
line_first lines None line fault f h = f
line_first lines (Some stop) line fault f h = inl (f, h)

-- the lines of the first pieces are the first lines
front_is : (front lines : List LineParts) (before after : List Bytes) → AreTexts front before → AreTexts lines (before ++ after) → (rest : List LineParts) × (lines ≡ front ++ rest) × AreTexts rest after
front_is [] lines before after f a = (lines, refl, subst (λ (ps : List Bytes). AreTexts lines (ps ++ after)) f a)
front_is (x ∷ front) lines [] after f a = absurd f
front_is (x ∷ front) [] (p ∷ before) after f a = absurd (let e : p ∷ (before ++ after) ≡ [] = a in cc)
front_is (x ∷ front) (y ∷ lines) (p ∷ before) after f a =
    let same : y ≡ x = one_line y x p a.0 f.0 in
    let more = front_is front lines before after f.1 a.1 in
    (more.0, (let e : lines ≡ front ++ more.0 = more.1 in cc), more.2)

-- a first fault at one of the lines is the first of more lines
first_of_more : (front rest : List LineParts) (line : ℕ) (fault : TreeFault) → FirstTreeFault front line fault → line ≤ length front → FirstTreeFault (front ++ rest) line fault
first_of_more _ rest _ _ (at_line_of before after line fault p e) h = rw (append_assoc before (line ∷ after) rest) (at_line_of before (after ++ rest) line fault p e)
first_of_more _ rest _ _ no_lines h = absurd (omega (arith, h))
first_of_more _ rest _ _ (past_last lines p n t) h = absurd (omega (arith, h))

fault_is_line : (line : LineParts) (p q : Bytes) (fault : LineFault) → LineText line p → p ≡ q → IsFaultOf fault q → ⊥
fault_is_line line p q fault t e f = no_fault line q (subst (λ (b : Bytes). LineText line b) e t) fault f.stands

abbrev first_piece : List Bytes → Bytes
first_piece [] = []
first_piece (p ∷ ps) = p

-- lines of the first pieces are the first of those before the first piece that is no line
front_of_stop : (front lines : List LineParts) (before after own : List Bytes) (piece : Bytes) (behind : List Bytes) (fault : LineFault) → AreTexts front before → AreTexts lines own
    → before ++ after ≡ own ++ piece ∷ behind → IsFaultOf fault piece → (rest : List LineParts) × (lines ≡ front ++ rest)
front_of_stop [] lines before after own piece behind fault f a e s = (lines, refl)
front_of_stop (x ∷ front) lines [] after own piece behind fault f a e s = absurd f
front_of_stop (x ∷ front) [] (p ∷ before) after own piece behind fault f a e s =
    let whole : p ∷ (before ++ after) ≡ piece ∷ behind = e ∙ ap (λ (ps : List Bytes). ps ++ piece ∷ behind) a in
    absurd (fault_is_line x p piece fault f.0 (ap first_piece whole) s)
front_of_stop (x ∷ front) (y ∷ lines) (p ∷ before) after [] piece behind fault f a e s = absurd a
front_of_stop (x ∷ front) (y ∷ lines) (p ∷ before) after (q ∷ own) piece behind fault f a e s =
    let first : p ≡ q = ap first_piece e in
    let same : x ≡ y = one_line x y q (subst (λ (b : Bytes). LineText x b) first f.0) a.0 in
    let more = front_of_stop front lines before after own piece behind fault f.1 a.1 (ap (drop 1) e) s in
    (more.0, let more_is : lines ≡ front ++ more.0 = more.1 in cc)

-- reading stops at one piece
record SameStop (front lines : List LineParts) (before own : List Bytes) (piece other : Bytes) : Type 0 where
  lines_are : front ≡ lines
  place_is : length before ≡ length own
  piece_is : piece ≡ other

one_stop : (front lines : List LineParts) (before own : List Bytes) (piece other : Bytes) (behind after : List Bytes) (fault told : LineFault) → AreTexts front before → AreTexts lines own
    → before ++ piece ∷ behind ≡ own ++ other ∷ after → IsFaultOf fault piece → IsFaultOf told other → SameStop front lines before own piece other
one_stop [] [] before own piece other behind after fault told f a e s t =
    let whole : piece ∷ behind ≡ other ∷ after = ap (λ (ps : List Bytes). ps ++ piece ∷ behind) (sym f) ∙ e ∙ ap (λ (ps : List Bytes). ps ++ other ∷ after) a in
    record { lines_are = refl; place_is = ap (λ (ps : List Bytes). length ps) (f ∙ sym a); piece_is = ap first_piece whole }
one_stop [] (y ∷ lines) before [] piece other behind after fault told f a e s t = absurd a
one_stop [] (y ∷ lines) before (q ∷ own) piece other behind after fault told f a e s t =
    let whole : piece ∷ behind ≡ q ∷ (own ++ other ∷ after) = ap (λ (ps : List Bytes). ps ++ piece ∷ behind) (sym f) ∙ e in
    absurd (fault_is_line y q piece fault a.0 (sym (ap first_piece whole)) s)
one_stop (x ∷ front) lines [] own piece other behind after fault told f a e s t = absurd f
one_stop (x ∷ front) [] (p ∷ before) own piece other behind after fault told f a e s t =
    let whole : p ∷ (before ++ piece ∷ behind) ≡ other ∷ after = e ∙ ap (λ (ps : List Bytes). ps ++ other ∷ after) a in
    absurd (fault_is_line x p other told f.0 (ap first_piece whole) t)
one_stop (x ∷ front) (y ∷ lines) (p ∷ before) [] piece other behind after fault told f a e s t = absurd a
one_stop (x ∷ front) (y ∷ lines) (p ∷ before) (q ∷ own) piece other behind after fault told f a e s t =
    let first : p ≡ q = ap first_piece e in
    let same : x ≡ y = one_line x y q (subst (λ (b : Bytes). LineText x b) first f.0) a.0 in
    let more = one_stop front lines before own piece other behind after fault told f.1 a.1 (ap (drop 1) e) s t in
    record { lines_are = (let lines_same : front ≡ lines = more.lines_are in cc); place_is = omega (arith, more.place_is); piece_is = more.piece_is }

-- the fault of a number
abbrev numbered : ℕ → LineFault
numbered n = cond (n == 1) NotUtf8 (cond (n == 2) BannedCharacter (cond (n == 3) EmptyLine (cond (n == 4) BadLevel (cond (n == 5) LevelTooLarge (cond (n == 6) BadXref (cond (n == 7) BadTag BadValue))))))

numbered_again : (f : LineFault) → numbered (line_fault_number f) ≡ f
numbered_again NotUtf8 = refl
numbered_again BannedCharacter = refl
numbered_again EmptyLine = refl
numbered_again BadLevel = refl
numbered_again LevelTooLarge = refl
numbered_again BadXref = refl
numbered_again BadTag = refl
numbered_again BadValue = refl

number_is : (f g : LineFault) → line_fault_number f ≡ line_fault_number g → f ≡ g
number_is f g e = sym (numbered_again f) ∙ ap numbered e ∙ numbered_again g

-- a piece has one fault
one_fault_of : (piece : Bytes) (f g : LineFault) → IsFaultOf f piece → IsFaultOf g piece → f ≡ g
one_fault_of piece f g s t = elim (cases_lt (line_fault_number f) (line_fault_number g)) [
  | inl less ↦ absurd (t.least f less s.stands)
  | inr most ↦ elim (cases_lt (line_fault_number g) (line_fault_number f)) [
    | inl more ↦ absurd (s.least g more t.stands)
    | inr least ↦ number_is f g (omega arith)
  ]
]

-- the first pieces of the file spell these lines
abbrev BeginsWithLines : Bytes → List LineParts → Type 0
BeginsWithLines file lines = (before after : List Bytes) × ArePiecesOf file (before ++ after) × AreTexts lines before

-- The first fault of a file. It stands at one of the lines that the first pieces spell; or it is the fault of the first piece
-- that is no line, and the lines before it pass; or every piece is a line, and it is the first fault of all these lines.
data IsFileFault : Bytes → ℕ → TreeFault → Type 0 where
  at_line : (file : Bytes) (lines : List LineParts) (line : ℕ) (fault : TreeFault)
      → BeginsWithLines file lines → FirstTreeFault lines line fault → line ≤ length lines → IsFileFault file line fault
  of_piece : (file : Bytes) (lines : List LineParts) (line : ℕ) (fault : LineFault)
      → StopsAt file lines line fault → Pass lines → IsFileFault file line (Line fault)
  of_lines : (file : Bytes) (lines : List LineParts) (line : ℕ) (fault : TreeFault)
      → FileText lines file → FirstTreeFault lines line fault → IsFileFault file line fault

-- lines and their pieces, parted at one line
record Parted (before : List LineParts) (line : LineParts) (pieces : List Bytes) : Type 0 where
  own : List Bytes
  piece : Bytes
  rest : List Bytes
  cut : pieces ≡ own ++ piece ∷ rest
  texts : AreTexts before own
  text : LineText line piece

parted : (before : List LineParts) (line : LineParts) (after : List LineParts) (pieces : List Bytes) → AreTexts (before ++ line ∷ after) pieces → Parted before line pieces
parted [] line after [] a = absurd a
parted [] line after (p ∷ pieces) a = record { own = []; piece = p; rest = pieces; cut = refl; texts = refl; text = a.0 }
parted (x ∷ before) line after [] a = absurd a
parted (x ∷ before) line after (p ∷ pieces) a =
    let more = parted before line after pieces a.1 in
    record { own = p ∷ more.own; piece = more.piece; rest = more.rest; cut = ap (λ (ps : List Bytes). p ∷ ps) more.cut; texts = (a.0, more.texts); text = more.text }

-- what comes after lines stops there
stop_at : (file : Bytes) (lines : List LineParts) (piece : Bytes) (fault : LineFault) → ComesAfter file lines piece → IsFaultOf fault piece → StopsAt file lines (length lines + 1) fault
stop_at file lines piece fault c f =
    let cut = c.pieces in
    let count : length lines ≡ length c.before = length-AreTexts lines c.before c.texts in
    (cut.0, cut.1, record { before = c.before; piece = piece; after = c.after; cut = cut.2; texts = c.texts; fault_is = f; line_is = omega arith })

told_of : (file : Bytes) (line : ℕ) (fault : TreeFault) → FirstFaultIn file line fault → IsFileFault file line fault
told_of _ _ _ (at_piece file lines piece fault c f) = of_piece file lines (length lines + 1) fault (stop_at file lines piece fault c f) c.pass
told_of _ _ _ (at_text file lines piece line fault c text stands) =
    let now = lines ++ line ∷ [] in
    let cut = subst (λ (ps : List Bytes). ArePiecesOf file ps) (sym (append_assoc c.before (piece ∷ []) c.after)) c.pieces in
    let begins : BeginsWithLines file now = (c.before ++ piece ∷ [], c.after, cut, AreTexts-more lines c.before line piece c.texts text) in
    at_line file now (length lines + 1) fault begins (at_line_of lines [] line fault c.pass stands) (omega (arith, length-append lines (line ∷ [])))
told_of _ _ _ (at_end file lines fault text f) = of_lines file lines (length lines + 1) fault text f

-- the first fault of lines, at one of them, is the file's
line_told : (file : Bytes) (lines : List LineParts) (line : ℕ) (fault : TreeFault) → (before after : List Bytes) → ArePiecesOf file (before ++ after) → AreTexts lines before → FirstTreeFault lines line fault → line ≤ length lines → FirstFaultIn file line fault
line_told file _ _ _ before after cut texts (at_line_of front behind line fault p e) h =
    let own = parted front line behind before texts in
    let whole : before ++ after ≡ own.own ++ own.piece ∷ (own.rest ++ after) = ap (λ (ps : List Bytes). ps ++ after) own.cut ∙ append_assoc own.own (own.piece ∷ own.rest) after in
    at_text file front own.piece line fault (record { before = own.own; after = own.rest ++ after; pieces = subst (λ (ps : List Bytes). ArePiecesOf file ps) whole cut; texts = own.texts; pass = p }) own.text e
line_told file _ _ _ before after cut texts no_lines h = absurd (omega (arith, h))
line_told file _ _ _ before after cut texts (past_last lines p n t) h = absurd (omega (arith, h))

-- a file that has a document spells its lines, and one that spells a document's lines has it
pub lines_of_file : (document : Trees) (file : Bytes) → HasFile document file → (lines : List LineParts) × FileText lines file × HasLines document lines
lines_of_file document file has = (document_lines document, has.1, record { allowed = has.0; told = refl })

pub file_of_lines : (document : Trees) (lines : List LineParts) (file : Bytes) → FileText lines file → HasLines document lines → HasFile document file
file_of_lines document lines file text has = (has.allowed, subst (λ (ls : List LineParts). FileText ls file) has.told text)

pub same_lines : SameLinesOneDocument
same_lines file other lines text of_other document (is, own) =
    (is, subst (λ (ls : List LineParts). FileText ls other) (one_reading file lines (document_lines document) text own) of_other)

pub none_of_file : FaultyFileHasNone
none_of_file file line fault f document has = let own = lines_of_file document file has in go file line fault (told_of file line fault f) own.0 own.1 own.2
  where
    go : (file : Bytes) (line : ℕ) (fault : TreeFault) → IsFileFault file line fault → (all : List LineParts) → FileText all file → HasLines document all → ⊥
    go _ _ _ (at_line file front line fault (before, after, cut, texts) f h) all text has =
        let read = texts_of_file file all text in
        let whole : AreTexts all (before ++ after) = subst (λ (ps : List Bytes). AreTexts all ps) (one_cut file read.0 (before ++ after) read.1 cut) read.2 in
        let rest = front_is front all before after texts whole in
        let first : FirstTreeFault all line fault = subst (λ (ls : List LineParts). FirstTreeFault ls line fault) (sym rest.1) (first_of_more front rest.0 line fault f h) in
        none_of_faulty all (line, fault, first) document has
    go _ _ _ (of_piece file lines line fault stop pass) all text has = no_stop file lines all line fault stop text
    go _ _ _ (of_lines file lines line fault own f) all text has =
        none_of_faulty all (line, fault, subst (λ (ls : List LineParts). FirstTreeFault ls line fault) (one_reading file lines all own text) f) document has

-- two stops of a file are the same
record SameReading (lines others : List LineParts) (line number : ℕ) (fault told : LineFault) : Type 0 where
  lines_are : lines ≡ others
  line_is : line ≡ number
  fault_is : fault ≡ told

same_reading : (file : Bytes) (lines others : List LineParts) (line number : ℕ) (fault told : LineFault) → StopsAt file lines line fault → StopsAt file others number told → SameReading lines others line number fault told
same_reading file lines others line number fault told (bytes, m, s) (own, n, t) =
    let cut = one_cut file (s.before ++ s.piece ∷ s.after) (t.before ++ t.piece ∷ t.after) (bytes, m, s.cut) (own, n, t.cut) in
    let same = one_stop lines others s.before t.before s.piece t.piece s.after t.after fault told s.texts t.texts cut s.fault_is t.fault_is in
    record { lines_are = same.lines_are; line_is = omega (arith, s.line_is, t.line_is, same.place_is); fault_is = one_fault_of t.piece fault told (subst (λ (b : Bytes). IsFaultOf fault b) same.piece_is s.fault_is) t.fault_is }

forth : (file : Bytes) (line : ℕ) (fault : TreeFault) → IsFileFault file line fault → (lines : List LineParts) (stop : Option LineAt) → ReadsAs file lines stop → IsBuildFault lines stop line fault
forth _ _ _ (at_line file front line fault (before, after, cut, texts) f h) lines None text =
    let read = texts_of_file file lines text in
    let whole : AreTexts lines (before ++ after) = subst (λ (ps : List Bytes). AreTexts lines ps) (one_cut file read.0 (before ++ after) read.1 cut) read.2 in
    let rest = front_is front lines before after texts whole in
    subst (λ (ls : List LineParts). FirstTreeFault ls line fault) (sym rest.1) (first_of_more front rest.0 line fault f h)
forth _ _ _ (at_line file front line fault (before, after, cut, texts) f h) lines (Some stop) (bytes, m, s) =
    let same = one_cut file (before ++ after) (s.before ++ s.piece ∷ s.after) cut (bytes, m, s.cut) in
    let rest = front_of_stop front lines before after s.before s.piece s.after stop.fault texts s.texts same s.fault_is in
    let longer = ap (λ (ls : List LineParts). length ls) rest.1 in
    inl (subst (λ (ls : List LineParts). FirstTreeFault ls line fault) (sym rest.1) (first_of_more front rest.0 line fault f h), omega (arith, h, longer, length-append front rest.0))
forth _ _ _ (of_piece file front line fault stops pass) lines None text = absurd (no_stop file front lines line fault stops text)
forth _ _ _ (of_piece file front line fault stops pass) lines (Some stop) read =
    let same = same_reading file front lines line stop.line fault stop.fault stops read in
    inr (subst (λ (ls : List LineParts). Pass ls) same.lines_are pass, same.line_is, ap Line same.fault_is)
forth _ _ _ (of_lines file all line fault text f) lines None own = subst (λ (ls : List LineParts). FirstTreeFault ls line fault) (one_reading file all lines text own) f
forth _ _ _ (of_lines file all line fault text f) lines (Some stop) read = absurd (no_stop file lines all stop.line stop.fault read text)

texts_of_lines : (file : Bytes) (lines : List LineParts) (line : ℕ) (fault : TreeFault) → FileText lines file → FirstTreeFault lines line fault → FirstFaultIn file line fault
texts_of_lines file lines _ _ text (at_line_of front behind line fault p e) =
    let read = texts_of_file file (front ++ line ∷ behind) text in
    line_told file (front ++ line ∷ behind) (length front + 1) fault read.0 [] (subst (λ (ps : List Bytes). ArePiecesOf file ps) (sym (append-nil read.0)) read.1) read.2 (at_line_of front behind line fault p e) (omega (arith, length-append front (line ∷ behind)))
texts_of_lines file _ _ _ text no_lines = at_end file [] NoHeader text no_lines
texts_of_lines file _ _ _ text (past_last lines p n t) = at_end file lines NoTrailer text (past_last lines p n t)

back : (file : Bytes) (lines : List LineParts) (stop : Option LineAt) → ReadsAs file lines stop → (line : ℕ) (fault : TreeFault) → IsBuildFault lines stop line fault → FirstFaultIn file line fault
back file lines None text line fault f = texts_of_lines file lines line fault text f
back file lines (Some stop) (bytes, m, s) line fault (inl (f, h)) = line_told file lines line fault s.before (s.piece ∷ s.after) (bytes, m, s.cut) s.texts f h
back file lines (Some stop) (bytes, m, s) line fault (inr (pass, e, g)) =
    let count : length lines ≡ length s.before = length-AreTexts lines s.before s.texts in
    let place : line ≡ length lines + 1 = omega (arith, e, s.line_is, count) in
    rw (place, g) (at_piece file lines s.piece stop.fault (record { before = s.before; after = s.after; pieces = (bytes, m, s.cut); texts = s.texts; pass = pass }) s.fault_is)

pub file_fault : FileFaultIsBuildFault
file_fault file lines stop read line fault = (λ f. forth file line fault (told_of file line fault f) lines stop read, λ f. back file lines stop read line fault f)

-- what a table of the written lines answers is answered of the lines
module _ (lines : List LineParts) (file : Bytes) (text : FileText lines file) where
  pub written_fault : (at : TreeAt) → FirstFaultIn file at.line at.fault → FirstTreeFault lines at.line at.fault
  written_fault at f = (file_fault file lines None text at.line at.fault).0 f

  pub written_has : (document : Trees) → HasFile document file → HasLines document lines
  written_has document has = let own = lines_of_file document file has in subst (λ (ls : List LineParts). HasLines document ls) (one_reading file own.0 lines own.1 text) own.2

  pub written_stop : (document : Trees) (stop : LineAt) (n : ℕ) (f : TreeFault) → HasFile document file → n ≡ stop.line → f ≡ Line stop.fault → IsBuildFault lines (Some stop) n f
  written_stop document stop n f has e g = inr ((passes document lines (written_has document has)).0, e, g)
