-- The lines of a file and its pieces.
use Rattle.std.proofs.Common.{◌≡◌, ◌≢◌, ℕ, ◌+◌, ◌≤◌, Bool, true, false, List, [], ◌∷◌, ◌++◌, inl, inr, Option, Some, None, Result, Ok, Err, length, length-append, get_or, refl, sym, ◌∙◌, ap, subst, arith, MatchOption, IfOk}
use Rattle.std.proofs.lemmas.List.{append-nil, append_assoc}
use Rattle.std.proofs.lemmas.List.Elements.{recursion_from_All, All-from_get_or}
use Rattle.std.proofs.lemmas.Str.{NoCharPasses-byte}
use Rattle.std.specs.List.{AllByRecursion}
use Rattle.std.specs.declared.alloc.AllocError.{AllocError}
use Rattle.ged_line.specs.Bytes.{Bytes}
use Rattle.ged_line.specs.Characters.{is_banned}
use Rattle.ged_line.specs.Lines.{LineParts, is_line}
use Rattle.ged_line.specs.Spelling.{LineText, spelling, spelled_lines, file_of}
use Rattle.ged_line.specs.Faults.{IsFaultOf}
use Rattle.ged_line.specs.Pieces.{HasNoEnd, AreCutInto, ArePiecesOf, IsBehindMark, pieces_of}
use Rattle.ged_line.specs.Files.{SpellLines, FileText, AreTexts, StopsIn, StopsAt}
use Rattle.ged_line.specs.Reading.{TellsLines}
use Rattle.ged_line.specs.declared.fault.LineFault.{LineFault}
use Rattle.ged_line.specs.declared.fault.LineFault.TheVariants.{EmptyLine}
use Rattle.ged_line.specs.declared.fault.LineAt.{LineAt}
use Rattle.ged_line.specs.declared.owned.lines.Lines.{Lines}
use Rattle.ged_line.proofs.bytes.Cutting.{pieces_only, length-AreCutInto}
use Rattle.ged_line.proofs.line.LineLaws.{IsPlain, one_line, no_fault, line_plain}

carriage_banned : (b : ℕ) → b ≡ 13 → is_banned b ≡ true
carriage_banned b e = rw e refl

feed_banned : (b : ℕ) → b ≡ 10 → is_banned b ≡ true
feed_banned b e = rw e refl

differ : (b : Bool) → b ≡ true → b ≡ false → ⊥
differ b e f = cc

-- no line end stands in a text without banned characters
pub HasNoEnd-plain : (bs : List ℕ) → IsPlain bs → HasNoEnd bs
HasNoEnd-plain bs p = recursion_from_All (λ b. (b ≢ 13) × (b ≢ 10)) bs (All-from_get_or (λ b. (b ≢ 13) × (b ≢ 10)) bs 0 (λ i s. (
  λ e. differ (is_banned (get_or bs i 0)) (carriage_banned (get_or bs i 0) e) (NoCharPasses-byte is_banned bs i p.1 s (omega arith)),
  λ e. differ (is_banned (get_or bs i 0)) (feed_banned (get_or bs i 0) e) (NoCharPasses-byte is_banned bs i p.1 s (omega arith)),
)))

pub HasNoEnd-line : (line : LineParts) (text : Bytes) → LineText line text → HasNoEnd text
HasNoEnd-line line text t = HasNoEnd-plain text (line_plain line text t)

pub line_not_empty : (line : LineParts) (text : Bytes) → LineText line text → text ≢ []
line_not_empty line text t e = no_fault line text t EmptyLine e

pub LineText-spelling : (line : LineParts) → is_line line ≡ true → LineText line (spelling line)
LineText-spelling line l = record { is_line = l; spelled = inl refl }

-- one more line and its piece
pub AreTexts-more : (lines : List LineParts) (before : List Bytes) (line : LineParts) (piece : Bytes)
    → AreTexts lines before → LineText line piece → AreTexts (lines ++ (line ∷ [])) (before ++ (piece ∷ []))
AreTexts-more [] before line piece a t = rw a (t, refl)
AreTexts-more (l ∷ lines) [] line piece a t = absurd a
AreTexts-more (l ∷ lines) (b ∷ before) line piece a t = (a.0, AreTexts-more lines before line piece a.1 t)

pub length-AreTexts : (lines : List LineParts) (pieces : List Bytes) → AreTexts lines pieces → length lines ≡ length pieces
length-AreTexts [] pieces a = sym (ap length a)
length-AreTexts (l ∷ lines) [] a = absurd a
length-AreTexts (l ∷ lines) (p ∷ pieces) a = let more = length-AreTexts lines pieces a.1 in omega arith

no_texts : (lines : List LineParts) → AreTexts lines [] → lines ≡ []
no_texts [] a = refl
no_texts (l ∷ ls) a = absurd a

-- pieces that spell lines are the texts of a file's lines, and the other way round
texts_spell : (lines : List LineParts) (pieces : List Bytes) (bytes : Bytes) → AreCutInto bytes pieces → AreTexts lines pieces → SpellLines lines bytes
texts_spell [] pieces bytes c a = let z : AreCutInto bytes [] = subst (AreCutInto bytes) a c in z
texts_spell (l ∷ lines) [] bytes c a = absurd a
texts_spell (l ∷ lines) (p ∷ pieces) bytes (n, inl (none, e, some)) a =
    let rest : AreTexts lines [] = subst (AreTexts lines) none a.1 in
    (p, a.0, inl (no_texts lines rest, e))
texts_spell (l ∷ lines) (p ∷ pieces) bytes (n, inr (end, rest, e, s, c)) a = (p, a.0, inr (end, rest, e, s, texts_spell lines pieces rest c a.1))

spelled_texts : (lines : List LineParts) (bytes : Bytes) → SpellLines lines bytes → (pieces : List Bytes) × AreCutInto bytes pieces × AreTexts lines pieces
spelled_texts [] bytes s = ([], s, refl)
spelled_texts (l ∷ lines) bytes (text, t, inl (none, e)) =
    (text ∷ [], (HasNoEnd-line l text t, inl (refl, e, line_not_empty l text t)), (t, subst (λ ls. AreTexts ls []) (sym none) refl))
spelled_texts (l ∷ lines) bytes (text, t, inr (end, rest, e, s, more)) =
    let after = spelled_texts lines rest more in
    (text ∷ after.0, (HasNoEnd-line l text t, inr (end, rest, e, s, after.1)), (t, after.2))

pub FileText-from_texts : (file : Bytes) (lines : List LineParts) (pieces : List Bytes) → ArePiecesOf file pieces → AreTexts lines pieces → FileText lines file
FileText-from_texts file lines pieces (bytes, m, c) a = (bytes, m, texts_spell lines pieces bytes c a)

pub FileText-texts : (file : Bytes) (lines : List LineParts) → FileText lines file → (pieces : List Bytes) × ArePiecesOf file pieces × AreTexts lines pieces
FileText-texts file lines (bytes, m, s) = let cut = spelled_texts lines bytes s in (cut.0, (bytes, m, cut.1), cut.2)

behind_same : (file a b : Bytes) → IsBehindMark file a → IsBehindMark file b → a ≡ b
behind_same file a b (inl e) (inl f) = let z : 0xEF ∷ 0xBB ∷ 0xBF ∷ a ≡ 0xEF ∷ 0xBB ∷ 0xBF ∷ b = sym e ∙ f in cc
behind_same file a b (inl e) (inr (f, n)) = absurd (n a e)
behind_same file a b (inr (e, n)) (inl f) = absurd (n b f)
behind_same file a b (inr (e, n)) (inr (f, m)) = sym e ∙ f

-- a file has one list of pieces
pub one_cut : (file : Bytes) (pieces others : List Bytes) → ArePiecesOf file pieces → ArePiecesOf file others → pieces ≡ others
one_cut file pieces others (a, m, c) (b, n, d) =
    let same : a ≡ b = behind_same file a b m n in
    pieces_only pieces a c ∙ ap pieces_of same ∙ sym (pieces_only others b d)

-- no more pieces than bytes
pub length-ArePiecesOf : (file : Bytes) (pieces : List Bytes) → ArePiecesOf file pieces → length pieces ≤ length file
length-ArePiecesOf file pieces (bytes, inl e, c) = let few = length-AreCutInto pieces bytes c in omega (arith, ap length e)
length-ArePiecesOf file pieces (bytes, inr (e, f), c) = let few = length-AreCutInto pieces bytes c in omega (arith, ap length e)

same_texts : (a b : List LineParts) (pieces : List Bytes) → AreTexts a pieces → AreTexts b pieces → a ≡ b
same_texts [] [] pieces s t = refl
same_texts [] (y ∷ b) pieces s t = let z : AreTexts (y ∷ b) [] = subst (AreTexts (y ∷ b)) s t in absurd z
same_texts (x ∷ a) [] pieces s t = let z : AreTexts (x ∷ a) [] = subst (AreTexts (x ∷ a)) t s in absurd z
same_texts (x ∷ a) (y ∷ b) [] s t = absurd s
same_texts (x ∷ a) (y ∷ b) (p ∷ pieces) s t =
    let first : x ≡ y = one_line x y p s.0 t.0 in
    let rest : a ≡ b = same_texts a b pieces s.1 t.1 in
    cc

-- a file spells one list of lines
pub one_reading : (file : Bytes) (lines others : List LineParts) → FileText lines file → FileText others file → lines ≡ others
one_reading file lines others s t =
    let a = FileText-texts file lines s in
    let b = FileText-texts file others t in
    same_texts lines others a.0 a.2 (subst (AreTexts others) (one_cut file b.0 a.0 b.1 a.1) b.2)

line_of_piece : (lines : List LineParts) (before : List Bytes) (piece : Bytes) (after : List Bytes) → AreTexts lines (before ++ (piece ∷ after)) → (line : LineParts) × LineText line piece
line_of_piece [] [] piece after a = cc
line_of_piece [] (b ∷ before) piece after a = cc
line_of_piece (l ∷ lines) [] piece after a = (l, a.0)
line_of_piece (l ∷ lines) (b ∷ before) piece after a = line_of_piece lines before piece after a.1

-- where reading stops the file spells no lines
pub no_stop : (file : Bytes) (lines others : List LineParts) (at : ℕ) (fault : LineFault) → StopsAt file lines at fault → ¬ (FileText others file)
no_stop file lines others at fault (bytes, m, s) t =
    let read = FileText-texts file others t in
    let whole : AreTexts others (s.before ++ (s.piece ∷ s.after)) = subst (AreTexts others) (one_cut file read.0 (s.before ++ (s.piece ∷ s.after)) read.1 (bytes, m, s.cut)) read.2 in
    let line = line_of_piece others s.before s.piece s.after whole in
    no_fault line.0 s.piece line.1 fault s.fault_is.stands

-- what the file spells is what was read
only_told : (file : Bytes) (lines : List LineParts) (stop : Option LineAt) (others : List LineParts)
    → MatchOption stop (FileText lines file) (λ at. StopsAt file lines at.line at.fault) → FileText others file → (lines ≡ others) × (stop ≡ None)
only_told file lines None others h t = (one_reading file lines others h t, refl)
only_told file lines (Some at) others h t = absurd (no_stop file lines others at.line at.fault h t)

pub only_read : (file : Bytes) (result : Result Lines AllocError) → IfOk result (TellsLines file)
    → (lines : List LineParts) → FileText lines file → IfOk result (λ read. (read.lines.items ≡ lines) × (read.stop ≡ None))
only_read file (Ok read) h lines t = only_told file read.lines.items read.stop lines h t
only_read file (Err e) h lines t = tt

-- what a step of reading does: the pieces so far spell these lines, and those are left
abbrev pub HaveRead : Bytes → List LineParts → List Bytes → Type 0
HaveRead bytes lines left = (before : List Bytes) × AreCutInto bytes (before ++ left) × AreTexts lines before

pub HaveRead-start : (bytes : Bytes) (pieces : List Bytes) → AreCutInto bytes pieces → HaveRead bytes [] pieces
HaveRead-start bytes pieces p = ([], p, refl)

pub HaveRead-more : (bytes : Bytes) (lines now : List LineParts) (left rest : List Bytes) (piece : Bytes) (line : LineParts)
    → left ≡ piece ∷ rest → now ≡ lines ++ (line ∷ []) → LineText line piece → HaveRead bytes lines left → HaveRead bytes now rest
HaveRead-more bytes lines now left rest piece line e n t (before, p, a) =
    let moved : before ++ left ≡ (before ++ (piece ∷ [])) ++ rest = ap (λ x. before ++ x) e ∙ sym (append_assoc before (piece ∷ []) rest) in
    (before ++ (piece ∷ []), subst (AreCutInto bytes) moved p, subst (λ ls. AreTexts ls (before ++ (piece ∷ []))) (sym n) (AreTexts-more lines before line piece a t))

pub HaveRead-end : (bytes : Bytes) (lines : List LineParts) (left : List Bytes) → left ≡ [] → HaveRead bytes lines left → SpellLines lines bytes
HaveRead-end bytes lines left e (before, p, a) =
    texts_spell lines before bytes (subst (AreCutInto bytes) (ap (λ x. before ++ x) e ∙ append-nil before) p) a

pub HaveRead-fault : (bytes : Bytes) (lines : List LineParts) (left rest : List Bytes) (piece : Bytes) (fault : LineFault) (at : ℕ)
    → left ≡ piece ∷ rest → IsFaultOf fault piece → at ≡ length lines + 1 → HaveRead bytes lines left → StopsIn bytes lines at fault
HaveRead-fault bytes lines left rest piece fault at e f n (before, p, a) =
    let count : length lines ≡ length before = length-AreTexts lines before a in
    record { before = before; piece = piece; after = rest; cut = subst (AreCutInto bytes) (ap (λ x. before ++ x) e) p; texts = a; fault_is = f; line_is = omega arith }

AreTexts-append : (lines more : List LineParts) (before pieces : List Bytes) → AreTexts lines before → AreTexts more pieces → AreTexts (lines ++ more) (before ++ pieces)
AreTexts-append [] more before pieces a t = rw a t
AreTexts-append (l ∷ lines) more [] pieces a t = absurd a
AreTexts-append (l ∷ lines) more (b ∷ before) pieces a t = (a.0, AreTexts-append lines more before pieces a.1 t)

-- the lines of a block, whose pieces are the first of those that are left
pub HaveRead-block : (bytes : Bytes) (lines more : List LineParts) (left rest : List Bytes) (block : Bytes)
    → left ≡ pieces_of block ++ rest → SpellLines more block → HaveRead bytes lines left → HaveRead bytes (lines ++ more) rest
HaveRead-block bytes lines more left rest block e s (before, p, a) =
    let (pieces, c, t) = spelled_texts more block s in
    let moved : before ++ left ≡ (before ++ pieces) ++ rest =
    ap (λ x. before ++ x) (e ∙ ap (λ x. x ++ rest) (sym (pieces_only pieces block c))) ∙ sym (append_assoc before pieces rest) in
    (before ++ pieces, subst (AreCutInto bytes) moved p, AreTexts-append lines more before pieces a t)

-- a block's fault is the fault of what it stands in
pub StopsIn-block : (bytes : Bytes) (lines more : List LineParts) (line : ℕ) (left rest : List Bytes) (block : Bytes) (fault : LineFault)
    → left ≡ pieces_of block ++ rest → StopsIn block more line fault → HaveRead bytes lines left → StopsIn bytes (lines ++ more) (length lines + line) fault
StopsIn-block bytes lines more line left rest block fault e s (before, p, a) =
    let own = s.before ++ (s.piece ∷ s.after) in
    let count : length lines ≡ length before = length-AreTexts lines before a in
    let number : line ≡ length s.before + 1 = s.line_is in
    let moved : before ++ left ≡ (before ++ s.before) ++ (s.piece ∷ (s.after ++ rest)) =
    ap (λ x. before ++ x) (e ∙ ap (λ x. x ++ rest) (sym (pieces_only own block s.cut)) ∙ append_assoc s.before (s.piece ∷ s.after) rest)
    ∙ sym (append_assoc before s.before (s.piece ∷ (s.after ++ rest))) in
    record {
      before = before ++ s.before;
      piece = s.piece;
      after = s.after ++ rest;
      cut = subst (AreCutInto bytes) moved p;
      texts = AreTexts-append lines more before s.before a s.texts;
      fault_is = s.fault_is;
      line_is = omega (arith, length-append before s.before);
    }

-- no more lines than bytes stand before a fault and in its piece
pub StopsIn-few : (bytes : Bytes) (lines : List LineParts) (line : ℕ) (fault : LineFault) → StopsIn bytes lines line fault → line ≤ length bytes
StopsIn-few bytes lines line fault s =
    let few = length-AreCutInto (s.before ++ (s.piece ∷ s.after)) bytes s.cut in
    let number : line ≡ length s.before + 1 = s.line_is in
    omega (arith, length-append s.before (s.piece ∷ s.after))

-- the same of a file, which may have a mark
abbrev pub HaveReadFile : Bytes → List LineParts → List Bytes → Type 0
HaveReadFile file lines left = (bytes : Bytes) × IsBehindMark file bytes × HaveRead bytes lines left

pub HaveReadFile-start : (file : Bytes) (pieces : List Bytes) → ArePiecesOf file pieces → HaveReadFile file [] pieces
HaveReadFile-start file pieces (bytes, m, c) = (bytes, m, HaveRead-start bytes pieces c)

pub HaveReadFile-more : (file : Bytes) (lines now : List LineParts) (left rest : List Bytes) (piece : Bytes) (line : LineParts)
    → left ≡ piece ∷ rest → now ≡ lines ++ (line ∷ []) → LineText line piece → HaveReadFile file lines left → HaveReadFile file now rest
HaveReadFile-more file lines now left rest piece line e n t (bytes, m, h) = (bytes, m, HaveRead-more bytes lines now left rest piece line e n t h)

pub HaveReadFile-end : (file : Bytes) (lines : List LineParts) (left : List Bytes) → left ≡ [] → HaveReadFile file lines left → FileText lines file
HaveReadFile-end file lines left e (bytes, m, h) = (bytes, m, HaveRead-end bytes lines left e h)

pub HaveReadFile-fault : (file : Bytes) (lines : List LineParts) (left rest : List Bytes) (piece : Bytes) (fault : LineFault) (at : ℕ)
    → left ≡ piece ∷ rest → IsFaultOf fault piece → at ≡ length lines + 1 → HaveReadFile file lines left → StopsAt file lines at fault
HaveReadFile-fault file lines left rest piece fault at e f n (bytes, m, h) = (bytes, m, HaveRead-fault bytes lines left rest piece fault at e f n h)

-- what was written is read again
pub SpellLines-spelled : (lines : List LineParts) → AllByRecursion (λ line. is_line line ≡ true) lines → SpellLines lines (spelled_lines lines)
SpellLines-spelled [] a = refl
SpellLines-spelled (l ∷ lines) a = (spelling l, LineText-spelling l a.0, inr (10 ∷ [], spelled_lines lines, inr (inl refl), refl, SpellLines-spelled lines a.1))

pub FileText-file_of : (lines : List LineParts) → AllByRecursion (λ line. is_line line ≡ true) lines → FileText lines (file_of lines)
FileText-file_of lines a = (spelled_lines lines, inl refl, SpellLines-spelled lines a)
