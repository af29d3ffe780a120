-- What is read so far of a file, and what is left of it.
use Rattle.std.proofs.Common.{◌≡◌, ℕ, ◌+◌, List, [], ◌∷◌, ◌++◌, length, refl, sym, ◌∙◌, ap, subst, arith, append_assoc, append-nil}
use Rattle.ged_line.specs.Bytes.{Bytes}
use Rattle.ged_line.specs.Lines.{LineParts}
use Rattle.ged_line.specs.Spelling.{LineText}
use Rattle.ged_line.specs.Faults.{IsFaultOf}
use Rattle.ged_line.specs.Pieces.{AreCutInto, ArePiecesOf, IsBehindMark}
use Rattle.ged_line.specs.Files.{FileText, AreTexts, StopsAt}
use Rattle.ged_line.proofs.CallerLemmas.{file_from_texts}
use Rattle.ged_line.specs.declared.fault.LineFault.{LineFault}

pub length-AreTexts : (lines : List LineParts) (pieces : List Bytes) → AreTexts lines pieces → length lines ≡ length pieces
length-AreTexts [] pieces a = sym (ap (λ (ps : List Bytes). length ps) a)
length-AreTexts (l ∷ lines) [] a = absurd a
length-AreTexts (l ∷ lines) (p ∷ pieces) a = let more = length-AreTexts lines pieces a.1 in omega (arith, more)

-- one more line and its piece
pub AreTexts-more : (lines : List LineParts) (before : List Bytes) (line : LineParts) (piece : Bytes)
    → AreTexts lines before → LineText line piece → AreTexts (lines ++ (line ∷ [])) (before ++ (piece ∷ []))
AreTexts-more [] before line piece a t = rw a (t, refl)
AreTexts-more (l ∷ lines) [] line piece a t = absurd a
AreTexts-more (l ∷ lines) (b ∷ before) line piece a t = (a.0, AreTexts-more lines before line piece a.1 t)

-- the pieces so far spell these lines, and those are left
abbrev pub HaveRead : Bytes → List LineParts → List Bytes → Type 0
HaveRead bytes lines left = (before : List Bytes) × AreCutInto bytes (before ++ left) × AreTexts lines before

pub HaveRead-start : (bytes : Bytes) (pieces : List Bytes) → AreCutInto bytes pieces → HaveRead bytes [] pieces
HaveRead-start bytes pieces p = ([], p, refl)

pub HaveRead-more : (bytes : Bytes) (lines now : List LineParts) (left rest : List Bytes) (piece : Bytes) (line : LineParts)
    → left ≡ piece ∷ rest → now ≡ lines ++ (line ∷ []) → LineText line piece → HaveRead bytes lines left → HaveRead bytes now rest
HaveRead-more bytes lines now left rest piece line e n t (before, p, a) =
    let moved : before ++ left ≡ (before ++ (piece ∷ [])) ++ rest = ap (λ x. before ++ x) e ∙ sym (append_assoc before (piece ∷ []) rest) in
    (before ++ (piece ∷ []), subst (AreCutInto bytes) moved p, subst (λ ls. AreTexts ls (before ++ (piece ∷ []))) (sym n) (AreTexts-more lines before line piece a t))

-- the same of a file, which may have a mark
abbrev pub HaveReadFile : Bytes → List LineParts → List Bytes → Type 0
HaveReadFile file lines left = (bytes : Bytes) × IsBehindMark file bytes × HaveRead bytes lines left

pub HaveReadFile-start : (file : Bytes) (pieces : List Bytes) → ArePiecesOf file pieces → HaveReadFile file [] pieces
HaveReadFile-start file pieces (bytes, m, c) = (bytes, m, HaveRead-start bytes pieces c)

pub HaveReadFile-more : (file : Bytes) (lines now : List LineParts) (left rest : List Bytes) (piece : Bytes) (line : LineParts)
    → left ≡ piece ∷ rest → now ≡ lines ++ (line ∷ []) → LineText line piece → HaveReadFile file lines left → HaveReadFile file now rest
HaveReadFile-more file lines now left rest piece line e n t (bytes, m, h) = (bytes, m, HaveRead-more bytes lines now left rest piece line e n t h)

-- nothing is left
pub HaveReadFile-end : (file : Bytes) (lines : List LineParts) (left : List Bytes) → left ≡ [] → HaveReadFile file lines left → FileText lines file
HaveReadFile-end file lines left e (bytes, m, (before, p, a)) =
    file_from_texts file lines before (bytes, m, subst (AreCutInto bytes) (ap (λ x. before ++ x) e ∙ append-nil before) p) a

-- what is left begins with a piece that is no line
pub HaveReadFile-fault : (file : Bytes) (lines : List LineParts) (left rest : List Bytes) (piece : Bytes) (fault : LineFault) (at : ℕ)
    → left ≡ piece ∷ rest → IsFaultOf fault piece → at ≡ length lines + 1 → HaveReadFile file lines left → StopsAt file lines at fault
HaveReadFile-fault file lines left rest piece fault at e f n (bytes, m, (before, p, a)) =
    let count : length lines ≡ length before = length-AreTexts lines before a in
    (bytes, m, record { before = before; piece = piece; after = rest; cut = subst (AreCutInto bytes) (ap (λ x. before ++ x) e) p; texts = a; fault_is = f; line_is = omega (arith, n, count) })
