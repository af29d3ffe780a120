-- Reading a file into a table.
use Rattle.std.proofs.Common.{◌≡◌, ◌≢◌, ℕ, ◌+◌, ◌-◌, ◌<◌, ◌≤◌, take, drop, sym, ◌∙◌, append_assoc, append-nil, List, [], ◌∷◌, ◌++◌, length, inl, inr, refl, subst, ap, arith, length-append}
use Rattle.std.specs.Str.{IsUtf8, IsCharBoundary}
use Rattle.std.proofs.lemmas.List.{take_at, drop_at}
use Rattle.std.proofs.lemmas.Str.{IsCharBoundary-at_seam, IsCharBoundary-from_take, IsCharBoundary-from_rest}
use Rattle.ged_line.specs.Bytes.{Bytes}
use Rattle.ged_line.specs.Lines.{LineParts}
use Rattle.ged_line.specs.Spelling.{LineText}
use Rattle.ged_line.specs.Faults.{IsFaultOf}
use Rattle.ged_line.specs.Pieces.{AreCutInto, ArePiecesOf, IsEnd, IsBehindMark, IsFirstPiece, pieces_of}
use Rattle.ged_tree.proofs.theory.LineParts.{plain_is_utf8}
use Rattle.ged_line.proofs.CallerLemmas.{first_of_pieces, are_cut, line_plain}
use Rattle.ged_tree.proofs.theory.ReadLines.{HaveRead, HaveRead-start, HaveRead-more, HaveReadFile, HaveReadFile-start, HaveReadFile-more, HaveReadFile-end, length-AreTexts}
use Rattle.ged_line.specs.declared.fault.LineFault.{LineFault}
use Rattle.ged_line.specs.Files.{FileText}
use Rattle.ged_tree.specs.TreeFaults.{FirstTreeFault, Pass, no_lines, past_last}
use Rattle.ged_tree.specs.TreeFaults.{at_line as at_line_of}
use Rattle.ged_tree.specs.FileFaults.{ComesAfter, FirstFaultIn, at_piece, at_text, at_end}
use Rattle.ged_tree.specs.Building.{TellsFile}
use Rattle.ged_tree.specs.declared.fault.TreeFault.{TreeFault}
use Rattle.ged_tree.proofs.theory.FirstFaults.{no_pass}
use Rattle.ged_tree.specs.inner.Tables.{HoldsLines, IsSliceAt, TellsEnd, TellsLine}
use Rattle.ged_tree.specs.declared.fault.TreeFault.TheVariants.{Line}
use Rattle.ged_tree.specs.declared.fault.BuildFault.{BuildFault}
use Rattle.ged_tree.specs.declared.fault.BuildFault.TheVariants.{At, Memory}
use Rattle.ged_tree.specs.declared.table.builder.TableBuilder.{TableBuilder}

-- the pieces so far spell the lines of the table, and the others are left
pub record HasTaken (file : Bytes) (table : TableBuilder) (left : List Bytes) : Type 0 where
  pub lines : List LineParts
  pub read : HaveReadFile file lines left
  pub holds : HoldsLines table lines

some_bytes : (piece : Bytes) → piece ≢ [] → 0 < length piece
some_bytes [] n = absurd (n refl)
some_bytes (b ∷ bs) n = omega arith

end_bytes : (end rest : Bytes) → IsEnd end rest → 0 < length end
end_bytes end rest (inl e) = let q = ap (λ (bs : Bytes). length bs) e in omega (arith, q)
end_bytes end rest (inr (inl e)) = let q = ap (λ (bs : Bytes). length bs) e in omega (arith, q)
end_bytes end rest (inr (inr (e, n))) = let q = ap (λ (bs : Bytes). length bs) e in omega (arith, q)

-- no more pieces than bytes
pieces_fit : (pieces : List Bytes) (bytes : Bytes) → AreCutInto bytes pieces → length pieces ≤ length bytes
pieces_fit [] bytes c = omega arith
pieces_fit (piece ∷ pieces) bytes (f, inl (none, e, n)) =
    let nothing : length pieces ≡ 0 = ap (λ (ps : List Bytes). length ps) none in
    let whole = ap (λ (bs : Bytes). length bs) e in
    omega (arith, nothing, whole, some_bytes piece n)
pieces_fit (piece ∷ pieces) bytes (f, inr (end, rest, e, s, h)) =
    let whole = ap (λ (bs : Bytes). length bs) s in
    omega (arith, whole, length-append piece (end ++ rest), length-append end rest, end_bytes end rest e, pieces_fit pieces rest h)

behind_fits : (file bytes : Bytes) → IsBehindMark file bytes → length bytes ≤ length file
behind_fits file bytes (inl e) = let q = ap (λ (bs : Bytes). length bs) e in omega (arith, q)
behind_fits file bytes (inr (e, n)) = let q = ap (λ (bs : Bytes). length bs) e in omega (arith, q)

-- a text has no more lines than bytes
lines_fit_in : (text : Bytes) (lines : List LineParts) (left : List Bytes) → HaveRead text lines left → length lines + length left ≤ length text
lines_fit_in text lines left (before, c, a) =
    let cut = pieces_fit (before ++ left) text c in
    let own = length-AreTexts lines before a in
    omega (arith, cut, own, length-append before left)

-- nor has a file
lines_fit : (file : Bytes) (lines : List LineParts) (left : List Bytes) → HaveReadFile file lines left → length lines + length left ≤ length file
lines_fit file lines left (text, m, h) = omega (arith, lines_fit_in text lines left h, behind_fits file text m)

pub count_fits : (file : Bytes) (table : TableBuilder) (left : List Bytes) → HasTaken file table left → table.count + length left ≤ length file
count_fits file table left t = omega (arith, lines_fit file t.lines left t.read, t.holds.counted)

abbrev pub begun : (file : Bytes) (table : TableBuilder) (pieces : List Bytes) → ArePiecesOf file pieces → HoldsLines table [] → HasTaken file table pieces
begun file table pieces p h = record { lines = []; read = HaveReadFile-start file pieces p; holds = h }

abbrev pub taken_more : (file : Bytes) (table new : TableBuilder) (left rest : List Bytes) (piece : Bytes) (line : LineParts) (t : HasTaken file table left) → left ≡ piece ∷ rest → LineText line piece → HoldsLines new (t.lines ++ line ∷ []) → HasTaken file new rest
taken_more file table new left rest piece line t e text h = record { lines = t.lines ++ line ∷ []; read = HaveReadFile-more file t.lines (t.lines ++ line ∷ []) left rest piece line e refl text t.read; holds = h }

pub lines_few : (file : Bytes) (table : TableBuilder) (left : List Bytes) (t : HasTaken file table left) → length t.lines ≤ length file
lines_few file table left t = omega (arith, lines_fit file t.lines left t.read)

-- the next piece comes after the lines of the table
next_comes : (file : Bytes) (table : TableBuilder) (left rest : List Bytes) (piece : Bytes) (t : HasTaken file table left) → left ≡ piece ∷ rest → ComesAfter file t.lines piece
next_comes file table left rest piece t e =
    let read = t.read in
    record {
      before = read.2.0;
      after = rest;
      pieces = (read.0, read.1, subst (AreCutInto read.0) (ap (λ (ps : List Bytes). read.2.0 ++ ps) e) read.2.1);
      texts = read.2.2;
      pass = t.holds.pass;
    }

-- the next piece is no line
pub stopped : (file : Bytes) (table : TableBuilder) (left rest : List Bytes) (piece : Bytes) (fault : LineFault) → left ≡ piece ∷ rest → IsFaultOf fault piece → HasTaken file table left → FirstFaultIn file (table.count + 1) (Line fault)
stopped file table left rest piece fault e f t = rw t.holds.counted (at_piece file t.lines piece fault (next_comes file table left rest piece t e) f)

-- the table took no line in
pub fault_told : (file : Bytes) (table : TableBuilder) (left rest : List Bytes) (piece : Bytes) (line : LineParts) (t : HasTaken file table left) → left ≡ piece ∷ rest → LineText line piece → (fault : BuildFault) → TellsLine fault t.lines line → TellsFile fault file
fault_told file table left rest piece line t e text (At at) (pass, stands, number) = rw number (at_text file t.lines piece line at.fault (next_comes file table left rest piece t e) text stands)
fault_told file table left rest piece line t e text (Memory error) told = tt

-- every line passes
past_all : (lines : List LineParts) (line : ℕ) (fault : TreeFault) → FirstTreeFault lines line fault → Pass lines → line ≡ length lines + 1
past_all _ _ _ (at_line_of before after line fault p e) pass = absurd (no_pass before after line fault p e pass)
past_all _ _ _ no_lines pass = refl
past_all _ _ _ (past_last lines p n t) pass = refl

pub unended : (file : Bytes) (lines : List LineParts) (fault : BuildFault) → FileText lines file → TellsEnd fault lines → Pass lines → TellsFile fault file
unended file lines (At at) text f pass =
    let e = past_all lines at.line at.fault f pass in
    rw e (at_end file lines at.fault text (subst (λ (n : ℕ). FirstTreeFault lines n at.fault) e f))
unended file lines (Memory error) text f pass = tt

-- every piece is a line
pub read_all : (file : Bytes) (table : TableBuilder) (left : List Bytes) (t : HasTaken file table left) → left ≡ [] → FileText t.lines file
read_all file table left t e = HaveReadFile-end file t.lines left e t.read

-- the same of a text behind a mark, of which this is left
pub record HasTakenIn (text : Bytes) (table : TableBuilder) (rest : Bytes) : Type 0 where
  pub lines : List LineParts
  pub read : HaveRead text lines (pieces_of rest)
  pub holds : HoldsLines table lines
  pub file : table.file.now ≡ text
  pub front : Bytes
  pub whole : text ≡ front ++ rest

abbrev pub taken_in : (text : Bytes) (table : TableBuilder) (rest : Bytes) → HasTakenIn text table rest → (file : Bytes) → IsBehindMark file text → HasTaken file table (pieces_of rest)
taken_in text table rest t file m = record { lines = t.lines; read = (text, m, t.read); holds = t.holds }

abbrev pub begun_in : (text : Bytes) (table : TableBuilder) → HoldsLines table [] → table.file.now ≡ text → HasTakenIn text table text
begun_in text table h e = record { lines = []; read = HaveRead-start text (pieces_of text) (are_cut text); holds = h; file = e; front = []; whole = refl }

pub count_fits_in : (text : Bytes) (table : TableBuilder) (rest : Bytes) → HasTakenIn text table rest → table.count + length (pieces_of rest) ≤ length text
count_fits_in text table rest t = omega (arith, lines_fit_in text t.lines (pieces_of rest) t.read, t.holds.counted)

pub lines_few_in : (text : Bytes) (table : TableBuilder) (rest : Bytes) (t : HasTakenIn text table rest) → length t.lines ≤ length text
lines_few_in text table rest t = omega (arith, lines_fit_in text t.lines (pieces_of rest) t.read)

-- what stands behind a first piece
front_of : (bytes piece rest : Bytes) → IsFirstPiece bytes piece rest → (end : Bytes) × (bytes ≡ piece ++ (end ++ rest))
front_of bytes piece rest (f, inl (end, e, s)) = (end, s)
front_of bytes piece rest (f, inr (e, none, n)) = ([], e ∙ sym (ap (λ (bs : Bytes). piece ++ bs) none ∙ append-nil piece))

-- a line at the front of what is left is a slice of the whole
module _ (text : Bytes) (table : TableBuilder) (rest piece after : Bytes) (line : LineParts) (t : HasTakenIn text table rest) (first : IsFirstPiece rest piece after) (spelled : LineText line piece) where
  end : Bytes
  end = (front_of rest piece after first).0

  parts : rest ≡ piece ++ (end ++ after)
  unfolding end
  parts = (front_of rest piece after first).1

  start : ℕ
  start = length text - length rest

  begins : start ≡ length t.front
  unfolding start
  begins = (let size = ap (λ (bs : Bytes). length bs) t.whole in omega (arith, size, length-append t.front rest))

  pub slice_of_rest : IsUtf8 rest → IsSliceAt table.file.now (length text - length rest) piece
  unfolding start
  slice_of_rest u =
      let behind : drop start text ≡ rest = ap (λ (bs : Bytes). drop start bs) t.whole ∙ drop_at t.front rest start (sym begins) in
      let here : take (length piece) rest ≡ piece = ap (λ (bs : Bytes). take (length piece) bs) parts ∙ take_at piece (end ++ after) (length piece) refl in
      let fits : length piece ≤ length rest = (let size = ap (λ (bs : Bytes). length bs) parts in omega (arith, size, length-append piece (end ++ after))) in
      let within : start ≤ length text = omega arith in
      let plain : IsUtf8 (take (length piece) rest) = subst IsUtf8 (sym here) (plain_is_utf8 piece (line_plain line piece spelled)) in
      let cut : IsCharBoundary rest (length piece) = IsCharBoundary-from_take rest (length piece) u fits plain in
      rw t.file (record {
        begins = subst (λ (n : ℕ). IsCharBoundary text n) (sym begins) (IsCharBoundary-at_seam text t.front rest t.whole u);
        ends = IsCharBoundary-from_rest text start (length piece) within (subst (λ (bs : Bytes). IsCharBoundary bs (length piece)) (sym behind) cut);
        text_is = ap (λ (bs : Bytes). take (length piece) bs) behind ∙ here;
      })

  -- what is left behind the piece is the end of the whole
  pub left_at_end : (front : Bytes) × (text ≡ front ++ after)
  left_at_end = (t.front ++ (piece ++ end), t.whole ∙ ap (λ (bs : Bytes). t.front ++ bs) (parts ∙ sym (append_assoc piece end after)) ∙ sym (append_assoc t.front (piece ++ end) after))

  abbrev pub taken_more_in : (new : TableBuilder) → new.file.now ≡ table.file.now → HoldsLines new (t.lines ++ line ∷ []) → HasTakenIn text new after
  taken_more_in new f h = record {
    lines = t.lines ++ line ∷ [];
    read = HaveRead-more text t.lines (t.lines ++ line ∷ []) (pieces_of rest) (pieces_of after) piece line (first_of_pieces rest piece after first) refl spelled t.read;
    holds = h;
    file = f ∙ t.file;
    front = left_at_end.0;
    whole = left_at_end.1;
  }
