-- The text of a line and its canonical spelling, and the lines respelled so far.
use Rattle.std.proofs.Common.{◌≡◌, ◌≢◌, ℕ, ◌+◌, ◌-◌, ◌<◌, ◌≤◌, List, [], ◌∷◌, ◌++◌, inl, inr, true, length, take, drop, refl, sym, ◌∙◌, ap, subst, arith, length-append}
use Rattle.std.proofs.lemmas.List.{append-nil, append_assoc, append_cancel_right}
use Rattle.ged_line.specs.Bytes.{Bytes}
use Rattle.ged_line.specs.Lines.{LineParts, Value, Empty, Void, Pointer, Text}
use Rattle.ged_line.specs.Spelling.{LineText, spelling, spelled_lines}
use Rattle.ged_line.specs.Views.{viewed_value}
use Rattle.ged_line.specs.Faults.{IsFaultOf}
use Rattle.ged_line.specs.Pieces.{AreCutInto, pieces_of}
use Rattle.ged_line.specs.Files.{SpellLines, StopsIn}
use Rattle.ged_line.specs.inner.Reading.{IsRespelledBehind}
use Rattle.ged_line.specs.inner.Respelling.{Growing, EndsWith, IsSpelledOn, text_before}
use Rattle.ged_line.specs.declared.fault.LineFault.{LineFault}
use Rattle.ged_line.specs.declared.line.view.ValueView.{ValueView}
use Rattle.ged_line.specs.declared.line.view.ValueView.TheVariants as views
use Rattle.ged_line.proofs.line.LineTexts.{before_tag, empty_spelling}
use Rattle.ged_line.proofs.file.Answering.{take_front, drop_front}
use Rattle.ged_line.proofs.line.Cuts.{Lacks, cut_not_whole}
use Rattle.ged_line.proofs.line.NameTests.{tag_some}
use Rattle.ged_line.proofs.bytes.Cutting.{are_cut, length-AreCutInto}
use Rattle.ged_line.proofs.line.Scans.{Lacks-tag}
use Rattle.ged_line.proofs.line.LineLaws.{line_is}
use Rattle.ged_line.specs.Names.{is_tag}
use Rattle.ged_line.proofs.file.FileLaws.{length-AreTexts, HaveRead, HaveRead-start, HaveRead-more, HaveRead-end, HaveRead-fault, HaveRead-block, StopsIn-block}

nothing_after : (xs ys : List ℕ) → ys ≢ [] → xs ++ ys ≡ [] → ⊥
nothing_after [] ys n e = n e
nothing_after (x ∷ xs) ys n e = cc

-- a list that ends with parts other than c doesn't end with c
last_lacks : (c : ℕ) (xs ys front : List ℕ) → Lacks c ys → ys ≢ [] → xs ++ ys ≡ front ++ (c ∷ []) → ⊥
last_lacks c [] [] front l n e = n refl
last_lacks c [] (y ∷ ys) front l n e = cut_not_whole c front [] (y ∷ ys) l (sym e)
last_lacks c (x ∷ xs) ys [] l n e =
    let tail : xs ++ ys ≡ [] = cc in
    nothing_after xs ys n tail
last_lacks c (x ∷ xs) ys (f ∷ front) l n e =
    let tail : xs ++ ys ≡ front ++ (c ∷ []) = cc in
    last_lacks c xs ys front l n tail

tag_not_nil : (line : LineParts) (text : Bytes) → LineText line text → line.tag ≢ []
tag_not_nil line text t e = tag_some (subst (λ tag. is_tag tag ≡ true) e (line_is line t.is_line).tag)

not_empty_value : (view : ValueView) (value : Value) → viewed_value view ≡ value → view ≢ views.Empty → value ≢ Empty
not_empty_value views.Empty value e n = λ f. n refl
not_empty_value views.Void value e n = λ f. (let z : Void ≡ Empty = e ∙ f in cc)
not_empty_value (views.Pointer name) value e n = λ f. (let z : Pointer name.now ≡ Empty = e ∙ f in cc)
not_empty_value (views.Text text) value e n = λ f. (let z : Text text.now ≡ Empty = e ∙ f in cc)

-- a line with a value has one text
pub text_filled : (line : LineParts) (text : Bytes) (view : ValueView) → LineText line text → viewed_value view ≡ line.value → view ≢ views.Empty → text ≡ spelling line
text_filled line text view t e n = elim t.spelled [
  | inl own ↦ own
  | inr blank ↦ absurd (not_empty_value view line.value e n blank.0)
]

-- the text of a line without a value has a space at its end, or is its spelling
pub text_stripped : (line : LineParts) (text front : Bytes) → LineText line text → Empty ≡ line.value → text ≡ front ++ (32 ∷ []) → front ≡ spelling line
text_stripped line text front t e s = elim t.spelled [
  | inl own ↦
      let whole : before_tag line ++ line.tag ≡ front ++ (32 ∷ []) = sym (empty_spelling line (sym e)) ∙ sym own ∙ s in
      absurd (last_lacks 32 (before_tag line) line.tag front (Lacks-tag line.tag (line_is line t.is_line).tag) (tag_not_nil line text t) whole)
  | inr blank ↦
      let whole : spelling line ++ (32 ∷ []) ≡ front ++ (32 ∷ []) = sym blank.1 ∙ s in
      sym (append_cancel_right (spelling line) front (32 ∷ []) whole)
]

pub text_kept : (line : LineParts) (text : Bytes) → LineText line text → Empty ≡ line.value → ((front : Bytes) → text ≢ front ++ (32 ∷ [])) → text ≡ spelling line
text_kept line text t e n = elim t.spelled [
  | inl own ↦ own
  | inr blank ↦ absurd (n (spelling line) blank.1)
]

-- so many lines of the bytes are respelled behind what stood there, and those pieces are left
abbrev pub HaveRespelled : Bytes → ℕ → List Bytes → Bytes → Bytes → Type 0
HaveRespelled bytes count left old out = (lines : List LineParts) × HaveRead bytes lines left × (count ≡ length lines) × (out ≡ old ++ spelled_lines lines)

pub HaveRespelled-start : (bytes : Bytes) (pieces : List Bytes) (old : Bytes) → AreCutInto bytes pieces → HaveRespelled bytes 0 pieces old old
HaveRespelled-start bytes pieces old c = ([], HaveRead-start bytes pieces c, refl, sym (append-nil old))

spelled_more : (lines : List LineParts) (line : LineParts) → spelled_lines (lines ++ (line ∷ [])) ≡ spelled_lines lines ++ (spelling line ++ (10 ∷ []))
spelled_more [] line = refl
spelled_more (l ∷ lines) line = ap (λ x. spelling l ++ (10 ∷ x)) (spelled_more lines line) ∙ sym (append_assoc (spelling l) (10 ∷ spelled_lines lines) (spelling line ++ (10 ∷ [])))

pub HaveRespelled-more : (bytes : Bytes) (count : ℕ) (left rest : List Bytes) (piece old out now : Bytes) (line : LineParts)
    → left ≡ piece ∷ rest → LineText line piece → now ≡ out ++ (spelling line ++ (10 ∷ [])) → HaveRespelled bytes count left old out → HaveRespelled bytes (count + 1) rest old now
HaveRespelled-more bytes count left rest piece old out now line e t n (lines, h, k, o) = (
  lines ++ (line ∷ []),
  HaveRead-more bytes lines (lines ++ (line ∷ [])) left rest piece line e refl t h,
  omega (arith, length-append lines (line ∷ [])),
  n ∙ ap (λ x. x ++ (spelling line ++ (10 ∷ []))) o ∙ append_assoc old (spelled_lines lines) (spelling line ++ (10 ∷ [])) ∙ ap (λ x. old ++ x) (sym (spelled_more lines line)),
)

pub HaveRespelled-end : (bytes : Bytes) (count : ℕ) (left : List Bytes) (old out : Bytes) → left ≡ [] → HaveRespelled bytes count left old out
    → IsRespelledBehind bytes count old out
HaveRespelled-end bytes count left old out e (lines, h, k, o) = (lines, HaveRead-end bytes lines left e h, k, o)

pub HaveRespelled-fault : (bytes : Bytes) (count : ℕ) (left rest : List Bytes) (piece old out : Bytes) (fault : LineFault)
    → left ≡ piece ∷ rest → IsFaultOf fault piece → HaveRespelled bytes count left old out → (lines : List LineParts) × StopsIn bytes lines (count + 1) fault
HaveRespelled-fault bytes count left rest piece old out fault e f (lines, h, k, o) = (lines, HaveRead-fault bytes lines left rest piece fault (count + 1) e f (omega arith) h)

pub HaveRespelled-room : (bytes : Bytes) (count : ℕ) (left rest : List Bytes) (piece old out : Bytes) → left ≡ piece ∷ rest → HaveRespelled bytes count left old out → count < length bytes
HaveRespelled-room bytes count left rest piece old out e (lines, (before, c, a), k, o) =
    let all = length-AreCutInto (before ++ left) bytes c in
    let same : length lines ≡ length before = length-AreTexts lines before a in
    omega (arith, length-append before left, ap length e)

-- the same where lines that are spelled as they should be are pending: they stand before the rest, and other bytes behind that
pub record IsRespelledTo (bytes : Bytes) (count : ℕ) (rest behind pending old out : Bytes) : Type 0 where
  pub kept : Bytes
  pub split : pending ≡ kept ++ (rest ++ behind)
  pub read : HaveRespelled bytes count (pieces_of rest) old (out ++ kept)

pub text_before-is : (answer : Growing) (kept left : Bytes) → answer.pending ≡ kept ++ left → text_before left answer ≡ answer.text ++ kept
text_before-is answer kept left e =
    let front : take (length answer.pending - length left) answer.pending ≡ kept = rw e (take_front kept left) in
    ap (λ x. answer.text ++ x) front

pub IsRespelledTo-start : (bytes behind : Bytes) (answer : Growing) → EndsWith answer.pending (bytes ++ behind)
    → IsRespelledTo bytes 0 bytes behind answer.pending (text_before (bytes ++ behind) answer) answer.text
IsRespelledTo-start bytes behind answer (kept, e) = record {
  kept = kept;
  split = e;
  read = rw (text_before-is answer kept (bytes ++ behind) e) (HaveRespelled-start bytes (pieces_of bytes) (answer.text ++ kept) (are_cut bytes));
}

-- a line that stands as it should be
pub IsRespelledTo-kept : (bytes : Bytes) (count : ℕ) (rest after behind pending old out piece : Bytes) (line : LineParts)
    → pieces_of rest ≡ piece ∷ pieces_of after → LineText line piece → rest ≡ spelling line ++ (10 ∷ after)
    → IsRespelledTo bytes count rest behind pending old out → IsRespelledTo bytes (count + 1) after behind pending old out
IsRespelledTo-kept bytes count rest after behind pending old out piece line p t e r =
    let spelled = spelling line ++ (10 ∷ []) in
    let added : spelled ++ (after ++ behind) ≡ rest ++ behind = sym (append_assoc spelled after behind) ∙ ap (λ x. x ++ behind) (append_assoc (spelling line) (10 ∷ []) after ∙ sym e) in
    record {
      kept = r.kept ++ spelled;
      split = r.split ∙ ap (λ x. r.kept ++ x) (sym added) ∙ sym (append_assoc r.kept spelled (after ++ behind));
      read = HaveRespelled-more bytes count (pieces_of rest) (pieces_of after) piece old (out ++ r.kept) (out ++ (r.kept ++ spelled)) line p t
          (sym (append_assoc out r.kept spelled)) r.read;
    }

-- a line that is kept up to its end, and gets a line feed; more stands between it and what stands after it
pub IsRespelledTo-made : (bytes : Bytes) (count : ℕ) (rest after behind pending left old out now piece more : Bytes) (line : LineParts)
    → pieces_of rest ≡ piece ∷ pieces_of after → LineText line piece → rest ≡ spelling line ++ (more ++ after)
    → now ≡ out ++ (take (length pending - (length rest + length behind - length (spelling line))) pending ++ (10 ∷ []))
    → left ≡ drop (length pending - (length after + length behind)) pending
    → IsRespelledTo bytes count rest behind pending old out → IsRespelledTo bytes (count + 1) after behind left old now
IsRespelledTo-made bytes count rest after behind pending left old out now piece more line p t m n d r =
    let lf : Bytes = 10 ∷ [] in
    let back = (more ++ after) ++ behind in
    let rest_long : length rest ≡ length (spelling line) + length (more ++ after) = ap length m ∙ length-append (spelling line) (more ++ after) in
    let back_long : length back ≡ length rest + length behind - length (spelling line) = omega (arith, length-append (more ++ after) behind) in
    let after_long : length (after ++ behind) ≡ length after + length behind = length-append after behind in
    let whole : pending ≡ (r.kept ++ spelling line) ++ back =
    r.split ∙ ap (λ x. r.kept ++ (x ++ behind)) m ∙ ap (λ x. r.kept ++ x) (append_assoc (spelling line) (more ++ after) behind) ∙ sym (append_assoc r.kept (spelling line) back) in
    let front : take (length pending - (length rest + length behind - length (spelling line))) pending ≡ r.kept ++ spelling line =
    rw (← back_long) (rw whole (take_front (r.kept ++ spelling line) back)) in
    let cut : pending ≡ ((r.kept ++ spelling line) ++ more) ++ (after ++ behind) =
    whole ∙ ap (λ x. (r.kept ++ spelling line) ++ x) (append_assoc more after behind) ∙ sym (append_assoc (r.kept ++ spelling line) more (after ++ behind)) in
    let end : drop (length pending - (length after + length behind)) pending ≡ after ++ behind =
    rw (← after_long) (rw cut (drop_front ((r.kept ++ spelling line) ++ more) (after ++ behind))) in
    let grown : now ≡ (out ++ r.kept) ++ (spelling line ++ lf) =
    n ∙ ap (λ x. out ++ (x ++ lf)) front ∙ ap (λ x. out ++ x) (append_assoc r.kept (spelling line) lf) ∙ sym (append_assoc out r.kept (spelling line ++ lf)) in
    record {
      kept = [];
      split = d ∙ end;
      read = subst (HaveRespelled bytes (count + 1) (pieces_of after) old) (sym (append-nil now))
          (HaveRespelled-more bytes count (pieces_of rest) (pieces_of after) piece old (out ++ r.kept) now line p t grown r.read);
    }

-- how many bytes are pending
pub IsRespelledTo-length : (bytes : Bytes) (count : ℕ) (rest behind pending old out : Bytes) → IsRespelledTo bytes count rest behind pending old out
    → length rest + length behind ≤ length pending
IsRespelledTo-length bytes count rest behind pending old out r =
    let all : length pending ≡ length r.kept + length (rest ++ behind) = ap length r.split ∙ length-append r.kept (rest ++ behind) in
    omega (arith, length-append rest behind)

pub IsRespelledTo-end : (bytes : Bytes) (count : ℕ) (rest behind : Bytes) (old new : Growing) → pieces_of rest ≡ [] → rest ≡ []
    → IsRespelledTo bytes count rest behind new.pending (text_before (bytes ++ behind) old) new.text → IsSpelledOn bytes count behind old new
IsRespelledTo-end bytes count rest behind old new p e r =
    let split : new.pending ≡ r.kept ++ behind = r.split ∙ ap (λ x. r.kept ++ (x ++ behind)) e in
    record {
      spelled = rw (text_before-is new r.kept behind split) (HaveRespelled-end bytes count (pieces_of rest) (text_before (bytes ++ behind) old) (new.text ++ r.kept) p r.read);
      pending = (r.kept, split);
    }

-- a block whose lines were all made
pub IsSpelledOn-made : (bytes : Bytes) (count : ℕ) (behind made : Bytes) (old new : Growing) → EndsWith old.pending (bytes ++ behind) → IsRespelledBehind bytes count [] made
    → new.text ≡ old.text ++ (take (length old.pending - (length bytes + length behind)) old.pending ++ made)
    → new.pending ≡ drop (length old.pending - length behind) old.pending → IsSpelledOn bytes count behind old new
IsSpelledOn-made bytes count behind made old new (kept, e) (lines, s, k, m) t d =
    let both : length (bytes ++ behind) ≡ length bytes + length behind = length-append bytes behind in
    let front : take (length old.pending - (length bytes + length behind)) old.pending ≡ kept = rw (← both) (rw e (take_front kept (bytes ++ behind))) in
    let whole : old.pending ≡ (kept ++ bytes) ++ behind = e ∙ sym (append_assoc kept bytes behind) in
    let back : drop (length old.pending - length behind) old.pending ≡ behind = rw whole (drop_front (kept ++ bytes) behind) in
    let is_new : text_before behind new ≡ new.text = text_before-is new [] behind (d ∙ back) ∙ append-nil new.text in
    record {
      spelled = (
        lines,
        s,
        k,
        is_new ∙ t ∙ ap (λ x. old.text ++ (x ++ made)) front ∙ sym (append_assoc old.text kept made) ∙ ap (λ x. (old.text ++ kept) ++ x) m
            ∙ ap (λ x. x ++ spelled_lines lines) (sym (text_before-is old kept (bytes ++ behind) e)),
      );
      pending = ([], d ∙ back);
    }

-- the lines of a block behind those that are respelled
spelled-append : (lines more : List LineParts) → spelled_lines (lines ++ more) ≡ spelled_lines lines ++ spelled_lines more
spelled-append [] more = refl
spelled-append (l ∷ lines) more = ap (λ x. spelling l ++ (10 ∷ x)) (spelled-append lines more) ∙ sym (append_assoc (spelling l) (10 ∷ spelled_lines lines) (spelled_lines more))

pub HaveRespelled-block : (bytes : Bytes) (count more : ℕ) (left rest : List Bytes) (block old out now : Bytes)
    → left ≡ pieces_of block ++ rest → IsRespelledBehind block more out now → HaveRespelled bytes count left old out → HaveRespelled bytes (count + more) rest old now
HaveRespelled-block bytes count more left rest block old out now e (added, s, m, n) (lines, h, k, o) = (
  lines ++ added,
  HaveRead-block bytes lines added left rest block e s h,
  omega (arith, length-append lines added),
  n ∙ ap (λ x. x ++ spelled_lines added) o ∙ append_assoc old (spelled_lines lines) (spelled_lines added) ∙ ap (λ x. old ++ x) (sym (spelled-append lines added)),
)

pub HaveRespelled-block_fault : (bytes : Bytes) (count line : ℕ) (left rest : List Bytes) (block old out : Bytes) (fault : LineFault)
    → left ≡ pieces_of block ++ rest → ((lines : List LineParts) × StopsIn block lines line fault) → HaveRespelled bytes count left old out
    → (lines : List LineParts) × StopsIn bytes lines (count + line) fault
HaveRespelled-block_fault bytes count line left rest block old out fault e (more, s) (lines, h, k, o) = (lines ++ more, rw k (StopsIn-block bytes lines more line left rest block fault e s h))

pub HaveRespelled-few : (bytes : Bytes) (count : ℕ) (left : List Bytes) (old out : Bytes) → HaveRespelled bytes count left old out → count ≤ length bytes
HaveRespelled-few bytes count left old out (lines, (before, c, a), k, o) =
    let all = length-AreCutInto (before ++ left) bytes c in
    let same : length lines ≡ length before = length-AreTexts lines before a in
    omega (arith, length-append before left)

-- the same of an answer before a block and behind it
pub HaveRespelled-on : (bytes : Bytes) (count more : ℕ) (unread block behind old : Bytes) (before after : Growing)
    → pieces_of unread ≡ pieces_of block ++ pieces_of behind → unread ≡ block ++ behind → IsSpelledOn block more behind before after
    → HaveRespelled bytes count (pieces_of unread) old (text_before unread before) → HaveRespelled bytes (count + more) (pieces_of behind) old (text_before behind after)
HaveRespelled-on bytes count more unread block behind old before after p e on h =
    HaveRespelled-block bytes count more (pieces_of unread) (pieces_of behind) block old (text_before unread before) (text_before behind after) p (rw e on.spelled) h

-- all lines are spelled where nothing is left
pub HaveRespelled-all : (bytes : Bytes) (count : ℕ) (unread old : Bytes) (answer : Growing) → unread ≡ [] → pieces_of unread ≡ [] → HaveRespelled bytes count (pieces_of unread) old (text_before unread answer)
    → (lines : List LineParts) × SpellLines lines bytes × (answer.text ++ answer.pending ≡ old ++ spelled_lines lines)
HaveRespelled-all bytes count unread old answer e p h =
    let (lines, s, k, n) = HaveRespelled-end bytes count (pieces_of unread) old (text_before unread answer) p h in
    let whole : text_before unread answer ≡ answer.text ++ answer.pending = text_before-is answer answer.pending unread (sym (ap (λ x. answer.pending ++ x) e ∙ append-nil answer.pending)) in
    (lines, s, sym whole ∙ n)
