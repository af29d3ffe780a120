-- What was counted so far of the lines with a tag, and those that are left.
use Rattle.std.proofs.Common.{◌≡◌, ℕ, ◌+◌, ◌≤◌, true, false, List, [], ◌∷◌, length, Result, Ok, Err, inl, inr, refl, sym, ◌∙◌, ap, subst, zero-add, add-zero, arith}
use Rattle.std.specs.Str.{bytes_eq}
use Rattle.std.proofs.lemmas.Slice.Eq.{bytes_eq-Decides}
use Rattle.ged_line.specs.Bytes.{Bytes}
use Rattle.ged_line.specs.Lines.{LineParts}
use Rattle.ged_line.specs.Spelling.{LineText}
use Rattle.ged_line.specs.Reading.{TellsSpelled}
use Rattle.ged_line.specs.Pieces.{ArePiecesOf}
use Rattle.ged_line.specs.declared.fault.LineFault.{LineFault}
use Rattle.ged_line.specs.declared.file.spelled_line.SpelledLine.{SpelledLine}
use Rattle.ged_line.proofs.CallerLemmas.{one_line, no_fault, length-ArePiecesOf}
use Rattle.ged_uses.specs.TaggedLines.{HasTag, CountsTag}

-- the count and that of the pieces that are left make the count of all pieces
pub record HasCounted (tag file : Bytes) (count : ℕ) (left : List Bytes) : Type 0 where
  pub pieces : List Bytes
  pub cut : ArePiecesOf file pieces
  pub counts : (more : ℕ) → CountsTag tag left more → CountsTag tag pieces (count + more)
  pub few : count + length left ≤ length file

pub none_counted : (tag file : Bytes) (pieces : List Bytes) → ArePiecesOf file pieces → HasCounted tag file 0 pieces
none_counted tag file pieces cut =
    let most = length-ArePiecesOf file pieces cut in
    record {
      pieces = pieces;
      cut = cut;
      counts = λ more counts. subst (CountsTag tag pieces) (sym (zero-add more)) counts;
      few = omega (arith, most);
    }

-- one more piece has the tag
pub counted_one : (tag file : Bytes) (count : ℕ) (left rest : List Bytes) (piece : Bytes) → left ≡ piece ∷ rest
    → HasTag tag piece → HasCounted tag file count left → HasCounted tag file (count + 1) rest
counted_one tag file count left rest piece is has before =
    let here : (more : ℕ) → CountsTag tag rest more → CountsTag tag left (more + 1) =
    λ more counts. rw is (inl (has, (more, refl, counts))) in
    let longer : length left ≡ length rest + 1 = rw is (omega arith) in
    record {
      pieces = before.pieces;
      cut = before.cut;
      counts = λ more counts.
          let sum : count + (more + 1) ≡ count + 1 + more = omega arith in
          subst (CountsTag tag before.pieces) sum (before.counts (more + 1) (here more counts));
      few = omega (arith, longer, before.few);
    }

-- one more piece has it not
pub counted_other : (tag file : Bytes) (count : ℕ) (left rest : List Bytes) (piece : Bytes) → left ≡ piece ∷ rest
    → ¬ (HasTag tag piece) → HasCounted tag file count left → HasCounted tag file count rest
counted_other tag file count left rest piece is not before =
    let here : (more : ℕ) → CountsTag tag rest more → CountsTag tag left more = λ more counts. rw is (inr (not, counts)) in
    let longer : length left ≡ length rest + 1 = rw is (omega arith) in
    record {
      pieces = before.pieces;
      cut = before.cut;
      counts = λ more counts. before.counts more (here more counts);
      few = omega (arith, longer, before.few);
    }

-- no piece is left
pub counted_all : (tag file : Bytes) (count : ℕ) (left : List Bytes) → left ≡ [] → HasCounted tag file count left
    → (pieces : List Bytes) × ArePiecesOf file pieces × CountsTag tag pieces count
counted_all tag file count left is whole =
    let none : CountsTag tag left 0 = rw is refl in
    (whole.pieces, whole.cut, subst (CountsTag tag whole.pieces) (add-zero count) (whole.counts 0 none))

-- the tag of the line that a piece spells, compared as a text, tells whether the piece has the tag
pub same_tag : (tag piece : Bytes) (line : LineParts) (text : Bytes) → LineText line piece → text ≡ line.tag → bytes_eq text tag ≡ true → HasTag tag piece
same_tag tag piece line text spells is same = (line, spells, sym is ∙ (bytes_eq-Decides text tag).0 same)

pub other_tag : (tag piece : Bytes) (line : LineParts) (text : Bytes) → LineText line piece → text ≡ line.tag → bytes_eq text tag ≡ false → ¬ (HasTag tag piece)
other_tag tag piece line text spells is differs (other, reads, has) =
    let same : text ≡ tag = is ∙ ap (λ l. l.tag) (one_line line other piece spells reads) ∙ has in
    let equal : bytes_eq text tag ≡ true = (bytes_eq-Decides text tag).1 same in
    cc

-- a piece that spells no line has no tag
pub no_tag : (tag piece : Bytes) (told : Result SpelledLine LineFault) → TellsSpelled told piece
    → ((spelled : SpelledLine) → told ≡ Ok spelled → ⊥) → ¬ (HasTag tag piece)
no_tag tag piece (Ok spelled) tells none has = absurd (none spelled refl)
no_tag tag piece (Err fault) tells none (line, spells, has) = no_fault line piece spells fault tells.stands
