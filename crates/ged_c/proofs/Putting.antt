-- Parts that are put into a room, one after the other.
use Rattle.std.proofs.Common.{◌≡◌, ℕ, ◌+◌, ◌<◌, List, ◌∷◌, ◌++◌, ◌∙◌, length, get_or, take, drop, sym, ap, subst, length-append, append_assoc, drop-drop, take_at}
use Rattle.std.proofs.Math.Seq.{drop-append-add}
use Rattle.std.proofs.lemmas.List.{drop_more}
use Rattle.ged_line.specs.Bytes.{Bytes}
use Rattle.ged_line.specs.Files.{joined_parts}
use Rattle.ged_line.specs.declared.file.spelled_part.SpelledPart.{SpelledPart}

-- a text stands at the front of a room, and what was after it has stayed
pub record IsAtFront (text : Bytes) (place : ℕ) (before now : Bytes) : Type 0 where
  pub place_is : place ≡ length text
  pub room : now ≡ text ++ drop place before

pub put_after : (text more : Bytes) (place : ℕ) (before now after : Bytes) → IsAtFront text place before now
    → after ≡ take place now ++ (more ++ drop (place + length more) now) → IsAtFront (text ++ more) (place + length more) before after
put_after text more place before now after f put =
    let front : take place now ≡ text = ap (take place) f.room ∙ take_at text (drop place before) place (sym f.place_is) in
    let rest : drop (place + length more) now ≡ drop (place + length more) before =
    ap (drop (place + length more)) f.room ∙ ap (λ n. drop (n + length more) (text ++ drop place before)) f.place_is
    ∙ drop-append-add text (drop place before) (length more) ∙ drop-drop (length more) place before in
    record {
      place_is = ap (λ n. n + length more) f.place_is ∙ sym (length-append text more);
      room = put ∙ ap (λ x. x ++ (more ++ drop (place + length more) now)) front ∙ ap (λ x. text ++ (more ++ x)) rest
          ∙ sym (append_assoc text more (drop (place + length more) before));
    }

-- so many parts were put there
pub record HasPut (parts : List SpelledPart) (count place : ℕ) (before now : Bytes) : Type 0 where
  pub text : Bytes
  pub split : joined_parts parts ≡ text ++ joined_parts (drop count parts)
  pub front : IsAtFront text place before now

pub next_part : (parts : List SpelledPart) (count : ℕ) (part : SpelledPart) → count < length parts → part ≡ get_or parts count part
    → joined_parts (drop count parts) ≡ (part.made.items ++ part.kept.now) ++ joined_parts (drop (count + 1) parts)
next_part parts count part within is =
    ap joined_parts (drop_more parts count part within ∙ ap (λ p. p ∷ drop (count + 1) parts) (sym is)) ∙ sym (append_assoc part.made.items part.kept.now (joined_parts (drop (count + 1) parts)))

-- what was put, with one part more
module _ (parts : List SpelledPart) (count place : ℕ) (part : SpelledPart) (before now : Bytes) (within : count < length parts) (is : part ≡ get_or parts count part) (h : HasPut parts count place before now) where
  made : Bytes
  made = part.made.items

  kept : Bytes
  kept = part.kept.now

  rest : Bytes
  rest = joined_parts (drop (count + 1) parts)

  split : joined_parts parts ≡ ((h.text ++ made) ++ kept) ++ rest
  unfolding made kept rest
  split =
      h.split ∙ ap (λ x. h.text ++ x) (next_part parts count part within is) ∙ sym (append_assoc h.text (made ++ kept) rest)
      ∙ ap (λ x. x ++ rest) (sym (append_assoc h.text made kept))

  pub HasPut-more : (between after : Bytes) → between ≡ take place now ++ (part.made.items ++ drop (place + length part.made.items) now)
      → after ≡ take (place + length part.made.items) between
      ++ (part.kept.now ++ drop ((place + length part.made.items) + length part.kept.now) between)
      → HasPut parts (count + 1) ((place + length part.made.items) + length part.kept.now) before after
  unfolding made kept rest
  HasPut-more between after first second = record {
    text = (h.text ++ made) ++ kept;
    split = split;
    front = put_after (h.text ++ made) kept (place + length made) before between after (put_after h.text made place before now between h.front first) second;
  }

  -- the same, where the places are known by what they are
  pub HasPut-step : (between after : Bytes) (first second : ℕ) → first ≡ place + length part.made.items
      → between ≡ take place now ++ (part.made.items ++ drop (place + length part.made.items) now) → second ≡ first + length part.kept.now
      → after ≡ take first between ++ (part.kept.now ++ drop (first + length part.kept.now) between) → HasPut parts (count + 1) second before after
  HasPut-step between after first second first_is first_bytes second_is second_bytes =
      let more : HasPut parts (count + 1) (first + length part.kept.now) before after =
      subst (λ n. HasPut parts (count + 1) (n + length part.kept.now) before after) (sym first_is)
      (HasPut-more between after first_bytes (subst (λ n. after ≡ take n between ++ (part.kept.now ++ drop (n + length part.kept.now) between)) first_is second_bytes)) in
      subst (λ n. HasPut parts (count + 1) n before after) (sym second_is) more

-- what is left of parts, counted
pub next_size : (parts : List SpelledPart) (count : ℕ) (part : SpelledPart) → count < length parts → part ≡ get_or parts count part
    → length (joined_parts (drop count parts)) ≡ (length part.made.items + length part.kept.now) + length (joined_parts (drop (count + 1) parts))
next_size parts count part within is =
    ap (λ (bs : Bytes). length bs) (next_part parts count part within is)
    ∙ length-append (part.made.items ++ part.kept.now) (joined_parts (drop (count + 1) parts))
    ∙ ap (λ n. n + length (joined_parts (drop (count + 1) parts))) (length-append part.made.items part.kept.now)
