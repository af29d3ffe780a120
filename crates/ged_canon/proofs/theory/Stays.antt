-- A change at one place leads from a document to a document.
use Rattle.std.proofs.Common.{◌≡◌, ℕ, ◌+◌, ◌^◌, Bool, true, false, ◌&&◌, nat_lt, ◌∷◌, ◌++◌, Option, refl, sym, ap, ◌∙◌, arith}
use Rattle.std.specs.Prelude.{nat_le, not, codes}
use Rattle.std.specs.Str.{bytes_eq}
use Rattle.std.specs.List.{list_all}
use Rattle.std.proofs.lemmas.List.Folds.{list_all-append}
use Rattle.ged_line.specs.Bytes.{Bytes}
use Rattle.ged_line.specs.Characters.{is_plain}
use Rattle.ged_line.specs.Names.{is_tag}
use Rattle.ged_tree.specs.declared.payload.Payload.{Payload}
use Rattle.ged_tree.specs.Trees.{Structure, Trees, tree, line_count, lines_count}
use Rattle.ged_tree.specs.Documents.{is_payload_at, is_structure_at, are_at, are_records, is_document}
use Rattle.ged_tree.specs.inner.DocumentParts.{is_xref_at, is_record_tag, is_head}
use Rattle.ged_value.specs.Default.{default_word}
use Rattle.ged_schema.specs.declared.context.Context.{Context}
use Rattle.ged_schema.specs.Rows.{Row}
use Rattle.ged_schema.specs.Tables.{row, context_below}
use Rattle.ged_canon.specs.declared.edition.Edition.{Edition}
use Rattle.ged_canon.specs.Steps.{Shortened, calendar, leading_zero, Respelt, respelt, Change, exchange, leave_out, put_in, Somewhere, here, under, later}
use Rattle.ged_canon.specs.inner.StepParts.{with_payload}
use Rattle.ged_canon.proofs.theory.Heads.{same_length}
use Rattle.ged_canon.proofs.theory.Plain.{plain_words, plain_zero, default_plain}

-- Texts.

shortened_plain : (edition : Edition) (r : Option Row) (longer shorter : Bytes) → Shortened edition r longer shorter → is_plain longer ≡ is_plain shorter
shortened_plain edition r longer shorter (calendar d h) =
    plain_words longer (h.0 ++ default_word ∷ h.1) h.2
    ∙ list_all-append is_plain h.0 (default_word ∷ h.1)
    ∙ ap (λ b. list_all is_plain h.0 && (b && list_all is_plain h.1)) default_plain
    ∙ sym (list_all-append is_plain h.0 h.1)
    ∙ sym (plain_words shorter (h.0 ++ h.1) h.3)
shortened_plain edition r longer shorter (leading_zero s n h) =
    plain_words longer (h.0 ++ (48 ∷ h.1) ∷ h.2) h.4
    ∙ list_all-append is_plain h.0 ((48 ∷ h.1) ∷ h.2)
    ∙ ap (λ b. list_all is_plain h.0 && (b && list_all is_plain h.2)) (plain_zero h.1)
    ∙ sym (list_all-append is_plain h.0 (h.1 ∷ h.2))
    ∙ sym (plain_words shorter (h.0 ++ h.1 ∷ h.2) h.5)

respelt_at : (edition : Edition) (r : Option Row) (level : ℕ) (p q : Payload) → Respelt edition r p q → is_payload_at level p ≡ is_payload_at level q
respelt_at edition r level _ _ (respelt longer shorter out f g) = shortened_plain edition r longer shorter out

respelt_lines : (edition : Edition) (r : Option Row) (p q : Payload) → Respelt edition r p q → line_count p ≡ line_count q
respelt_lines edition r _ _ (respelt longer shorter out f g) = refl

-- Trees that may stand in the same places.

and_swap : (a b c d e : Bool) → (a && (b && (c && (d && e)))) ≡ (c && (d && (a && (b && e))))
and_swap true true c d e = refl
and_swap true false true true e = refl
and_swap true false true false e = refl
and_swap true false false d e = refl
and_swap false b true true e = refl
and_swap false b true false e = refl
and_swap false b false d e = refl

and_left_swap : (a b c : Bool) → (a && (b && c)) ≡ (b && (a && c))
and_left_swap true b c = refl
and_left_swap false true c = refl
and_left_swap false false c = refl

pub record StandAlike (xs ys : Trees) : Type 0 where
  pub places : (level : ℕ) → are_at level xs ≡ are_at level ys
  pub records : are_records xs ≡ are_records ys
  pub lines : lines_count xs ≡ lines_count ys

pub respelt_alike : (s : Structure) (p q : Payload) (below next : Trees) → ((level : ℕ) → is_payload_at level p ≡ is_payload_at level q) → line_count p ≡ line_count q → StandAlike (tree (with_payload s p) below next) (tree (with_payload s q) below next)
respelt_alike s p q below next h k = record {
  places = λ level. λ i. ((nat_le level 99 && (is_tag s.tag && not (bytes_eq s.tag (codes "CONT")))) && (is_xref_at level s.xref && h level i)) && (are_at (level + 1) below && are_at level next);
  records = refl;
  lines = ap (λ n. n + lines_count below + lines_count next) k;
}

alike_back : (xs ys : Trees) → StandAlike xs ys → StandAlike ys xs
alike_back xs ys h = record { places = λ level. sym (h.places level); records = sym h.records; lines = sym h.lines }

change_alike : (edition : Edition) (context : Context) (xs ys : Trees) → Change edition context xs ys → StandAlike xs ys
change_alike edition context _ _ (exchange s t b c next ne) = record {
  places = λ level. and_swap (is_structure_at level s) (are_at (level + 1) b) (is_structure_at level t) (are_at (level + 1) c) (are_at level next);
  records = and_left_swap (is_record_tag s.tag) (is_record_tag t.tag) (are_records next);
  lines = sums (line_count s.payload) (lines_count b) (line_count t.payload) (lines_count c) (lines_count next);
}
  where
    sums : (k l m n o : ℕ) → k + l + (m + n + o) ≡ m + n + (k + l + o)
    sums k l m n o = omega arith
change_alike edition context _ _ (leave_out s p q b next h) = respelt_alike s p q b next (λ level. respelt_at edition (row context s.tag) level p q h) (respelt_lines edition (row context s.tag) p q h)
change_alike edition context _ _ (put_in s p q b next h) = alike_back (tree (with_payload s p) b next) (tree (with_payload s q) b next) (respelt_alike s p q b next (λ level. respelt_at edition (row context s.tag) level p q h) (respelt_lines edition (row context s.tag) p q h))

pub below_alike : (s : Structure) (next xs ys : Trees) → StandAlike xs ys → StandAlike (tree s xs next) (tree s ys next)
below_alike s next xs ys h = record {
  places = λ level. ap (λ b. is_structure_at level s && (b && are_at level next)) (h.places (level + 1));
  records = refl;
  lines = ap (λ n. line_count s.payload + n + lines_count next) h.lines;
}

pub later_alike : (s : Structure) (below xs ys : Trees) → StandAlike xs ys → StandAlike (tree s below xs) (tree s below ys)
later_alike s below xs ys h = record {
  places = λ level. ap (λ b. is_structure_at level s && (are_at (level + 1) below && b)) (h.places level);
  records = ap (λ b. is_record_tag s.tag && b) h.records;
  lines = ap (λ n. line_count s.payload + lines_count below + n) h.lines;
}

pub somewhere_alike : (edition : Edition) (context : Context) (xs ys : Trees) → Somewhere (Change edition) context xs ys → StandAlike xs ys
somewhere_alike edition context xs ys (here h) = change_alike edition context xs ys h
somewhere_alike edition context _ _ (under {t = t} {u = u} s next h) = below_alike s next t u (somewhere_alike edition (context_below context s.tag) t u h)
somewhere_alike edition context _ _ (later {t = t} {u = u} s below h) = later_alike s below t u (somewhere_alike edition context t u h)

-- with one head, or a respelt one, they are documents alike
pub documents_alike : (s t : Structure) (b c n m : Trees) → is_head s ≡ is_head t → are_records n ≡ are_records m → StandAlike (tree s b n) (tree t c m) → is_document (tree s b n) ≡ is_document (tree t c m)
documents_alike s t b c n m h r a =
    let few = same_length (tree s b n) (tree t c m) a.lines in
    λ i. (h i && r i) && (a.places 0 i && nat_lt (few i) (2 ^ 63))
