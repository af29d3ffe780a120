-- The lines that tell notices, one after another.
use Rattle.std.proofs.Common.{◌≡◌, ℕ, ◌+◌, ◌<◌, ◌≤◌, List, [], ◌∷◌, ◌++◌, length, get_or, take, refl, sym, ap, ◌∙◌}
use Rattle.std.proofs.lemmas.List.{append_assoc, append-nil, take_more, take_all}
use Rattle.std.specs.Prelude.{codes}
use Rattle.ged_line.specs.Bytes.{Bytes, line_feed}
use Rattle.ged_tree.specs.Trees.{Trees}
use Rattle.ged_link.specs.declared.notices.Notice.{Notice}
use Rattle.ged_accept.specs.Notices.{notice_line, notice_lines, AreNotices, IsVerdict}

lines_append : (xs ys : List Notice) → notice_lines (xs ++ ys) ≡ notice_lines xs ++ notice_lines ys
lines_append [] ys = refl
lines_append (x ∷ xs) ys = ap (λ (zs : Bytes). notice_line x ++ zs) (lines_append xs ys) ∙ sym (append_assoc (notice_line x) (notice_lines xs) (notice_lines ys))

pub lines_more : (xs : List Notice) (i : ℕ) (x : Notice) (out now : Bytes) → i < length xs → out ≡ notice_lines (take i xs) → now ≡ out ++ notice_line (get_or xs i x)
    → now ≡ notice_lines (take (i + 1) xs)
lines_more xs i x out now within told is =
    is ∙ ap (λ (zs : Bytes). zs ++ notice_line (get_or xs i x)) told
    ∙ ap (λ (zs : Bytes). notice_lines (take i xs) ++ zs) (sym (append-nil (notice_line (get_or xs i x))))
    ∙ sym (lines_append (take i xs) (get_or xs i x ∷ []))
    ∙ ap notice_lines (sym (take_more xs i x within))

pub told_all : (d : Trees) (notices xs : List Notice) (i : ℕ) (out now : Bytes) → AreNotices d notices → xs ≡ notices → length xs ≤ i → out ≡ notice_lines (take i xs)
    → now ≡ out ++ (codes "accepted" ++ line_feed ∷ []) → IsVerdict d now
told_all d notices xs i out now all same past told is =
    (notices, all, is ∙ ap (λ (zs : Bytes). zs ++ (codes "accepted" ++ line_feed ∷ [])) (told ∙ ap notice_lines (take_all i xs past ∙ same)))
