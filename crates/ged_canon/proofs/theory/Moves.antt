-- What a change at one place leaves as it is.
use Rattle.std.proofs.Common.{◌≡◌, Bool, true, false, ◌||◌, [], ◌∷◌, Option, refl, sym, ap, ◌∙◌}
use Rattle.ged_line.specs.Bytes.{Bytes}
use Rattle.ged_tree.specs.declared.payload.Payload.{Payload}
use Rattle.ged_tree.specs.declared.payload.Payload.TheVariants.{Text}
use Rattle.ged_tree.specs.Trees.{Trees, tree}
use Rattle.ged_tree.specs.Documents.{is_document}
use Rattle.ged_schema.specs.declared.context.Context.{Context}
use Rattle.ged_schema.specs.declared.context.Context.TheVariants.{File}
use Rattle.ged_schema.specs.Rows.{Row}
use Rattle.ged_schema.specs.Tables.{row, context_below}
use Rattle.ged_canon.specs.declared.edition.Edition.{Edition}
use Rattle.ged_canon.specs.Steps.{Respelt, respelt, Change, exchange, leave_out, put_in, Somewhere, here, under, later}
use Rattle.ged_canon.specs.inner.StepParts.{with_payload}
use Rattle.ged_canon.specs.inner.Working.{put, brief, brief_structure, names, is_named, used_structure, used_trees, sorted, sorted_document, numbered_document, canon}
use Rattle.ged_canon.proofs.theory.Sorting.{put-put}
use Rattle.ged_canon.proofs.theory.Brief.{brief_alike}
use Rattle.ged_canon.proofs.theory.Heads.{head_tag}

respelt_brief : (edition : Edition) (r : Option Row) (p q : Payload) → Respelt edition r p q → brief edition r p ≡ brief edition r q
respelt_brief edition r _ _ (respelt longer shorter out f g) = ap (λ l. Text (l ∷ [])) (brief_alike edition r longer shorter out)

respelt_names : (edition : Edition) (r : Option Row) (p q : Payload) (name : Bytes) → Respelt edition r p q → names p name ≡ names q name
respelt_names edition r _ _ name (respelt longer shorter out f g) = refl

or_swap : (a b c d e : Bool) → (a || (b || (c || (d || e)))) ≡ (c || (d || (a || (b || e))))
or_swap true b true d e = refl
or_swap true b false true e = refl
or_swap true b false false e = refl
or_swap false true true d e = refl
or_swap false true false true e = refl
or_swap false true false false e = refl
or_swap false false true d e = refl
or_swap false false false true e = refl
or_swap false false false false e = refl

-- the same pointers
pub change_names : (edition : Edition) (context : Context) (xs ys : Trees) → Change edition context xs ys → (name : Bytes) → is_named xs name ≡ is_named ys name
change_names edition context _ _ (exchange s t b c next ne) name = or_swap (names s.payload name) (is_named b name) (names t.payload name) (is_named c name) (is_named next name)
change_names edition context _ _ (leave_out s p q b next h) name = ap (λ t. t || (is_named b name || is_named next name)) (respelt_names edition (row context s.tag) p q name h)
change_names edition context _ _ (put_in s p q b next h) name = ap (λ t. t || (is_named b name || is_named next name)) (sym (respelt_names edition (row context s.tag) p q name h))

pub somewhere_names : (edition : Edition) (context : Context) (xs ys : Trees) → Somewhere (Change edition) context xs ys → (name : Bytes) → is_named xs name ≡ is_named ys name
somewhere_names edition context xs ys (here h) name = change_names edition context xs ys h name
somewhere_names edition context _ _ (under {t = t} {u = u} s next h) name = ap (λ b. names s.payload name || (b || is_named next name)) (somewhere_names edition (context_below context s.tag) t u h name)
somewhere_names edition context _ _ (later {t = t} {u = u} s below h) name = ap (λ b. names s.payload name || (is_named below name || b)) (somewhere_names edition context t u h name)

-- the same when sorted
change_sorted : (edition : Edition) (context : Context) (xs ys : Trees) → Change edition context xs ys → sorted edition context xs ≡ sorted edition context ys
change_sorted edition context _ _ (exchange s t b c next ne) = put-put (brief_structure edition context s) (brief_structure edition context t) ne (sorted edition (context_below context s.tag) b) (sorted edition (context_below context t.tag) c) (sorted edition context next)
change_sorted edition context _ _ (leave_out s p q b next h) = ap (λ x. put (with_payload s x) (sorted edition (context_below context s.tag) b) (sorted edition context next)) (respelt_brief edition (row context s.tag) p q h)
change_sorted edition context _ _ (put_in s p q b next h) = ap (λ x. put (with_payload s x) (sorted edition (context_below context s.tag) b) (sorted edition context next)) (sym (respelt_brief edition (row context s.tag) p q h))

pub somewhere_sorted : (edition : Edition) (context : Context) (xs ys : Trees) → Somewhere (Change edition) context xs ys → sorted edition context xs ≡ sorted edition context ys
somewhere_sorted edition context xs ys (here h) = change_sorted edition context xs ys h
somewhere_sorted edition context _ _ (under {t = t} {u = u} s next h) = ap (λ b. put (brief_structure edition context s) b (sorted edition context next)) (somewhere_sorted edition (context_below context s.tag) t u h)
somewhere_sorted edition context _ _ (later {t = t} {u = u} s below h) = ap (put (brief_structure edition context s) (sorted edition (context_below context s.tag) below)) (somewhere_sorted edition context t u h)

-- a change is one also where some identifiers are dropped
used_change : (edition : Edition) (used : Bytes → Bool) (context : Context) (xs ys : Trees) → Change edition context xs ys → Change edition context (used_trees used xs) (used_trees used ys)
used_change edition used context _ _ (exchange s t b c next ne) = exchange (used_structure used s) (used_structure used t) b c (used_trees used next) ne
used_change edition used context _ _ (leave_out s p q b next h) = leave_out (used_structure used s) p q b (used_trees used next) h
used_change edition used context _ _ (put_in s p q b next h) = put_in (used_structure used s) p q b (used_trees used next) h

used_somewhere : (edition : Edition) (used : Bytes → Bool) (context : Context) (xs ys : Trees) → Somewhere (Change edition) context xs ys → Somewhere (Change edition) context (used_trees used xs) (used_trees used ys)
used_somewhere edition used context xs ys (here h) = here (used_change edition used context xs ys h)
used_somewhere edition used context _ _ (under {t = t} {u = u} s next h) = under (used_structure used s) (used_trees used next) h
used_somewhere edition used context _ _ (later {t = t} {u = u} s below h) = later (used_structure used s) below (used_somewhere edition used context t u h)

-- of a document HEAD stays first
change_documents : (edition : Edition) (xs ys : Trees) → is_document xs ≡ true → is_document ys ≡ true → Change edition File xs ys → (used : Bytes → Bool) → sorted_document edition (used_trees used xs) ≡ sorted_document edition (used_trees used ys)
change_documents edition _ _ d e (exchange s t b c next ne) used = absurd (ne (head_tag s b (tree t c next) d ∙ sym (head_tag t c (tree s b next) e)))
change_documents edition _ _ d e (leave_out s p q b next h) used = ap (λ x. tree (with_payload (used_structure used s) x) (sorted edition (context_below File s.tag) b) (sorted edition File (used_trees used next))) (respelt_brief edition (row File s.tag) p q h)
change_documents edition _ _ d e (put_in s p q b next h) used = ap (λ x. tree (with_payload (used_structure used s) x) (sorted edition (context_below File s.tag) b) (sorted edition File (used_trees used next))) (sym (respelt_brief edition (row File s.tag) p q h))

pub documents_alike : (edition : Edition) (xs ys : Trees) → is_document xs ≡ true → is_document ys ≡ true → Somewhere (Change edition) File xs ys → (used : Bytes → Bool) → sorted_document edition (used_trees used xs) ≡ sorted_document edition (used_trees used ys)
documents_alike edition xs ys d e (here h) used = change_documents edition xs ys d e h used
documents_alike edition _ _ d e (under {t = t} {u = u} s next h) used = ap (λ b. tree (brief_structure edition File (used_structure used s)) b (sorted edition File (used_trees used next))) (somewhere_sorted edition (context_below File s.tag) t u h)
documents_alike edition _ _ d e (later {t = t} {u = u} s below h) used = ap (tree (brief_structure edition File (used_structure used s)) (sorted edition (context_below File s.tag) below)) (somewhere_sorted edition File (used_trees used t) (used_trees used u) (used_somewhere edition used File t u h))

pub canon_change : (edition : Edition) (d e : Trees) → is_document d ≡ true → is_document e ≡ true → Somewhere (Change edition) File d e → canon edition d ≡ canon edition e
canon_change edition d e p q h =
    let u : is_named d ≡ is_named e = λ i name. somewhere_names edition File d e h name i in
    ap numbered_document (ap (λ used. sorted_document edition (used_trees used d)) u ∙ documents_alike edition d e p q h (is_named e))
