-- The records of a document are those that begin on its lines.
use Rattle.std.proofs.Common.{◌≡◌, ◌<◌, ℕ, ◌+◌, ◌^◌, ◌==◌, ◌&&◌, Bool, true, false, sym, ◌∙◌, ap, refl, cond, arith, List, [], ◌∷◌, ◌++◌, map, fold, replicate, Option, None, Result, Ok, Err, OnOk, subst, nat_lt, length, eqb→eq, T}
use Rattle.std.specs.Prelude.{codes, is_none}
use Rattle.std.specs.Str.{bytes_eq}
use Rattle.std.proofs.lemmas.List.Elements.{filter-append}
use Rattle.std.proofs.lemmas.List.Sums.{fold-append}
use Rattle.std.proofs.lemmas.List.{map-append, append-nil}
use Rattle.std.proofs.lemmas.Slice.Eq.{bytes_eq-Decides}
use Rattle.ged_line.specs.Bytes.{Bytes}
use Rattle.ged_line.specs.Lines.{LineParts, line_parts, Empty}
use Rattle.ged_tree.specs.Trees.{Structure, Trees, none, tree, records_of, further_lines}
use Rattle.ged_tree.specs.Documents.{is_document, are_at, are_records}
use Rattle.ged_tree.specs.DocumentLines.{line_value, first_value, lines_of, document_lines}
use Rattle.ged_link.specs.Links.{identifiers}
use Rattle.ged_link.specs.RecordTypes.{IsTypeOf}
use Rattle.std.specs.Hash.DefaultHasher.{initial}
use Rattle.ged_link.specs.inner.Keys.{fed_long}
use Rattle.ged_link.specs.inner.Layout.{counted, no_names}
use Rattle.ged_link.specs.inner.Listing.{listed_halves, listed_digits, all_halves, all_digits, AreTypesOf, IsRecordList}
use Rattle.ged_link.specs.inner.RecordLines.{is_record_tag, record_lines, AreTypesByTags, AreListed}
use Rattle.ged_link.specs.declared.listing.RecordList.{RecordList}
use Rattle.ged_link.specs.declared.record_type.RecordType.{RecordType}
use Rattle.ged_link.proofs.LinkLemmas.{both}
use Rattle.ged_link.proofs.ListingLemmas.{as_many}

-- ---- one line more

pub on_ok_too : {X E P Q : Type 0} (r : Result X E) → (P → Q) → OnOk r P → OnOk r Q
on_ok_too (Ok x) so holds = so holds
on_ok_too (Err e) so holds = tt

pub begins : (line : LineParts) → line.level ≡ 0 → is_record_tag line.tag ≡ true → ((line.level == 0) && is_record_tag line.tag) ≡ true
begins line top is = rw top is

pub one_more : (lines : List LineParts) (line : LineParts) → ((line.level == 0) && is_record_tag line.tag) ≡ true → record_lines (lines ++ line ∷ []) ≡ record_lines lines ++ line ∷ []
one_more lines line is = filter-append (λ l. (l.level == 0) && is_record_tag l.tag) lines (line ∷ []) ∙ ap (λ (more : List LineParts). record_lines lines ++ more) (kept line is)
  where
    kept : (l : LineParts) → ((l.level == 0) && is_record_tag l.tag) ≡ true → record_lines (l ∷ []) ≡ l ∷ []
    kept l is = ap (λ (b : Bool). cond b (l ∷ []) []) is

pub none_more : (lines : List LineParts) (line : LineParts) → 0 < line.level → record_lines (lines ++ line ∷ []) ≡ record_lines lines
none_more lines line below =
    filter-append (λ l. (l.level == 0) && is_record_tag l.tag) lines (line ∷ [])
    ∙ ap (λ (more : List LineParts). record_lines lines ++ more) (ap (λ (b : Bool). cond (b && is_record_tag line.tag) (line ∷ []) []) (deep (line.level == 0) refl))
    ∙ append-nil (record_lines lines)
  where
    deep : (b : Bool) → (line.level == 0) ≡ b → (line.level == 0) ≡ false
    deep true is = (let top : line.level ≡ 0 = eqb→eq line.level 0 (subst T (sym is) tt) in absurd (omega (arith, top, below)))
    deep false is = is

types_more : (types : List (Option RecordType)) (known : Option RecordType) (lines : List LineParts) (line : LineParts) → AreTypesByTags types lines → IsTypeOf known line.tag
    → AreTypesByTags (types ++ known ∷ []) (lines ++ line ∷ [])
types_more [] known [] line are is = (is, tt)
types_more [] known (l ∷ lines) line are is = absurd are
types_more (k ∷ types) known [] line are is = absurd are
types_more (k ∷ types) known (l ∷ lines) line are is = (are.0, types_more types known lines line are.1 is)

fold_more : {X Y : Type 0} (f : Y → X → Y) (start : Y) (xs : List X) (x : X) (old new : Y) → old ≡ fold f start xs → new ≡ f old x → new ≡ fold f start (xs ++ x ∷ [])
fold_more {X} {Y} f start xs x old new was is = is ∙ ap (λ (o : Y). f o x) was ∙ sym (fold-append f start xs (x ∷ []))

map_more : {X Y : Type 0} (f : X → Y) (xs : List X) (x : X) (old new : List Y) → old ≡ map f xs → new ≡ old ++ f x ∷ [] → new ≡ map f (xs ++ x ∷ [])
map_more {X} {Y} f xs x old new was is = is ∙ ap (λ (o : List Y). o ++ f x ∷ []) was ∙ sym (map-append f xs (x ∷ []))

pub listed_more : (old new : RecordList) (known : Option RecordType) (lines : List LineParts) (line : LineParts) → IsTypeOf known line.tag
    → new.tallies.items ≡ counted old.tallies.items line.xref → all_halves new ≡ all_halves old ++ listed_halves line.xref ∷ []
    → (length old.names.items ≡ length old.digits.items → all_digits new ≡ all_digits old ++ listed_digits line.xref ∷ []) → new.types.items ≡ old.types.items ++ known ∷ []
    → new.long.hasher ≡ fed_long old.long.hasher line.xref → AreListed old lines → AreListed new (lines ++ line ∷ [])
listed_more old new known lines line is tallies names digits types long before =
    let xrefs : map (λ (l : LineParts). l.xref) (lines ++ line ∷ []) ≡ map (λ (l : LineParts). l.xref) lines ++ line.xref ∷ [] = map-append (λ (l : LineParts). l.xref) lines (line ∷ []) in
    let before_xrefs = map (λ (l : LineParts). l.xref) lines in
    let even : length old.names.items ≡ length old.digits.items =
    as_many old [] before_xrefs (append-nil (all_halves old) ∙ before.names) (append-nil (all_digits old) ∙ before.digits) in
    record {
      tallies = fold_more counted (replicate 256 no_names) before_xrefs line.xref old.tallies.items new.tallies.items before.tallies tallies
          ∙ ap (λ (xs : List (Option Bytes)). fold counted (replicate 256 no_names) xs) (sym xrefs);
      names = map_more listed_halves before_xrefs line.xref (all_halves old) (all_halves new) before.names names ∙ ap (λ (xs : List (Option Bytes)). map listed_halves xs) (sym xrefs);
      digits = map_more listed_digits before_xrefs line.xref (all_digits old) (all_digits new) before.digits (digits even) ∙ ap (λ (xs : List (Option Bytes)). map listed_digits xs) (sym xrefs);
      types = rw types (types_more old.types.items known lines line before.types is);
      long = fold_more fed_long initial before_xrefs line.xref old.long.hasher new.long.hasher before.long long ∙ ap (λ (xs : List (Option Bytes)). fold fed_long initial xs) (sym xrefs);
    }

-- ---- the lines of a document

passed : (line : LineParts) (lines : List LineParts) → (line.level == 0) ≡ false → record_lines (line ∷ lines) ≡ record_lines lines
passed line lines deeper = ap (λ (b : Bool). cond (b && is_record_tag line.tag) (line ∷ record_lines lines) (record_lines lines)) deeper

apart : (a b : List LineParts) → record_lines (a ++ b) ≡ record_lines a ++ record_lines b
apart a b = filter-append (λ l. (l.level == 0) && is_record_tag l.tag) a b

above : (n : ℕ) → ((n + 1) == 0) ≡ false
above n = go ((n + 1) == 0) refl
  where
    go : (b : Bool) → ((n + 1) == 0) ≡ b → ((n + 1) == 0) ≡ false
    go true is = (let equal : n + 1 ≡ 0 = eqb→eq (n + 1) 0 (subst T (sym is) tt) in absurd (omega (arith, equal)))
    go false is = is

-- no record begins on a further line of a payload, nor below another structure
abbrev further_at : ℕ → List Bytes → List LineParts
further_at level texts = map (λ text. line_parts (level + 1) None (codes "CONT") (line_value text)) texts

further_begin_none : (level : ℕ) (texts : List Bytes) → record_lines (further_at level texts) ≡ []
further_begin_none level [] = refl
further_begin_none level (text ∷ texts) =
    passed (line_parts (level + 1) None (codes "CONT") (line_value text)) (further_at level texts) (above level) ∙ further_begin_none level texts

rest_begins : (level : ℕ) (texts : List Bytes) (below more : List LineParts) → record_lines below ≡ [] → record_lines ((further_at level texts ++ below) ++ more) ≡ record_lines more
rest_begins level texts below more none_below =
    apart (further_at level texts ++ below) more
    ∙ ap (λ (ls : List LineParts). ls ++ record_lines more)
    (apart (further_at level texts) below ∙ ap (λ (ls : List LineParts). ls ++ record_lines below) (further_begin_none level texts) ∙ none_below)

deeper_begin_none : (level : ℕ) (t : Trees) → record_lines (lines_of (level + 1) t) ≡ []
deeper_begin_none level none = refl
deeper_begin_none level (tree s b n) =
    passed (line_parts (level + 1) s.xref s.tag (first_value s.payload)) ((further_at (level + 1) (further_lines s.payload) ++ lines_of (level + 1 + 1) b) ++ lines_of (level + 1) n) (above level)
    ∙ rest_begins (level + 1) (further_lines s.payload) (lines_of (level + 1 + 1) b) (lines_of (level + 1) n) (deeper_begin_none (level + 1) b)
    ∙ deeper_begin_none level n

-- the own lines of trees at level 0
abbrev own_lines : Trees → List LineParts
own_lines none = []
own_lines (tree s b n) = line_parts 0 s.xref s.tag (first_value s.payload) ∷ own_lines n

-- at level 0 the tag tells whether a record begins
own_or_rest : (b : Bool) (s : Structure) (below next : Trees) → is_record_tag s.tag ≡ b
    → record_lines (lines_of 0 (tree s below next)) ≡ cond b (line_parts 0 s.xref s.tag (first_value s.payload) ∷ record_lines (lines_of 0 next)) (record_lines (lines_of 0 next))
own_or_rest b s below next is =
    let line = line_parts 0 s.xref s.tag (first_value s.payload) in
    let rest = (further_at 0 (further_lines s.payload) ++ lines_of (0 + 1) below) ++ lines_of 0 next in
    let none_below : record_lines rest ≡ record_lines (lines_of 0 next) = rest_begins 0 (further_lines s.payload) (lines_of (0 + 1) below) (lines_of 0 next) (deeper_begin_none 0 below) in
    ap (λ (x : Bool). cond x (line ∷ record_lines rest) (record_lines rest)) is
    ∙ ap (λ (ls : List LineParts). cond b (line ∷ ls) ls) none_below

records_begin : (t : Trees) → are_records t ≡ true → record_lines (lines_of 0 t) ≡ own_lines t
records_begin none are = refl
records_begin (tree s b n) are =
    let own = line_parts 0 s.xref s.tag (first_value s.payload) in
    own_or_rest true s b n (both (is_record_tag s.tag) (are_records n) are).0 ∙ ap (λ (ls : List LineParts). own ∷ ls) (records_begin n (both (is_record_tag s.tag) (are_records n) are).1)

document_begins : (d : Trees) → is_document d ≡ true → record_lines (document_lines d) ≡ own_lines (records_of d)
document_begins none is = cc
document_begins (tree s b n) is =
    apart (lines_of 0 (tree s b n)) (line_parts 0 None (codes "TRLR") Empty ∷ [])
    ∙ append-nil (record_lines (lines_of 0 (tree s b n)))
    ∙ own_or_rest false s b n head_is_none
    ∙ records_begin n records
  where
    parts : ((bytes_eq s.tag (codes "HEAD") && is_none s.xref) ≡ true) × (are_records n ≡ true)
    parts = both (bytes_eq s.tag (codes "HEAD") && is_none s.xref) (are_records n)
        (both ((bytes_eq s.tag (codes "HEAD") && is_none s.xref) && are_records n) (are_at 0 (tree s b n) && nat_lt (length (document_lines (tree s b n))) (2 ^ 63)) is).0

    records : are_records n ≡ true
    records = parts.1

    head_is_none : is_record_tag s.tag ≡ false
    head_is_none = ap is_record_tag ((bytes_eq-Decides s.tag (codes "HEAD")).0 (both (bytes_eq s.tag (codes "HEAD")) (is_none s.xref) parts.0).0)

own_identifiers : (t : Trees) → map (λ (l : LineParts). l.xref) (own_lines t) ≡ identifiers t
own_identifiers none = refl
own_identifiers (tree s b n) = ap (λ (xs : List (Option Bytes)). s.xref ∷ xs) (own_identifiers n)

own_types : (types : List (Option RecordType)) (t : Trees) → AreTypesByTags types (own_lines t) → AreTypesOf types t
own_types [] none are = tt
own_types [] (tree s b n) are = absurd are
own_types (known ∷ more) none are = absurd are
own_types (known ∷ more) (tree s b n) are = (are.0, own_types more n are.1)

-- what a reader has listed of a document's lines are its records
pub records_listed : (d : Trees) (list : RecordList) → is_document d ≡ true → AreListed list (record_lines (document_lines d)) → IsRecordList d list
records_listed d list is listed =
    let begins = document_begins d is in
    let ids : map (λ (l : LineParts). l.xref) (record_lines (document_lines d)) ≡ identifiers (records_of d) =
    ap (λ (ls : List LineParts). map (λ (l : LineParts). l.xref) ls) begins ∙ own_identifiers (records_of d) in
    record {
      tallies = listed.tallies ∙ ap (λ (xs : List (Option Bytes)). fold counted (replicate 256 no_names) xs) ids;
      names = listed.names ∙ ap (λ (xs : List (Option Bytes)). map listed_halves xs) ids;
      digits = listed.digits ∙ ap (λ (xs : List (Option Bytes)). map listed_digits xs) ids;
      types = own_types list.types.items (records_of d) (subst (AreTypesByTags list.types.items) begins listed.types);
      long = listed.long ∙ ap (λ (xs : List (Option Bytes)). fold fed_long initial xs) ids;
    }
