-- A closed table of a document's lines lists the document's structures.
use Rattle.std.proofs.Common.{◌≡◌, ℕ, suc, ◌+◌, ◌-◌, ◌<◌, ◌≤◌, true, false, List, [], ◌∷◌, ◌++◌, length, take, drop, map, inl, inr, refl, sym, subst, ◌∙◌, ap, arith, append_assoc, append-nil, length-append}
use Rattle.std.specs.Prelude.{nat_lt}
use Rattle.std.specs.List.{AllByRecursion}
use Rattle.std.proofs.lemmas.List.{length-map, map-append, take_at, drop_at, drop-drop}
use Rattle.std.proofs.lemmas.Bool.{cases_lt, lt-ltb}
use Rattle.ged_line.specs.Bytes.{Bytes}
use Rattle.ged_line.specs.Lines.{LineParts, line_parts}
use Rattle.ged_tree.specs.Trees.{Structure, Trees, none, tree, trees_count, further_lines, line_count, lines_count}
use Rattle.ged_tree.specs.Documents.{is_document, are_at}
use Rattle.ged_tree.specs.DocumentLines.{line_value, first_value, lines_of}
use Rattle.ged_tree.specs.inner.DocumentParts.{continued}
use Rattle.ged_tree.specs.Rows.{TableRow, rows_of, rows_from, further_before, places_of, texts_of, trees_of_rows, flat_rows, flat_trees, IsListed, IsSpelled, Further, Shown, deeper, levels_of}
use Rattle.ged_tree.specs.inner.Tables.{OwnLine, own_line, own_lines, begins_cont, further_places, further_texts, line_text}
use Rattle.ged_tree.specs.inner.Growing.{RiseByOne}
use Rattle.ged_tree.specs.Spelled.{payload_from}
use Rattle.ged_tree.proofs.theory.LinesAgain.{tree_is, payload_again, laid, document_placed}
use Rattle.ged_tree.proofs.theory.RowsAtPlaces.{trees_of_rows_of}
use Rattle.ged_tree.proofs.table.Continuations.{before_all, places_to, StartedLine, starts, started_lines, started}
use Rattle.ged_tree.proofs.table.Afters.{deeper_more, deeper_none}

abbrev own_levels : List StartedLine → List ℕ
own_levels rs = map (λ r. r.line.level) rs

-- where the first of the lines has its further lines, or the end where there is none
abbrev next_start : ℕ → List StartedLine → ℕ
next_start end [] = end
next_start end (r ∷ rs) = r.start

abbrev row_from : List Bytes → ℕ → ℕ → ℕ → StartedLine → TableRow
row_from further place below count r = record { level = r.line.level; after = place + (1 + below); line = place + r.start + 1; further = count; goes_on = r.goes_on; structure = record { xref = r.line.xref; tag = r.line.tag; payload = payload_from r.line.value (take count (drop r.start further)) } }

-- the rows of the own lines of a closed table
abbrev closed_rows : List Bytes → ℕ → ℕ → List StartedLine → List TableRow
closed_rows further end place [] = []
closed_rows further end place (r ∷ rs) = row_from further place (deeper r.line.level (own_levels rs)) (next_start end rs - r.start) r ∷ closed_rows further end (place + 1) rs

levels_same : (afters : List ℕ) (place : ℕ) (items : List Shown) → levels_of items ≡ own_levels (starts afters place (map own_line items))
levels_same afters place [] = refl
levels_same afters place (s ∷ rest) = ap (λ (ls : List ℕ). s.level ∷ ls) (levels_same afters (place + 1) rest)

next_is : (afters : List ℕ) (end place : ℕ) (items : List Shown) → length afters ≡ end → AllByRecursion (λ a. a ≤ place + length items) afters
    → next_start end (starts afters place (map own_line items)) ≡ further_before place afters
next_is afters end place [] e h = (let z : place + 0 ≡ place = omega arith in sym (before_all place afters (subst (λ (n : ℕ). AllByRecursion (λ a. a ≤ n) afters) z h) ∙ e))
next_is afters end place (s ∷ rest) e h = refl

table_rows : (further : List Bytes) (afters : List ℕ) (end place : ℕ) (items : List Shown) → length afters ≡ end → AllByRecursion (λ a. a ≤ place + length items) afters
    → rows_from further afters place items ≡ closed_rows further end place (starts afters place (map own_line items))
table_rows further afters end place [] e h = refl
table_rows further afters end place (s ∷ rest) e h =
    let z : place + suc (length rest) ≡ (place + 1) + length rest = omega arith in
    let few = subst (λ (n : ℕ). AllByRecursion (λ a. a ≤ n) afters) z h in
    rw (levels_same afters (place + 1) rest, next_is afters end (place + 1) rest e few, table_rows further afters end (place + 1) rest e few) refl

-- the further lines and the own lines of trees
abbrev tree_texts : Trees → List Bytes
tree_texts none = []
tree_texts (tree s b n) = further_lines s.payload ++ (tree_texts b ++ tree_texts n)

abbrev tree_lines : ℕ → ℕ → Trees → List StartedLine
tree_lines k count none = []
tree_lines k count (tree s b n) =
    record { line = line_parts k s.xref s.tag (first_value s.payload); goes_on = nat_lt 0 (length (further_lines s.payload)); start = count }
    ∷ (tree_lines (k + 1) (count + length (further_lines s.payload)) b ++ tree_lines k (count + length (further_lines s.payload) + length (tree_texts b)) n)

lines_are : (w : Trees) → lines_count w ≡ trees_count w + length (tree_texts w)
lines_are none = refl
lines_are (tree s b n) = omega (arith, lines_are b, lines_are n, length-append (further_lines s.payload) (tree_texts b ++ tree_texts n), length-append (tree_texts b) (tree_texts n))

lines_deeper : (l k count : ℕ) (w : Trees) (rs : List StartedLine) → l < k → deeper l (own_levels (tree_lines k count w ++ rs)) ≡ trees_count w + deeper l (own_levels rs)
lines_deeper l k count none rs h = omega arith
lines_deeper l k count (tree s b n) rs h =
    let c1 = count + length (further_lines s.payload) in
    let c2 = c1 + length (tree_texts b) in
    let below = tree_lines (k + 1) c1 b in
    let next = tree_lines k c2 n in
    let a = lines_deeper l (k + 1) c1 b (next ++ rs) (omega arith) in
    let z = lines_deeper l k c2 n rs h in
    rw (append_assoc below next rs, deeper_more l k (own_levels (below ++ (next ++ rs))) h) (omega (arith, a, z))

lines_stop : (k count : ℕ) (w : Trees) (rs : List StartedLine) → deeper k (own_levels rs) ≡ 0 → deeper k (own_levels (tree_lines k count w ++ rs)) ≡ 0
lines_stop k count none rs h = h
lines_stop k count (tree s b n) rs h = deeper_none k k _ (omega arith)

lines_over : (k count : ℕ) (w : Trees) (rs : List StartedLine) → deeper k (own_levels rs) ≡ 0 → deeper (k + 1) (own_levels (tree_lines k count w ++ rs)) ≡ 0
lines_over k count none rs h = less (own_levels rs) h
  where
    less : (ls : List ℕ) → deeper k ls ≡ 0 → deeper (k + 1) ls ≡ 0
    less [] h = refl
    less (x ∷ xs) h = elim (cases_lt k x) [
      | inl far ↦ absurd (let q = sym (deeper_more k x xs far) ∙ h in omega (arith, q))
      | inr near ↦ deeper_none (k + 1) x xs (omega arith)
    ]
lines_over k count (tree s b n) rs h = deeper_none (k + 1) k _ (omega arith)

lines_start : (end k count : ℕ) (w : Trees) (rs : List StartedLine) → next_start end rs ≡ count + length (tree_texts w) → next_start end (tree_lines k count w ++ rs) ≡ count
lines_start end k count none rs h = (let z : count + 0 ≡ count = omega arith in h ∙ z)
lines_start end k count (tree s b n) rs h = refl

-- a structure's row, where its own line's neighbours are known
abbrev row_is : ℕ → ℕ → ℕ → Structure → Trees → TableRow
row_is k place number s b = record { level = k; after = place + (1 + trees_count b); line = number; further = length (further_lines s.payload); goes_on = nat_lt 0 (length (further_lines s.payload)); structure = s }

lines_rows : (further : List Bytes) (end k place count number : ℕ) (w : Trees) (more_texts : List Bytes) (rs : List StartedLine)
    → are_at k w ≡ true → number ≡ place + count + 1 → drop count further ≡ tree_texts w ++ more_texts → deeper k (own_levels rs) ≡ 0 → next_start end rs ≡ count + length (tree_texts w)
    → closed_rows further end place (tree_lines k count w ++ rs) ≡ rows_of k place number w ++ closed_rows further end (place + trees_count w) rs
lines_rows further end k place count number none more_texts rs f m d z e = (let p : place ≡ place + 0 = omega arith in ap (λ (j : ℕ). closed_rows further end j rs) p)
lines_rows further end k place count number (tree s b n) more_texts rs f m d z e =
    let g = tree_is k s b n f in
    let own = further_lines s.payload in
    let tb = tree_texts b in
    let tn = tree_texts n in
    let c1 = count + length own in
    let c2 = count + length own + length tb in
    let m1 = number + line_count s.payload in
    let m2 = number + (line_count s.payload + lines_count b) in
    let below = tree_lines (k + 1) c1 b in
    let next = tree_lines k c2 n in
    let split : drop count further ≡ own ++ (tb ++ (tn ++ more_texts)) = d ∙ append_assoc own (tb ++ tn) more_texts ∙ ap (λ (xs : List Bytes). own ++ xs) (append_assoc tb tn more_texts) in
    let d1 : drop c1 further ≡ tb ++ (tn ++ more_texts) = sym (drop-drop (length own) count further) ∙ ap (λ (xs : List Bytes). drop (length own) xs) split ∙ drop_at own (tb ++ (tn ++ more_texts)) (length own) refl in
    let d2 : drop c2 further ≡ tn ++ more_texts = sym (drop-drop (length tb) c1 further) ∙ ap (λ (xs : List Bytes). drop (length tb) xs) d1 ∙ drop_at tb (tn ++ more_texts) (length tb) refl in
    let e2 : next_start end rs ≡ c2 + length tn = omega (arith, e, length-append own (tb ++ tn), length-append tb tn) in
    let e1 : next_start end (next ++ rs) ≡ c1 + length tb = lines_start end k c2 n rs e2 in
    let e0 : next_start end (below ++ (next ++ rs)) ≡ c1 = lines_start end (k + 1) c1 b (next ++ rs) e1 in
    let span : next_start end (below ++ (next ++ rs)) - count ≡ length own = omega (arith, e0) in
    let stop : deeper k (own_levels (next ++ rs)) ≡ 0 = lines_stop k c2 n rs z in
    let stop_below : deeper (k + 1) (own_levels (next ++ rs)) ≡ 0 = lines_over k c2 n rs z in
    let size : deeper k (own_levels (below ++ (next ++ rs))) ≡ trees_count b = (let q = lines_deeper k (k + 1) c1 b (next ++ rs) (omega arith) in omega (arith, q, stop)) in
    let place_is : place + 1 + trees_count b ≡ place + (1 + trees_count b) = omega arith in
    let last : place + (1 + trees_count b) + trees_count n ≡ place + (1 + trees_count b + trees_count n) = omega arith in
    let payload : payload_from (first_value s.payload) (take (length own) (drop count further)) ≡ s.payload = rw (split, take_at own (tb ++ (tn ++ more_texts)) (length own) refl) (payload_again k s.payload g.payload) in
    let inside = lines_rows further end (k + 1) (place + 1) c1 m1 b (tn ++ more_texts) (next ++ rs) g.below_is (omega (arith, m)) d1 stop_below e1 in
    let after = lines_rows further end k (place + (1 + trees_count b)) c2 m2 n more_texts rs g.next_is (omega (arith, m, lines_are b)) d2 z e2 in
    let first : row_from further place (deeper k (own_levels (below ++ (next ++ rs)))) (next_start end (below ++ (next ++ rs)) - count) (record { line = line_parts k s.xref s.tag (first_value s.payload); goes_on = nat_lt 0 (length (further_lines s.payload)); start = count }) ≡ row_is k place number s b = rw (span, size, payload, m) refl in
    let joined : closed_rows further end (place + 1) (below ++ (next ++ rs)) ≡ (rows_of (k + 1) (place + 1) m1 b ++ rows_of k (place + (1 + trees_count b)) m2 n) ++ closed_rows further end (place + (1 + trees_count b + trees_count n)) rs =
    inside ∙ ap (λ (j : ℕ). rows_of (k + 1) (place + 1) m1 b ++ closed_rows further end j (next ++ rs)) place_is ∙ ap (λ (xs : List TableRow). rows_of (k + 1) (place + 1) m1 b ++ xs) (after ∙ ap (λ (j : ℕ). rows_of k (place + (1 + trees_count b)) m2 n ++ closed_rows further end j rs) last) ∙ sym (append_assoc (rows_of (k + 1) (place + 1) m1 b) (rows_of k (place + (1 + trees_count b)) m2 n) (closed_rows further end (place + (1 + trees_count b + trees_count n)) rs)) in
    rw (append_assoc below next rs, first, joined) refl

conts_own : (count m : ℕ) (texts : List Bytes) (rest : List LineParts) → started_lines count (continued m texts ++ rest) ≡ started_lines (count + length texts) rest
conts_own count m [] rest = (let z : count ≡ count + 0 = omega arith in ap (λ (j : ℕ). started_lines j rest) z)
conts_own count m (text ∷ texts) rest = conts_own (count + 1) m texts rest ∙ (let z : count + 1 + length texts ≡ count + suc (length texts) = omega arith in ap (λ (j : ℕ). started_lines j rest) z)

-- a structure's own line goes on where its payload has further lines
goes_on_is : (m : ℕ) (texts : List Bytes) (rest : List LineParts) → begins_cont rest ≡ false → begins_cont (continued m texts ++ rest) ≡ nat_lt 0 (length texts)
goes_on_is m [] rest h = h
goes_on_is m (text ∷ texts) rest h = sym (lt-ltb 0 (suc (length texts)) (omega arith))

no_cont : (k : ℕ) (w : Trees) (rest : List LineParts) → are_at k w ≡ true → begins_cont rest ≡ false → begins_cont (lines_of k w ++ rest) ≡ false
no_cont k none rest f h = h
no_cont k (tree s b n) rest f h = (tree_is k s b n f).own

value_text : (text : Bytes) → line_text (line_value text) ≡ text
value_text [] = refl
value_text (b ∷ bs) = refl

texts_conts : (m : ℕ) (texts : List Bytes) (rest : List LineParts) → further_texts (continued m texts ++ rest) ≡ texts ++ further_texts rest
texts_conts m [] rest = refl
texts_conts m (text ∷ texts) rest = rw (value_text text, texts_conts m texts rest) refl

-- the own lines of trees
own_of_trees : (k count : ℕ) (w : Trees) (rest : List LineParts) → are_at k w ≡ true → begins_cont rest ≡ false → started_lines count (lines_of k w ++ rest) ≡ tree_lines k count w ++ started_lines (count + length (tree_texts w)) rest
own_of_trees k count none rest f h = (let z : count ≡ count + 0 = omega arith in ap (λ (j : ℕ). started_lines j rest) z)
own_of_trees k count (tree s b n) rest f h =
    let g = tree_is k s b n f in
    let own = further_lines s.payload in
    let line = line_parts k s.xref s.tag (first_value s.payload) in
    let after = lines_of k n ++ rest in
    let c1 = count + length own in
    let c2 = c1 + length (tree_texts b) in
    let total : c2 + length (tree_texts n) ≡ count + length (tree_texts (tree s b n)) = omega (arith, length-append own (tree_texts b ++ tree_texts n), length-append (tree_texts b) (tree_texts n)) in
    let quiet : begins_cont after ≡ false = no_cont k n rest g.next_is h in
    let goes : begins_cont (continued (k + 1) own ++ (lines_of (k + 1) b ++ after)) ≡ nat_lt 0 (length own) = goes_on_is (k + 1) own (lines_of (k + 1) b ++ after) (no_cont (k + 1) b after g.below_is quiet) in
    let first : started_lines count (line ∷ (continued (k + 1) own ++ (lines_of (k + 1) b ++ after))) ≡ record { line = line; goes_on = nat_lt 0 (length own); start = count } ∷ started_lines count (continued (k + 1) own ++ (lines_of (k + 1) b ++ after)) = rw (g.own, goes) refl in
    ap (λ (ls : List LineParts). started_lines count ls) (laid k s b n rest)
    ∙ first
    ∙ ap (λ (rs : List StartedLine). record { line = line; goes_on = nat_lt 0 (length own); start = count } ∷ rs) (
    conts_own count (k + 1) own (lines_of (k + 1) b ++ after)
    ∙ own_of_trees (k + 1) c1 b after g.below_is quiet
    ∙ ap (λ (rs : List StartedLine). tree_lines (k + 1) c1 b ++ rs) (own_of_trees k c2 n rest g.next_is h ∙ ap (λ (j : ℕ). tree_lines k c2 n ++ started_lines j rest) total)
    ∙ sym (append_assoc (tree_lines (k + 1) c1 b) (tree_lines k c2 n) (started_lines (count + length (tree_texts (tree s b n))) rest)))

-- the further lines of trees
texts_of_trees : (k : ℕ) (w : Trees) (rest : List LineParts) → are_at k w ≡ true → further_texts (lines_of k w ++ rest) ≡ tree_texts w ++ further_texts rest
texts_of_trees k none rest f = refl
texts_of_trees k (tree s b n) rest f =
    let g = tree_is k s b n f in
    let own = further_lines s.payload in
    let line = line_parts k s.xref s.tag (first_value s.payload) in
    let after = lines_of k n ++ rest in
    let first : further_texts (line ∷ (continued (k + 1) own ++ (lines_of (k + 1) b ++ after))) ≡ further_texts (continued (k + 1) own ++ (lines_of (k + 1) b ++ after)) = rw g.own refl in
    ap further_texts (laid k s b n rest)
    ∙ first
    ∙ texts_conts (k + 1) own (lines_of (k + 1) b ++ after)
    ∙ ap (λ (ts : List Bytes). own ++ ts) (texts_of_trees (k + 1) b after g.below_is ∙ ap (λ (ts : List Bytes). tree_texts b ++ ts) (texts_of_trees k n rest g.next_is) ∙ sym (append_assoc (tree_texts b) (tree_texts n) (further_texts rest)))
    ∙ sym (append_assoc own (tree_texts b ++ tree_texts n) (further_texts rest))

-- a closed table of a document's lines lists the document's rows
listed : (w : Trees) (items : List Shown) (further : List Further) → is_document w ≡ true → map own_line items ≡ own_lines (lines_of 0 w) → places_of further ≡ further_places 0 (lines_of 0 w) → texts_of further ≡ further_texts (lines_of 0 w)
    → flat_rows items further ≡ rows_of 0 0 1 w
listed w items further a r p t =
    let f = document_placed w a in
    let lines = lines_of 0 w in
    let afters = places_of further in
    let texts = texts_of further in
    let began : starts afters 0 (map own_line items) ≡ started_lines 0 lines = rw (r, p) (started 0 [] lines tt) in
    let whole_lines : starts afters 0 (map own_line items) ≡ tree_lines 0 0 w ++ [] = began ∙ ap (λ (ls : List LineParts). started_lines 0 ls) (sym (append-nil lines)) ∙ own_of_trees 0 0 w [] f refl in
    let whole_texts : texts ≡ tree_texts w ++ [] = t ∙ ap further_texts (sym (append-nil lines)) ∙ texts_of_trees 0 w [] f in
    let size : length texts ≡ 0 + length (tree_texts w) = (let q = ap (λ (xs : List Bytes). length xs) (whole_texts ∙ append-nil (tree_texts w)) in omega (arith, q)) in
    let ends : length afters ≡ length texts = omega (arith, length-map further (λ (line : Further). line.after), length-map further (λ (line : Further). line.text)) in
    let count : 0 + length (own_lines lines) ≡ 0 + length items = (let q = ap (λ (rs : List OwnLine). length rs) r in omega (arith, q, length-map items own_line)) in
    let few : AllByRecursion (λ a. a ≤ 0 + length items) afters = rw p (subst (λ (n : ℕ). AllByRecursion (λ a. a ≤ n) (further_places 0 lines)) count (places_to 0 lines)) in
    table_rows texts afters (length texts) 0 items ends few
    ∙ ap (closed_rows texts (length texts) 0) whole_lines
    ∙ lines_rows texts (length texts) 0 0 0 1 w [] [] f refl whole_texts refl size
    ∙ append-nil (rows_of 0 0 1 w)

-- and it is seen as the document
pub record Lists (items : List Shown) (further : List Further) (w : Trees) : Type 0 where
  pub flat : IsListed items further
  pub seen : flat_trees items further ≡ w

pub lists : (w : Trees) (items : List Shown) (further : List Further) → is_document w ≡ true → map own_line items ≡ own_lines (lines_of 0 w) → places_of further ≡ further_places 0 (lines_of 0 w) → texts_of further ≡ further_texts (lines_of 0 w)
    → AllByRecursion IsSpelled items → Lists items further w
lists w items further a r p t spelled =
    let e : flat_rows items further ≡ rows_of 0 0 1 w = listed w items further a r p t in
    let seen : flat_trees items further ≡ w = ap (trees_of_rows 0) e ∙ trees_of_rows_of 0 0 1 w in
    record { flat = record { listed = e ∙ ap (rows_of 0 0 1) (sym seen); document = ap is_document seen ∙ a; spelled = spelled }; seen = seen }

-- the levels of a document's structures rise by one at most
row_levels : (texts : List Bytes) (afters : List ℕ) (place : ℕ) (items : List Shown) → map (λ (r : TableRow). r.level) (rows_from texts afters place items) ≡ levels_of items
row_levels texts afters place [] = refl
row_levels texts afters place (s ∷ rest) = ap (λ (ls : List ℕ). s.level ∷ ls) (row_levels texts afters (place + 1) rest)

rows_rise : (most k place number : ℕ) (w : Trees) (more : List ℕ) → k ≤ most → ((l : ℕ) → k ≤ l → RiseByOne l more)
    → RiseByOne most (map (λ (r : TableRow). r.level) (rows_of k place number w) ++ more)
rows_rise most k place number none more low h = h most low
rows_rise most k place number (tree s b n) more low h =
    let below = rows_of (k + 1) (place + 1) (number + line_count s.payload) b in
    let next = rows_of k (place + (1 + trees_count b)) (number + (line_count s.payload + lines_count b)) n in
    let level : TableRow → ℕ = λ r. r.level in
    let split : map level (below ++ next) ++ more ≡ map level below ++ (map level next ++ more) = ap (λ (ls : List ℕ). ls ++ more) (map-append level below next) ∙ append_assoc (map level below) (map level next) more in
    let rest = rows_rise (k + 1) (k + 1) (place + 1) (number + line_count s.payload) b (map level next ++ more) (omega arith)
    (λ l above. rows_rise l k (place + (1 + trees_count b)) (number + (line_count s.payload + lines_count b)) n more (omega (arith, above)) h) in
    (low, subst (RiseByOne (k + 1)) (sym split) rest)

pub rise : (items : List Shown) (further : List Further) → IsListed items further → RiseByOne 0 (levels_of items)
rise items further flat =
    let level : TableRow → ℕ = λ r. r.level in
    let w = flat_trees items further in
    let same : map level (rows_of 0 0 1 w) ++ [] ≡ levels_of items = append-nil (map level (rows_of 0 0 1 w)) ∙ ap (map level) (sym flat.listed) ∙ row_levels (texts_of further) (places_of further) 0 items in
    subst (RiseByOne 0) same (rows_rise 0 0 0 1 w [] (omega arith) (λ l above. tt))
