-- The trees of a document's lines are the document's.
use Rattle.std.proofs.Common.{◌≡◌, ℕ, ◌+◌, ◌^◌, ◌<◌, Bool, true, false, ◌&&◌, not, List, [], ◌∷◌, ◌++◌, refl, sym, ◌∙◌, ap, arith, append_assoc, append-nil, codes}
use Rattle.std.specs.Prelude.{nat_lt, nat_le, is_none, length}
use Rattle.std.specs.Str.{bytes_eq}
use Rattle.std.proofs.lemmas.Bool.{true≢false, not-true, leb-true, le-leb, and_parts, and_from}
use Rattle.ged_line.specs.Bytes.{Bytes}
use Rattle.ged_line.specs.Names.{is_tag}
use Rattle.ged_line.specs.Lines.{LineParts, line_parts}
use Rattle.ged_tree.specs.Trees.{Structure, Trees, none, tree, further_lines}
use Rattle.ged_tree.specs.Documents.{is_payload_at, is_structure_at, are_at, are_records, is_document}
use Rattle.ged_tree.specs.inner.DocumentParts.{is_xref_at, is_head, continued}
use Rattle.ged_tree.specs.declared.payload.Payload.{Payload}
use Rattle.ged_tree.specs.declared.payload.Payload.TheVariants.{Void, Pointer, Text}
use Rattle.ged_tree.specs.DocumentLines.{line_value, first_value, structure_lines, lines_of, document_lines}
use Rattle.ged_tree.specs.TreeFaults.{is_cont}
use Rattle.ged_tree.specs.Spelled.{payload_from}
use Rattle.ged_tree.proofs.theory.Growing.{forest, forest_here, forest_below, forest_above, further_of, text_of}

-- trees, and others after them
abbrev pub beside : Trees → Trees → Trees
beside none u = u
beside (tree s b n) u = tree s b (beside n u)

beside_none : (w : Trees) → beside w none ≡ w
beside_none none = refl
beside_none (tree s b n) = rw (beside_none n) refl

-- what the test of trees at a level says
pub record TreeIs (level : ℕ) (s : Structure) (below next : Trees) : Type 0 where
  pub small : nat_le level 99 ≡ true
  pub tag : is_tag s.tag ≡ true
  pub own : bytes_eq s.tag (codes "CONT") ≡ false
  pub xref : is_xref_at level s.xref ≡ true
  pub payload : is_payload_at level s.payload ≡ true
  pub below_is : are_at (level + 1) below ≡ true
  pub next_is : are_at level next ≡ true

pub tree_is : (level : ℕ) (s : Structure) (below next : Trees) → are_at level (tree s below next) ≡ true → TreeIs level s below next
tree_is level s below next h =
    let others = are_at (level + 1) below && are_at level next in
    let tagged = is_tag s.tag && not (bytes_eq s.tag (codes "CONT")) in
    let carried = is_xref_at level s.xref && is_payload_at level s.payload in
    let a = and_parts (is_structure_at level s) others h in
    let b = and_parts (are_at (level + 1) below) (are_at level next) a.1 in
    let c = and_parts (nat_le level 99 && tagged) carried a.0 in
    let d = and_parts (nat_le level 99) tagged c.0 in
    let e = and_parts (is_tag s.tag) (not (bytes_eq s.tag (codes "CONT"))) d.1 in
    let f = and_parts (is_xref_at level s.xref) (is_payload_at level s.payload) c.1 in
    record { small = d.0; tag = e.0; own = not-true _ e.1; xref = f.0; payload = f.1; below_is = b.0; next_is = b.1 }

-- what the test of a document says
pub record DocumentIs (s : Structure) (below next : Trees) : Type 0 where
  pub header : bytes_eq s.tag (codes "HEAD") ≡ true
  pub unnamed : is_none s.xref ≡ true
  pub records : are_records next ≡ true
  pub placed : are_at 0 (tree s below next) ≡ true
  pub few : nat_lt (length (document_lines (tree s below next))) (2 ^ 63) ≡ true

pub document_is : (s : Structure) (below next : Trees) → is_document (tree s below next) ≡ true → DocumentIs s below next
document_is s below next h =
    let a = and_parts (is_head s && are_records next) (are_at 0 (tree s below next) && nat_lt (length (document_lines (tree s below next))) (2 ^ 63)) h in
    let b = and_parts (is_head s) (are_records next) a.0 in
    let c = and_parts (bytes_eq s.tag (codes "HEAD")) (is_none s.xref) b.0 in
    let d = and_parts (are_at 0 (tree s below next)) (nat_lt (length (document_lines (tree s below next))) (2 ^ 63)) a.1 in
    record { header = c.0; unnamed = c.1; records = b.1; placed = d.0; few = d.1 }

-- what follows trees of a level: nothing, or a line of at most that level that is no CONT
abbrev ends : ℕ → List LineParts → Bool
ends k [] = true
ends k (line ∷ rest) = not (is_cont line) && nat_le line.level k

ends_further : (k : ℕ) (rest : List LineParts) → ends k rest ≡ true → further_of rest ≡ []
ends_further k [] h = refl
ends_further k (line ∷ rest) h = let p = and_parts (not (is_cont line)) (nat_le line.level k) h in rw (not-true (is_cont line) p.0) refl

ends_none : (k : ℕ) (rest : List LineParts) → ends k rest ≡ true → forest (k + 1) rest ≡ none
ends_none k [] h = refl
ends_none k (line ∷ rest) h =
    let p = and_parts (not (is_cont line)) (nat_le line.level k) h in
    let small = leb-true line.level k p.1 in
    forest_above (k + 1) line rest (not-true (is_cont line) p.0) (omega arith)

ends_more : (k : ℕ) (rest : List LineParts) → ends k rest ≡ true → ends (k + 1) rest ≡ true
ends_more k [] h = refl
ends_more k (line ∷ rest) h =
    let p = and_parts (not (is_cont line)) (nat_le line.level k) h in
    let small = leb-true line.level k p.1 in
    and_from _ _ p.0 (le-leb line.level (k + 1) (omega arith))

lines_end : (k : ℕ) (w : Trees) (rest : List LineParts) → are_at k w ≡ true → ends k rest ≡ true → ends k (lines_of k w ++ rest) ≡ true
lines_end k none rest f h = h
lines_end k (tree s b n) rest f h = and_from (not (bytes_eq s.tag (codes "CONT"))) (nat_le k k) (rw (tree_is k s b n f).own refl) (le-leb k k (omega arith))

skip_conts : (k level : ℕ) (further : List Bytes) (rest : List LineParts) → forest k (continued level further ++ rest) ≡ forest k rest
skip_conts k level [] rest = refl
skip_conts k level (line ∷ lines) rest = skip_conts k level lines rest

text_is : (line : Bytes) → text_of (line_value line) ≡ line
text_is [] = refl
text_is (b ∷ bs) = refl

further_again : (level : ℕ) (further : List Bytes) (rest : List LineParts) → further_of rest ≡ []
    → further_of (continued level further ++ rest) ≡ further
further_again level [] rest h = h
further_again level (line ∷ lines) rest h = rw (text_is line, further_again level lines rest h) refl

pub payload_again : (level : ℕ) (p : Payload) → is_payload_at level p ≡ true → payload_from (first_value p) (further_lines p) ≡ p
payload_again level Void h = refl
payload_again level (Pointer name) h = refl
payload_again level (Text []) h = absurd (true≢false (sym h))
payload_again level (Text ([] ∷ lines)) h = refl
payload_again level (Text ((b ∷ bs) ∷ lines)) h = refl

abbrev pub own_line : ℕ → Structure → LineParts
own_line k s = line_parts k s.xref s.tag (first_value s.payload)

-- what stands behind a structure's own line: its further lines, those below it, those after it, and the rest
abbrev pub behind : ℕ → Structure → Trees → Trees → List LineParts → List LineParts
behind k s b n rest = continued (k + 1) (further_lines s.payload) ++ (lines_of (k + 1) b ++ (lines_of k n ++ rest))

pub laid : (k : ℕ) (s : Structure) (b n : Trees) (rest : List LineParts) → lines_of k (tree s b n) ++ rest ≡ own_line k s ∷ behind k s b n rest
laid k s b n rest =
    append_assoc (structure_lines k s ++ lines_of (k + 1) b) (lines_of k n) rest
    ∙ append_assoc (structure_lines k s) (lines_of (k + 1) b) (lines_of k n ++ rest)

skip_deep : (w : Trees) (k m : ℕ) (rest : List LineParts) → are_at m w ≡ true → k < m → forest k (lines_of m w ++ rest) ≡ forest k rest
skip_deep none k m rest f h = refl
skip_deep (tree s b n) k m rest f h =
    let p = tree_is m s b n f in
    ap (λ (ls : List LineParts). forest k ls) (laid m s b n rest)
    ∙ forest_below k (own_line m s) (behind m s b n rest) p.own h
    ∙ skip_conts k (m + 1) (further_lines s.payload) (lines_of (m + 1) b ++ (lines_of m n ++ rest))
    ∙ skip_deep b k (m + 1) (lines_of m n ++ rest) p.below_is (omega arith)
    ∙ skip_deep n k m rest p.next_is h

forest_again : (w : Trees) (k : ℕ) (rest : List LineParts) → are_at k w ≡ true → ends k rest ≡ true
    → forest k (lines_of k w ++ rest) ≡ beside w (forest k rest)
forest_again none k rest f e = refl
forest_again (tree s b n) k rest f e =
    let p = tree_is k s b n f in
    let texts = further_lines s.payload in
    let after = lines_of k n ++ rest in
    let below = lines_of (k + 1) b ++ after in
    let later = behind k s b n rest in
    let after_ends : ends k after ≡ true = lines_end k n rest p.next_is e in
    let below_ends : ends (k + 1) below ≡ true = lines_end (k + 1) b after p.below_is (ends_more k after after_ends) in
    let same : payload_from (first_value s.payload) (further_of later) ≡ s.payload =
    rw (further_again (k + 1) texts below (ends_further (k + 1) below below_ends)) (payload_again k s.payload p.payload) in
    let down : forest (k + 1) later ≡ b =
    skip_conts (k + 1) (k + 1) texts below
    ∙ forest_again b (k + 1) after p.below_is (ends_more k after after_ends)
    ∙ ap (beside b) (ends_none k after after_ends)
    ∙ beside_none b in
    let on : forest k later ≡ beside n (forest k rest) =
    skip_conts k (k + 1) texts below
    ∙ skip_deep b k (k + 1) after p.below_is (omega arith)
    ∙ forest_again n k rest p.next_is e in
    ap (λ (ls : List LineParts). forest k ls) (laid k s b n rest)
    ∙ forest_here k (own_line k s) later p.own refl
    ∙ rw (same, down, on) refl

pub document_placed : (w : Trees) → is_document w ≡ true → are_at 0 w ≡ true
document_placed none h = refl
document_placed (tree s b n) h = (document_is s b n h).placed

pub read_again : (w : Trees) → is_document w ≡ true → forest 0 (lines_of 0 w) ≡ w
read_again w h =
    let e : lines_of 0 w ++ [] ≡ lines_of 0 w = append-nil (lines_of 0 w) in
    rw e at (forest_again w 0 [] (document_placed w h) refl) ∙ beside_none w
