-- Nothing here need be believed: only private contracts and proofs cite it.
-- How trees are coded as lists, which a type that is seen as trees has to tell: the structures in order, with a mark where
-- siblings end. No contract speaks of it.
use Rattle.std.specs.Prelude.{◌≡◌, List, [], ◌∷◌, Option, Some, None, refl}
use Rattle.std.proofs.Common.{◌∙◌, ap}
use Rattle.std.specs.Coded.{Coded, code_by, coded×, coded_ℕ, coded_list, coded_option}
use Rattle.ged_line.specs.Bytes.{Bytes}
use Rattle.ged_tree.specs.Trees.{Structure, Trees, none, tree, Tree}
use Rattle.ged_tree.specs.declared.payload.Payload.{Payload}
use Rattle.ged_tree.specs.declared.payload.Payload.TheVariants.{Void, Pointer, Text}

-- a payload as lists of numbers
abbrev to_lists : Payload → List Bytes
to_lists Void = []
to_lists (Pointer name) = (0 ∷ name) ∷ []
to_lists (Text lines) = [] ∷ lines

-- and back
abbrev from_lists : List Bytes → Payload
from_lists [] = Void
from_lists ([] ∷ lines) = Text lines
from_lists ((_ ∷ name) ∷ _) = Pointer name

pub from_lists-to_lists : (p : Payload) → from_lists (to_lists p) ≡ p
from_lists-to_lists Void = refl
from_lists-to_lists (Pointer name) = refl
from_lists-to_lists (Text lines) = refl

abbrev pub payload_code : Coded Payload
payload_code = code_by (List Bytes) (coded_list (coded_list coded_ℕ)) to_lists from_lists from_lists-to_lists

abbrev pub structure_code : Coded Structure
structure_code =
    code_by (Option Bytes × (Bytes × Payload)) (coded× (coded_option (coded_list coded_ℕ)) (coded× (coded_list coded_ℕ) payload_code))
    (λ s. (s.xref, (s.tag, s.payload))) (λ p. record { xref = p.0; tag = p.1.0; payload = p.1.1 }) (λ _. refl)

-- the marks of the trees, before those given
abbrev marks : Trees → List (Option Structure) → List (Option Structure)
marks none ms = None ∷ ms
marks (tree s below next) ms = Some s ∷ marks below (marks next ms)

-- the structure above the first tree read, with the second beside it
abbrev joined : Structure → List Trees → List Trees
joined s [] = []
joined s (below ∷ []) = []
joined s (below ∷ next ∷ stack) = tree s below next ∷ stack

-- the trees that marks stand for, read from the last mark on
abbrev read_marks : List (Option Structure) → List Trees
read_marks [] = []
read_marks (None ∷ ms) = none ∷ read_marks ms
read_marks (Some s ∷ ms) = joined s (read_marks ms)

-- the first of the trees read
abbrev first_read : List Trees → Trees
first_read [] = none
first_read (t ∷ ts) = t

pub read_marks-marks : (t : Trees) (ms : List (Option Structure)) → read_marks (marks t ms) ≡ t ∷ read_marks ms
read_marks-marks none ms = refl
read_marks-marks (tree s below next) ms =
    ap (joined s) (read_marks-marks below (marks next ms) ∙ ap (λ (ts : List Trees). below ∷ ts) (read_marks-marks next ms))

abbrev pub trees_code : Coded Trees
trees_code =
    code_by (List (Option Structure)) (coded_list (coded_option structure_code))
    (λ t. marks t []) (λ ms. first_read (read_marks ms)) (λ t. ap first_read (read_marks-marks t []))

abbrev pub tree_code : Coded Tree
tree_code =
    code_by (Bytes × (Payload × Trees)) (coded× (coded_list coded_ℕ) (coded× payload_code trees_code))
    (λ t. (t.tag, (t.payload, t.children))) (λ p. record { tag = p.0; payload = p.1.0; children = p.1.1 }) (λ _. refl)
