-- The family of README.md: its three files as documents, the steps by which one program's file becomes the other's, and the
-- canonical file as the normal form of both. No identifier is given or dropped here, as some pointer names each of them;
-- `unused_is_dropped` in Examples.antt drops one.
use Rattle.std.proofs.Common.{◌≡◌, List, [], ◌∷◌, ◌++◌, Option, Some, None, refl, sym, subst, codes, inl, inr}
use Prim.Native.String.{String}
use Rattle.std.specs.Fmt.{digits}
use Rattle.std.specs.Str.{is_utf8, chars}
use Rattle.ged_line.specs.Bytes.{Bytes, line_feed}
use Rattle.ged_line.specs.Spelling.{spelled_lines}
use Rattle.ged_tree.specs.declared.payload.Payload.{Payload}
use Rattle.ged_tree.specs.declared.payload.Payload.TheVariants.{Pointer, Text}
use Rattle.ged_tree.specs.Trees.{Tree, Trees, none, tree, records_of, structure_of, trees_of}
use Rattle.ged_tree.specs.DocumentLines.{document_lines}
use Rattle.ged_value.specs.Words.{words_of}
use Rattle.ged_value.specs.Dates.{DateParts, gregorian}
use Rattle.ged_value.specs.Values.{plain, before}
use Rattle.ged_link.specs.Links.{IsAmong, IsNamed}
use Rattle.ged_schema.specs.declared.context.Context.{Context}
use Rattle.ged_schema.specs.declared.context.Context.TheVariants.{File}
use Rattle.ged_schema.specs.Tables.{row, rows, context_below}
use Rattle.ged_canon.specs.declared.edition.Edition.TheVariants.{First}
use Rattle.ged_canon.specs.Steps.{calendar, Respelt, respelt, Change, put_in, here, new_name, renamed, Renamed, rename, done, Equivalent}
use Rattle.ged_canon.specs.inner.StepParts.{news}
use Rattle.ged_canon.specs.Normal.{Normal, IsNormalForm}
use Rattle.ged_canon.specs.inner.Working.{falls}
use Rattle.ged_canon.proofs.theory.Used.{is_named-from}
use Rattle.ged_canon.proofs.theory.Chains.{both, back}
use Rattle.ged_canon.proofs.theory.Undone.{step_back}
use Rattle.ged_canon.proofs.theory.StepForms.{three_distinct, unnamed, swap, below, behind, step, ◌⨟◌}
use Rattle.ged_canon.proofs.theory.NormalTests.{in_order, normal}

-- How documents are written here.

abbrev nothing : Payload
nothing = Text ([] ∷ [])

abbrev text : String → Payload
text line = Text (codes line ∷ [])

abbrev pointer : String → Payload
pointer name = Pointer (codes name)

-- a structure: its tag, its payload, and what stands below it
abbrev has : String → Payload → List Tree → Tree
has tag payload below = record { tag = codes tag; payload = payload; children = trees_of below }

-- records, each with its identifier
abbrev named : List (String × Tree) → Trees
named [] = none
named (r ∷ rs) = tree (structure_of (Some (codes r.0)) r.1) r.1.children (named rs)

-- HEAD, and the records behind it
abbrev headed : Tree → List (String × Tree) → Trees
headed head records = tree (structure_of None head) head.children (named records)

-- lines, each with a line feed
abbrev lines : List String → Bytes
lines [] = []
lines (l ∷ ls) = codes l ++ (line_feed ∷ lines ls)

-- The three documents. Each spells what stands in its column of README.md; a file's mark, its line ends and its blanks after
-- tags are no part of a document.

abbrev of_one_program : Trees
of_one_program = headed
    (has "HEAD" nothing (has "GEDC" nothing (has "VERS" (text "7.0") [] ∷ []) ∷ has "COPR" (text "The Braun family") [] ∷ []))
    ((
      "I1",
      has "INDI" nothing
          (has "NAME" (text "Anna /Weber/") (has "GIVN" (text "Anna") [] ∷ has "SURN" (text "Weber") [] ∷ [])
          ∷ has "SEX" (text "F") []
          ∷ has "BIRT" nothing (has "DATE" (text "3 MAY 1871") [] ∷ has "PLAC" (text "Ulm") [] ∷ [])
          ∷ has "FAMS" (pointer "F1") []
          ∷ []),
    )
    ∷ (
      "I2",
      has "INDI" nothing
          (has "NAME" (text "Karl /Braun/") []
          ∷ has "SEX" (text "M") []
          ∷ has "FAMS" (pointer "F1") []
          ∷ []),
    )
    ∷ (
      "F1",
      has "FAM" nothing
          (has "HUSB" (pointer "I2") []
          ∷ has "WIFE" (pointer "I1") []
          ∷ has "MARR" nothing (has "DATE" (text "BEF 1895") [] ∷ [])
          ∷ has "NOTE" (Text (codes "The register was lost." ∷ codes "A copy is in Stuttgart." ∷ [])) []
          ∷ []),
    )
    ∷ [])

lines_of_one_program : spelled_lines (document_lines of_one_program) ≡ lines (
    "0 HEAD" ∷ "1 GEDC" ∷ "2 VERS 7.0" ∷ "1 COPR The Braun family"
    ∷ "0 @I1@ INDI" ∷ "1 NAME Anna /Weber/" ∷ "2 GIVN Anna" ∷ "2 SURN Weber" ∷ "1 SEX F"
    ∷ "1 BIRT" ∷ "2 DATE 3 MAY 1871" ∷ "2 PLAC Ulm" ∷ "1 FAMS @F1@"
    ∷ "0 @I2@ INDI" ∷ "1 NAME Karl /Braun/" ∷ "1 SEX M" ∷ "1 FAMS @F1@"
    ∷ "0 @F1@ FAM" ∷ "1 HUSB @I2@" ∷ "1 WIFE @I1@" ∷ "1 MARR" ∷ "2 DATE BEF 1895"
    ∷ "1 NOTE The register was lost." ∷ "2 CONT A copy is in Stuttgart."
    ∷ "0 TRLR" ∷ [])
unfolding digits
lines_of_one_program = refl

abbrev of_another_program : Trees
of_another_program = headed
    (has "HEAD" nothing (has "COPR" (text "The Braun family") [] ∷ has "GEDC" nothing (has "VERS" (text "7.0") [] ∷ []) ∷ []))
    ((
      "FAMILY",
      has "FAM" nothing
          (has "MARR" nothing (has "DATE" (text "BEF GREGORIAN 1895") [] ∷ [])
          ∷ has "NOTE" (Text (codes "The register was lost." ∷ codes "A copy is in Stuttgart." ∷ [])) []
          ∷ has "WIFE" (pointer "ANNA") []
          ∷ has "HUSB" (pointer "KARL") []
          ∷ []),
    )
    ∷ (
      "ANNA",
      has "INDI" nothing
          (has "BIRT" nothing (has "PLAC" (text "Ulm") [] ∷ has "DATE" (text "GREGORIAN 3 MAY 1871") [] ∷ [])
          ∷ has "NAME" (text "Anna /Weber/") (has "SURN" (text "Weber") [] ∷ has "GIVN" (text "Anna") [] ∷ [])
          ∷ has "FAMS" (pointer "FAMILY") []
          ∷ has "SEX" (text "F") []
          ∷ []),
    )
    ∷ (
      "KARL",
      has "INDI" nothing
          (has "FAMS" (pointer "FAMILY") []
          ∷ has "NAME" (text "Karl /Braun/") []
          ∷ has "SEX" (text "M") []
          ∷ []),
    )
    ∷ [])

lines_of_another_program : spelled_lines (document_lines of_another_program) ≡ lines (
    "0 HEAD" ∷ "1 COPR The Braun family" ∷ "1 GEDC" ∷ "2 VERS 7.0"
    ∷ "0 @FAMILY@ FAM" ∷ "1 MARR" ∷ "2 DATE BEF GREGORIAN 1895"
    ∷ "1 NOTE The register was lost." ∷ "2 CONT A copy is in Stuttgart." ∷ "1 WIFE @ANNA@" ∷ "1 HUSB @KARL@"
    ∷ "0 @ANNA@ INDI" ∷ "1 BIRT" ∷ "2 PLAC Ulm" ∷ "2 DATE GREGORIAN 3 MAY 1871"
    ∷ "1 NAME Anna /Weber/" ∷ "2 SURN Weber" ∷ "2 GIVN Anna" ∷ "1 FAMS @FAMILY@" ∷ "1 SEX F"
    ∷ "0 @KARL@ INDI" ∷ "1 FAMS @FAMILY@" ∷ "1 NAME Karl /Braun/" ∷ "1 SEX M"
    ∷ "0 TRLR" ∷ [])
unfolding digits
lines_of_another_program = refl

abbrev canonical : Trees
canonical = headed
    (has "HEAD" nothing (has "GEDC" nothing (has "VERS" (text "7.0") [] ∷ []) ∷ has "COPR" (text "The Braun family") [] ∷ []))
    ((
      "X1",
      has "FAM" nothing
          (has "HUSB" (pointer "X3") []
          ∷ has "MARR" nothing (has "DATE" (text "BEF 1895") [] ∷ [])
          ∷ has "NOTE" (Text (codes "The register was lost." ∷ codes "A copy is in Stuttgart." ∷ [])) []
          ∷ has "WIFE" (pointer "X2") []
          ∷ []),
    )
    ∷ (
      "X2",
      has "INDI" nothing
          (has "BIRT" nothing (has "DATE" (text "3 MAY 1871") [] ∷ has "PLAC" (text "Ulm") [] ∷ [])
          ∷ has "FAMS" (pointer "X1") []
          ∷ has "NAME" (text "Anna /Weber/") (has "GIVN" (text "Anna") [] ∷ has "SURN" (text "Weber") [] ∷ [])
          ∷ has "SEX" (text "F") []
          ∷ []),
    )
    ∷ (
      "X3",
      has "INDI" nothing
          (has "FAMS" (pointer "X1") []
          ∷ has "NAME" (text "Karl /Braun/") []
          ∷ has "SEX" (text "M") []
          ∷ []),
    )
    ∷ [])

lines_of_canonical : spelled_lines (document_lines canonical) ≡ lines (
    "0 HEAD" ∷ "1 GEDC" ∷ "2 VERS 7.0" ∷ "1 COPR The Braun family"
    ∷ "0 @X1@ FAM" ∷ "1 HUSB @X3@" ∷ "1 MARR" ∷ "2 DATE BEF 1895"
    ∷ "1 NOTE The register was lost." ∷ "2 CONT A copy is in Stuttgart." ∷ "1 WIFE @X2@"
    ∷ "0 @X2@ INDI" ∷ "1 BIRT" ∷ "2 DATE 3 MAY 1871" ∷ "2 PLAC Ulm" ∷ "1 FAMS @X1@"
    ∷ "1 NAME Anna /Weber/" ∷ "2 GIVN Anna" ∷ "2 SURN Weber" ∷ "1 SEX F"
    ∷ "0 @X3@ INDI" ∷ "1 FAMS @X1@" ∷ "1 NAME Karl /Braun/" ∷ "1 SEX M"
    ∷ "0 TRLR" ∷ [])
unfolding digits
lines_of_canonical = refl

-- Identifiers.

-- the identifiers of the one program, each with the other's, and each with the one that it has in the canonical file
abbrev others_names : List (Bytes × Bytes)
others_names = (codes "I1", codes "ANNA") ∷ (codes "I2", codes "KARL") ∷ (codes "F1", codes "FAMILY") ∷ []

abbrev numbers : List (Bytes × Bytes)
numbers = (codes "I1", codes "X2") ∷ (codes "I2", codes "X3") ∷ (codes "F1", codes "X1") ∷ []

to_others_names : Renamed of_one_program (renamed (new_name others_names) of_one_program)
to_others_names = record {
  pairs = others_names;
  olds_are_xrefs = refl;
  olds_distinct = three_distinct refl refl refl;
  news_distinct = three_distinct refl refl refl;
  no_other_names_a_new = λ name h k. absurd (unnamed of_one_program (news others_names) refl name h k);
  all_at_once = refl;
}

to_numbers : Renamed of_one_program (renamed (new_name numbers) of_one_program)
to_numbers = record {
  pairs = numbers;
  olds_are_xrefs = refl;
  olds_distinct = three_distinct refl refl refl;
  news_distinct = three_distinct refl refl refl;
  no_other_names_a_new = λ name h k. absurd (unnamed of_one_program (news numbers) refl name h k);
  all_at_once = refl;
}

-- Dates: both texts are of the kind that the tables ask for there, and one word GREGORIAN is left out.

abbrev date : Option Bytes → Option Bytes → Bytes → DateParts
date day month year = record { calendar = gregorian; day = day; month = month; year = year; epoch = None }

abbrev below_marriage : Context
below_marriage = context_below (context_below File (codes "FAM")) (codes "MARR")

marriage_date : Respelt First (row below_marriage (codes "DATE")) (text "BEF GREGORIAN 1895") (text "BEF 1895")
unfolding row rows
marriage_date =
    let parts : DateParts = date None None (codes "1895") in
    respelt (codes "BEF GREGORIAN 1895") (codes "BEF 1895")
    (calendar refl (codes "BEF" ∷ [], codes "1895" ∷ [], refl, refl))
    (before parts, (words_of (codes "BEF GREGORIAN 1895"), (words_of (codes "GREGORIAN 1895"), (refl, inl refl), refl), refl))
    (before parts, (words_of (codes "BEF 1895"), (words_of (codes "1895"), (refl, inr (refl, refl)), refl), refl))

abbrev below_birth : Context
below_birth = context_below (context_below File (codes "INDI")) (codes "BIRT")

birth_date : Respelt First (row below_birth (codes "DATE")) (text "GREGORIAN 3 MAY 1871") (text "3 MAY 1871")
unfolding row rows
birth_date =
    let parts : DateParts = date (Some (codes "3")) (Some (codes "MAY")) (codes "1871") in
    respelt (codes "GREGORIAN 3 MAY 1871") (codes "3 MAY 1871")
    (calendar refl ([], words_of (codes "3 MAY 1871"), refl, refl))
    (plain parts, (words_of (codes "GREGORIAN 3 MAY 1871"), (refl, inl refl), refl))
    (plain parts, (words_of (codes "3 MAY 1871"), (refl, inr (refl, refl)), refl))

-- a DATE gets the longer text
dated : {context : Context} {longer shorter : Payload} {next : Trees} → Respelt First (row context (codes "DATE")) longer shorter → Change First context (tree (structure_of None (has "DATE" shorter [])) none next) (tree (structure_of None (has "DATE" longer [])) none next)
dated {context} {longer} {shorter} {next} h = put_in (structure_of None (has "DATE" nothing [])) longer shorter none next h

-- The one file becomes the other by 18 steps, of which each comment says what it does.
same_family : Equivalent First of_one_program of_another_program
unfolding is_utf8 chars lib.Utf8.encode
same_family =
    -- I1, I2 and F1 get the names ANNA, KARL and FAMILY, and the pointers with them
    record { from = refl; to = refl; move = rename to_others_names }
    -- below HEAD, GEDC and COPR change places
    ⨟ step (below (here (swap refl))) refl refl
    -- the record FAM and that of Karl before it change places
    ⨟ step (behind (behind (here (swap refl)))) refl refl
    -- FAM and the record of Anna: FAM is the first record now
    ⨟ step (behind (here (swap refl))) refl refl
    -- below FAM, HUSB and WIFE: WIFE HUSB MARR NOTE
    ⨟ step (behind (below (here (swap refl)))) refl refl
    -- HUSB and MARR: WIFE MARR HUSB NOTE
    ⨟ step (behind (below (behind (here (swap refl))))) refl refl
    -- WIFE and MARR: MARR WIFE HUSB NOTE
    ⨟ step (behind (below (here (swap refl)))) refl refl
    -- HUSB and NOTE: MARR WIFE NOTE HUSB
    ⨟ step (behind (below (behind (behind (here (swap refl)))))) refl refl
    -- WIFE and NOTE: MARR NOTE WIFE HUSB
    ⨟ step (behind (below (behind (here (swap refl))))) refl refl
    -- below MARR, the word GREGORIAN is put into DATE
    ⨟ step (behind (below (below (here (dated marriage_date))))) refl refl
    -- below Anna's INDI, SEX and BIRT: NAME BIRT SEX FAMS
    ⨟ step (behind (behind (below (behind (here (swap refl)))))) refl refl
    -- NAME and BIRT: BIRT NAME SEX FAMS
    ⨟ step (behind (behind (below (here (swap refl))))) refl refl
    -- SEX and FAMS: BIRT NAME FAMS SEX
    ⨟ step (behind (behind (below (behind (behind (here (swap refl))))))) refl refl
    -- below BIRT, the word GREGORIAN is put into DATE
    ⨟ step (behind (behind (below (below (here (dated birth_date)))))) refl refl
    -- DATE and PLAC change places
    ⨟ step (behind (behind (below (below (here (swap refl)))))) refl refl
    -- below NAME, GIVN and SURN change places
    ⨟ step (behind (behind (below (behind (below (here (swap refl))))))) refl refl
    -- below Karl's INDI, SEX and FAMS: NAME FAMS SEX
    ⨟ step (behind (behind (behind (below (behind (here (swap refl))))))) refl refl
    -- NAME and FAMS: FAMS NAME SEX
    ⨟ step (behind (behind (behind (below (here (swap refl)))))) refl refl
    ⨟ done

-- The normal form.

-- The one file becomes the canonical one by 11 steps.
one_to_canonical : Equivalent First of_one_program canonical
unfolding is_utf8 chars lib.Utf8.encode
one_to_canonical =
    -- I1, I2 and F1 get the names X2, X3 and X1, and the pointers with them
    record { from = refl; to = refl; move = rename to_numbers }
    -- the record FAM and that of Karl before it change places
    ⨟ step (behind (behind (here (swap refl)))) refl refl
    -- FAM and the record of Anna: FAM is the first record now
    ⨟ step (behind (here (swap refl))) refl refl
    -- below FAM, WIFE and MARR: HUSB MARR WIFE NOTE
    ⨟ step (behind (below (behind (here (swap refl))))) refl refl
    -- WIFE and NOTE: HUSB MARR NOTE WIFE
    ⨟ step (behind (below (behind (behind (here (swap refl)))))) refl refl
    -- below Anna's INDI, SEX and BIRT: NAME BIRT SEX FAMS
    ⨟ step (behind (behind (below (behind (here (swap refl)))))) refl refl
    -- NAME and BIRT: BIRT NAME SEX FAMS
    ⨟ step (behind (behind (below (here (swap refl))))) refl refl
    -- SEX and FAMS: BIRT NAME FAMS SEX
    ⨟ step (behind (behind (below (behind (behind (here (swap refl))))))) refl refl
    -- NAME and FAMS: BIRT FAMS NAME SEX
    ⨟ step (behind (behind (below (behind (here (swap refl)))))) refl refl
    -- below Karl's INDI, SEX and FAMS: NAME FAMS SEX
    ⨟ step (behind (behind (behind (below (behind (here (swap refl))))))) refl refl
    -- NAME and FAMS: FAMS NAME SEX
    ⨟ step (behind (behind (behind (below (here (swap refl)))))) refl refl
    ⨟ done

-- tags are in order at every place, no date names the default calendar, and the identifiers are X1, X2, X3, each named
canonical_is_normal : Normal First canonical
unfolding row rows falls
canonical_is_normal = record {
  places = normal File canonical refl;
  records_in_order = in_order (records_of canonical) refl;
  xrefs_numbered = (refl, (refl, (refl, tt)));
  xrefs_used = used;
}
  where
    used : (name : Bytes) → IsAmong name (codes "X1" ∷ codes "X2" ∷ codes "X3" ∷ []) → IsNamed canonical name
    used name (inl e) = subst (IsNamed canonical) (sym e) (is_named-from canonical (codes "X1") refl)
    used name (inr (inl e)) = subst (IsNamed canonical) (sym e) (is_named-from canonical (codes "X2") refl)
    used name (inr (inr (inl e))) = subst (IsNamed canonical) (sym e) (is_named-from canonical (codes "X3") refl)
    used name (inr (inr (inr h))) = absurd h

normal_form_of_one : IsNormalForm First of_one_program canonical
normal_form_of_one = record { equivalent = one_to_canonical; normal = canonical_is_normal }

-- steps can be undone: from the other file back to the one, and on to the canonical one
normal_form_of_another : IsNormalForm First of_another_program canonical
normal_form_of_another = record { equivalent = both (back (step_back First) same_family) one_to_canonical; normal = canonical_is_normal }
