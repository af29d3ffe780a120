-- Laws of the texts of a kind, each the contract of a public function. `IsText parts text` says that the text spells
-- the parts, as `DateValueText`, `PeriodText` and `AgeText` do.
use Rattle.std.specs.Prelude.{◌≡◌, IsTrue, List, ◌∷◌, ◌++◌}
use Rattle.ged_value.specs.Words.{Bytes, words_of, joined}
use Rattle.ged_value.specs.Dates.{DateParts, gregorian, is_date, date_words}
use Rattle.ged_value.specs.Values.{plain, DateValueText}
use Rattle.ged_value.specs.Default.{default_word, without_default, TextLeavesOut}

-- a text spells the parts of one value at most
abbrev pub OneReading : {Parts : Type 0} → (Parts → Bytes → Type 0) → Type 0
OneReading {Parts} IsText =
    (text : Bytes) (parts others : Parts) → IsText parts text → IsText others text → parts ≡ others

-- a date under the Gregorian calendar has two texts, with its word and without
abbrev pub TwoTexts : Type 0
TwoTexts = (date : DateParts) → IsTrue (is_date date) → date.calendar ≡ gregorian
    → DateValueText (plain date) (joined (default_word ∷ date_words date))
    × DateValueText (plain date) (joined (date_words date))

-- a word of the text is GREGORIAN
abbrev pub HasDefault : Bytes → Type 0
HasDefault text = (front back : List Bytes) × (words_of text ≡ front ++ (default_word ∷ back))

-- a text without the word is what its words but GREGORIAN make
abbrev pub NothingLeftOut : Type 0
NothingLeftOut = (text : Bytes) → ¬ (HasDefault text) → joined (without_default text) ≡ text

-- What becomes of the texts of a kind when the word GREGORIAN is left out.
pub record LeavingOut {Parts : Type 0} (IsText : Parts → Bytes → Type 0) : Type 0 where
  -- the word alone is no text of the kind
  pub never_alone : (parts : Parts) → ¬ (IsText parts default_word)
  -- where a text of the kind has the word, its other words make a text of just these words, which is of the kind with
  -- the same parts
  pub one_left_out : (text : Bytes) (parts : Parts) (front back : List Bytes) → IsText parts text
      → words_of text ≡ front ++ (default_word ∷ back)
      → (words_of (joined (front ++ back)) ≡ front ++ back) × IsText parts (joined (front ++ back))
  -- a text of the kind from which one word is left out stays of the kind, with the same parts
  pub left_out : (longer shorter : Bytes) (parts : Parts) → TextLeavesOut longer shorter
      → IsText parts longer → IsText parts shorter
  -- and one into which one is put keeps its parts, if it stays of the kind
  pub put_in : (longer shorter : Bytes) (parts others : Parts) → TextLeavesOut longer shorter
      → IsText parts shorter → IsText others longer → parts ≡ others
  -- with all of them left out the other words make a text of just these words, which is of the kind with the same parts
  pub all_left_out : (text : Bytes) (parts : Parts) → IsText parts text
      → (words_of (joined (without_default text)) ≡ without_default text)
      × IsText parts (joined (without_default text))
  -- and it has no word GREGORIAN
  pub none_is_left : (text : Bytes) (parts : Parts) → IsText parts text
      → ¬ (HasDefault (joined (without_default text)))
