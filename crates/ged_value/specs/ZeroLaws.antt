-- Laws of leading zeros, each the contract of a public function. `IsText parts text` says that the text spells the parts, as
-- `DateValueText`, `ExactText` and `AgeText` do.
use Rattle.std.specs.Prelude.{◌≡◌, ℕ, true, false, List, ◌++◌, ◌⊎◌, map, replicate}
use Rattle.std.specs.List.{All}
use Rattle.ged_value.specs.Words.{Bytes, is_integer, number, words_of, joined}
use Rattle.ged_value.specs.Zeros.{begins_with_digit, has_leading_zero, trim_zeros, digit_words, trimmed_words, LeavesOutZero}

-- What is left of a word without its leading zeros.
pub record Trimming (word : Bytes) : Type 0 where
  -- what goes is zeros at the front
  pub only_zeros_go : (count : ℕ) × (word ≡ replicate count 0x30 ++ trim_zeros word)
  -- a digit stands at the front of what is left, unless nothing goes
  pub a_digit_is_left : (trim_zeros word ≡ word) ⊎ (begins_with_digit (trim_zeros word) ≡ true)
  -- no leading zero is left
  pub none_is_left : has_leading_zero (trim_zeros word) ≡ false
  -- a word without one stays
  pub trimmed_stays : has_leading_zero word ≡ false → trim_zeros word ≡ word
  -- and so does a word that begins with no digit
  pub others_stay : begins_with_digit word ≡ false → trim_zeros word ≡ word
  -- twice is once
  pub twice_is_once : trim_zeros (trim_zeros word) ≡ trim_zeros word
  -- an Integer stays an Integer, and the same number
  pub number_stays : is_integer word ≡ true → (is_integer (trim_zeros word) ≡ true) × (number (trim_zeros word) ≡ number word)

-- What becomes of the texts of a kind when leading zeros are left out. `integers` lists the words of the Integers
-- among the parts, in an age each with its letter, and `trimmed` leaves the leading zeros of each of them out.
pub record LeavingOutZeros {Parts : Type 0} (IsText : Parts → Bytes → Type 0) (integers : Parts → List Bytes) (trimmed : Parts → Parts) : Type 0 where
  -- the words of a text that begin with a digit are its Integers, in order
  pub digit_words_are_integers : (text : Bytes) (parts : Parts) → IsText parts text → digit_words text ≡ integers parts
  -- the Integers of the trimmed parts are the Integers, each without its leading zeros
  pub integers_are_trimmed : (text : Bytes) (parts : Parts) → IsText parts text → integers (trimmed parts) ≡ map trim_zeros (integers parts)
  -- where a word of a text of the kind has a leading zero, there is a text of the words without it, and that is of the kind
  pub one_left_out : (text : Bytes) (parts : Parts) (fewer : List Bytes) → IsText parts text → LeavesOutZero (words_of text) fewer
      → (words_of (joined fewer) ≡ fewer) × ((others : Parts) × IsText others (joined fewer))
  -- a text of the kind keeps its parts but for leading zeros when one is left out, and when one is put in, if it stays of the kind
  pub keeps_parts : (longer shorter : Bytes) (parts others : Parts) → LeavesOutZero (words_of longer) (words_of shorter)
      → IsText parts longer → IsText others shorter → trimmed parts ≡ trimmed others
  -- with all of them left out there is a text of the trimmed words, which is of the kind with the trimmed parts
  pub all_left_out : (text : Bytes) (parts : Parts) → IsText parts text
      → (words_of (joined (trimmed_words text)) ≡ trimmed_words text) × IsText (trimmed parts) (joined (trimmed_words text))
  -- and no word of it has a leading zero
  pub none_is_left : (text : Bytes) (parts : Parts) → IsText parts text
      → All (λ word. has_leading_zero word ≡ false) (words_of (joined (trimmed_words text)))
