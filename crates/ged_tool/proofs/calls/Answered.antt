-- Answers that say more than is asked.
use Rattle.std.specs.Prelude.{Result, Ok, Err, IfOk, MatchResult}

module _ {T E : Type 0} where
  -- what is known of an answer, of a result that is an answer or an error
  pub answered : (Is Has : T → Type 0) (Told : E → Type 0) (result : Result T E) → MatchResult result Is Told → ((answer : T) → Is answer → Has answer)
      → IfOk result Has
  answered Is Has Told (Ok answer) told more = more answer told
  answered Is Has Told (Err error) told more = tt
