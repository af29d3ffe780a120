-- What goes to a writer through a buffer.
use Rattle.std.specs.Prelude.{◌≡◌, ℕ, List, ◌++◌, Option}
use Rattle.std.specs.Io.{StartsWith}
use Rattle.std.specs.Io.KnownBytes.{Appends}

-- of what the buffer held and the text behind it the writer took the front, and the buffer holds the rest
pub record GoesThrough (taken holds : Option (List ℕ)) (before after text : List ℕ) : Type 0 where
  pub written : List ℕ
  pub took : Appends taken holds written
  pub split : before ++ text ≡ written ++ after

-- the writer stopped, and took a front of what the buffer held and the text behind it
pub record StopsWithin (taken holds : Option (List ℕ)) (before text : List ℕ) : Type 0 where
  pub written : List ℕ
  pub took : Appends taken holds written
  pub front : StartsWith (before ++ text) written
