use Rattle.std.proofs.Common.{◌≡◌, ◌≢◌, ◌++◌, Option, Some, None}
use Rattle.std.specs.Prelude.{MatchOption}
use Rattle.std.specs.Option.{IfSome}
use Rattle.std.specs.Borrow.{Bor}
use Rattle.std.proofs.lemmas.Bool.Decides.{Decides-eqb}
use Rattle.std.proofs.lemmas.Slice.Eq.{strip_prefix_is}
use Rattle.ged_value.specs.Words.{Bytes}
use Rattle.ged_value.proofs.quick.behind.Goals as goal

one_side : (bytes word : Bytes) (r : Option (Bor Bytes)) → MatchOption r ((rest : Bytes) → bytes ≢ word ++ rest) (λ others. bytes ≡ word ++ others.now) → IfSome r (λ others. bytes ≡ word ++ others.now)
one_side bytes word None m = tt
one_side bytes word (Some others) m = m

pub returns : goal.returns
returns c = one_side c.args.bytes.now c.args.word.now c.strip_prefix.result (strip_prefix_is Decides-eqb c.args.bytes.now c.args.word.now c.strip_prefix.result c.strip_prefix.ensures.cases)
