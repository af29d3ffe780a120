use Rattle.std.proofs.Common.{ap, ◌∙◌, List, ℕ}
use Rattle.std.specs.Prelude.{fold}
use Rattle.std.specs.Hash.DefaultHasher.{initial, finish}
use Rattle.ged_link.specs.inner.Keys.{fed_number}
use Rattle.ged_link.proofs.KeyLemmas.{fed_all}
use Rattle.ged_link.proofs.keys.numbers_key.Goals as goal

pub returns : goal.returns
returns c names e =
    c.hash_numbers.ensures ∙ ap (λ (halves : List (ℕ × ℕ)). finish (fold fed_number initial halves)) c.deref.ensures.value ∙ ap finish (fed_all c.args.list.now names e)
