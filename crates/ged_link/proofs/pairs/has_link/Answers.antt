use Rattle.std.proofs.Common.{◌∙◌, rules}
use Rattle.std.proofs.lemmas.List.Sorted.{answers_always}
use Rattle.ged_link.proofs.PairLemmas.{searched_pair}
use Rattle.ged_link.proofs.pairs.has_link.Goals as goal

-- the closure gives a pair as it is
pub returns : goal.returns
returns c =
    let facts = c.binary_search_by_key.ensures in
    let by_key = facts.position (λ pair. pair) (answers_always _ _ _ (λ f a r g called. search rules)) in
    c.is_ok.ensures.value ∙ searched_pair c.args.pairs.now c.args.from c.args.to c.binary_search_by_key.result c.requires facts.bound by_key
