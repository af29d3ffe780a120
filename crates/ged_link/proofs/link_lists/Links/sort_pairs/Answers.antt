use Rattle.std.proofs.Common.{◌≡◌, length, sym, subst, ◌∙◌, ap, arith, List, ℕ, take, drop, ◌++◌}
use Rattle.std.proofs.lemmas.List.Sorted.{list_any-IsPermutation, length_permutation}
use Rattle.ged_link.specs.inner.LinkWalks.{pair_eq}
use Rattle.ged_link.specs.inner.PairSets.{is_listed, IsInOrder}
use Rattle.ged_link.proofs.PairLemmas.{put_back}
use Rattle.ged_link.proofs.link_lists.Links.sort_pairs.Goals as goal

-- the vector holds what the slice held after the sort
kept : (c : goal.After-self-1) → take c.args.self.now.pairs.len (c.sort_links.new.pairs ++ drop (length c.sort_links.new.pairs) c.args.self.now.pairs.items) ≡ c.sort_links.new.pairs
kept c =
    let old : List (ℕ × ℕ) = c.args.self.now.pairs.items in
    let long = length_permutation _ _ c.sort_links.ensures.permutation in
    put_back old c.sort_links.new.pairs c.args.self.now.pairs.len (long ∙ ap (λ (l : List (ℕ × ℕ)). length l) c.deref_mut.ensures.value) (omega (arith, c.args.self.now.pairs.ok))

pub returns-clause-ordered : goal.returns-clause-ordered
returns-clause-ordered c = subst IsInOrder (sym (kept c)) c.sort_links.ensures.ordered

pub returns-clause-kept : goal.returns-clause-kept
returns-clause-kept c = λ pair.
    ap (λ (links : List (ℕ × ℕ)). is_listed links pair) (kept c)
    ∙ sym (list_any-IsPermutation (pair_eq pair) _ _ c.sort_links.ensures.permutation)
    ∙ ap (λ (links : List (ℕ × ℕ)). is_listed links pair) c.deref_mut.ensures.value
