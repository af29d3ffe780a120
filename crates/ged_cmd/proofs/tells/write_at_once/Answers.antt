use Rattle.std.proofs.Common.{List, ℕ, ◌++◌, ap, ◌∙◌}
use Rattle.std.proofs.lemmas.Fmt.{contents_after_writes}
use Rattle.ged_cmd.proofs.ToldLemmas.{if_some, printed}
use Rattle.ged_cmd.proofs.tells.write_at_once.Goals as goal

pub returns-in-Ok : goal.returns-in-Ok
returns-in-Ok g c = if_some (g.D.Display.output c.args.text.now) _ _ (λ bytes k.
    let is = c.as_str.ensures.value ∙ contents_after_writes _ (λ w. w.bytes) (λ w l v t. t) _ bytes _ k ∙ ap (λ (l : List ℕ). l ++ bytes) c.requires in
    printed c.args.errors.now.failed c.print.new.self.failed c.print.result _ _ c.as_str.result.now bytes c.print.ensures.failure c.print.ensures.bytes is) c.in-Ok.ensures.writes
