use Rattle.std.proofs.Common.{◌≡◌, ◌≤◌, ◌+◌, ◌∷◌, ◌++◌, [], length, arith, subst, sym, List, ap, ◌∙◌, inl, inr}
use Rattle.std.proofs.lemmas.List.{drop-set-lt, length-append}
use Rattle.std.proofs.Math.ListN.{length-set}
use Rattle.ged_link.specs.Targets.{PointsAt}
use Rattle.ged_link.specs.declared.targets.Target.{Target}
use Rattle.ged_link.specs.inner.PointerLists.{AreListedFirst, AreTargetsBefore}
use Rattle.ged_link.proofs.PointerLemmas.{told_set, told_pushed, none_listed}
use Rattle.ged_link.proofs.pointer_list.PointerList.put_target.Goals as goal

pub returns-then-self-clause-told : goal.returns-then-self-clause-told
returns-then-self-clause-told c d left points is =
    let new : Target = c.in-Some.target in
    let list = c.args.self.now in
    let (place, number) = c.in-Some.ensures.told in
    let points_new : PointsAt d new.place new.number = rw (place, number) points in
    record {
      forth = omega (arith, c.if-self.true);
      within = subst (λ n. list.read ≤ n) (sym (length-set list.targets.items list.written new)) is.within;
      told = told_set d list.targets.items new points_new list.written is.told;
      listed = subst (λ (ts : List Target). AreListedFirst ts left) (sym (drop-set-lt list.read list.targets.items list.written new c.if-self.true)) is.listed;
    }

pub returns-clause-told : goal.returns-clause-told
returns-clause-told c d left points is =
    let new : Target = c.in-Some.target in
    let list = c.args.self.now in
    let items : c.push.new.self.items ≡ list.targets.items ++ new ∷ [] = c.in_ok-push.ensures.items in
    let long : length c.push.new.self.items ≡ length list.targets.items + 1 = ap length items ∙ length-append list.targets.items (new ∷ []) in
    let (place, number) = c.in-Some.ensures.told in
    let points_new : PointsAt d new.place new.number = rw (place, number) points in
    let ended : list.written ≡ length list.targets.items = elim c.requires.room [
      | inl before ↦ absurd (omega (arith, c.if-self.false, before))
      | inr ended ↦ ended.0 ∙ ended.1
    ] in
    record {
      forth = omega (arith, is.forth);
      within = omega (arith, long, is.within);
      told = subst (AreTargetsBefore d (list.written + 1)) (sym items) (told_pushed d list.targets.items new points_new list.written ended is.told);
      listed = none_listed c.push.new.self.items (list.read + 1) left (omega (arith, long, is.forth, ended));
    }
