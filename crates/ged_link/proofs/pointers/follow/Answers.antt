use Rattle.std.proofs.Common.{◌≡◌, ◌<◌, ◌+◌, Some, inr, None, sym, ap, ◌∙◌, arith, option_map, length, true, subst}
use Rattle.std.proofs.Math.ListN.{length-set}
use Rattle.ged_tree.specs.Places.{structure_at}
use Rattle.ged_link.specs.declared.index.RecordPlace.{RecordPlace}
use Rattle.ged_link.specs.declared.pointers.Pointed.{Pointed}
use Rattle.ged_link.specs.Indexes.{found_in, number_in, place_in}
use Rattle.ged_link.specs.inner.LinkWalks.{target}
use Rattle.ged_link.specs.inner.PointerLists.{pointers_from, IsPointerList}
use Rattle.ged_link.proofs.UseLemmas.{used_more, dangles_more, first_dangling, number_inside}
use Rattle.ged_link.proofs.LedLemmas.{led_here, tells_more}
use Rattle.ged_link.proofs.PointerLemmas.{from_pointer, name_of}
use Rattle.ged_link.proofs.pointers.follow.Goals as goal

pub look_up-requires-clause-listed : goal.look_up-requires-clause-listed
look_up-requires-clause-listed g c name here =
    let w = g.F.Forest.trees c.args.forest.now in
    let p = c.args.place in
    (c.take_next-listed.ensures w (structure_at w p).tag name (pointers_from w (p + 1))
    (subst (λ left. IsPointerList w left c.args.followed.now.list) (from_pointer w p name c.requires.within here) c.requires.used.list)).0

pub returns-in_default-clause-fault : goal.returns-in_default-clause-fault
returns-in_default-clause-fault g c =
    let w = g.F.Forest.trees c.args.forest.now in
    let records = c.args.records.now.names.now in
    let (name, here) = name_of (structure_at w c.args.place).payload c.requires.pointer in
    let found : None ≡ found_in records name = sym (ap (option_map (λ (pointed : Pointed). pointed.to)) c.in_default.is) ∙ (c.look_up.ensures name here).0 in
    let missing : number_in records name ≡ None = ap (option_map (λ (r : RecordPlace). r.number)) (sym found) in
    inr (c.requires.distinct, (c.args.place, first_dangling w c.args.place c.requires.within records name c.requires.records.named here missing c.requires.used.found, c.line.ensures))

pub index_mut-requires : goal.index_mut-requires
index_mut-requires g c =
    let w = g.F.Forest.trees c.args.forest.now in
    let records = c.args.records.now.names.now in
    let (name, here) = name_of (structure_at w c.args.place).payload c.requires.pointer in
    let found : Some c.in-Some.pointed.to ≡ found_in records name = sym (ap (option_map (λ (pointed : Pointed). pointed.to)) c.in-Some.is) ∙ (c.look_up.ensures name here).0 in
    let named : number_in records name ≡ Some c.in-Some.pointed.to.number = ap (option_map (λ (r : RecordPlace). r.number)) (sym found) in
    omega (arith, number_inside w records name c.in-Some.pointed.to.number c.requires.records.named named, c.requires.used.long)

pub put_target-requires : goal.put_target-requires
put_target-requires g c =
    let w = g.F.Forest.trees c.args.forest.now in
    let p = c.args.place in
    let (name, here) = name_of (structure_at w p).payload c.requires.pointer in
    (c.take_next-listed.ensures w (structure_at w p).tag name (pointers_from w (p + 1))
    (subst (λ left. IsPointerList w left c.args.followed.now.list) (from_pointer w p name c.requires.within here) c.requires.used.list)).1.0

pub returns-clause-used : goal.returns-clause-used
returns-clause-used g c =
    let w = g.F.Forest.trees c.args.forest.now in
    let p = c.args.place in
    let records = c.args.records.now.names.now in
    let used = c.args.followed.now.used.items in
    let number = c.in-Some.pointed.to.number in
    let s = structure_at w p in
    let (name, here) = name_of s.payload c.requires.pointer in
    let looked = c.look_up.ensures name here in
    let found : found_in records name ≡ Some c.in-Some.pointed.to = sym looked.0 ∙ ap (option_map (λ (pointed : Pointed). pointed.to)) c.in-Some.is in
    let named : number_in records name ≡ Some number = ap (option_map (λ (r : RecordPlace). r.number)) found in
    let inside : number < length used = omega (arith, number_inside w records name number c.requires.records.named named, c.requires.used.long) in
    let taken = (c.take_next-listed.ensures w s.tag name (pointers_from w (p + 1))
    (subst (λ left. IsPointerList w left c.args.followed.now.list) (from_pointer w p name c.requires.within here) c.requires.used.list)).1.1 in
    let told = rw c.in-Some.is at looked.1 in
    record {
      long = length-set used number true ∙ c.requires.used.long;
      marked = used_more w p c.requires.within records name c.requires.records.named here used number named inside c.requires.used.marked;
      list = c.in-Ok.ensures.told w (pointers_from w (p + 1)) (name, here, (c.requires.records.named.numbered name number).0 named) taken;
      found = dangles_more w p c.requires.within records name c.requires.records.named here number named c.requires.used.found;
      led = tells_more w p c.args.followed.now.led c.leads_as_tagged.result c.requires.used.led
          (led_here w c.args.records.now s.tag name c.in-Some.pointed.to c.requires.records found c.leads_as_tagged.result _ here (c.leads_as_tagged.ensures s.tag told));
    }

pub returns-clause-tag : goal.returns-clause-tag
returns-clause-tag g c =
    let w = g.F.Forest.trees c.args.forest.now in
    let (name, here) = name_of (structure_at w c.args.place).payload c.requires.pointer in
    rw c.in-Some.is at (c.look_up.ensures name here).1

pub returns-clause-target : goal.returns-clause-target
returns-clause-target g c =
    let w = g.F.Forest.trees c.args.forest.now in
    let find = place_in c.args.records.now.names.now in
    let (name, here) = name_of (structure_at w c.args.place).payload c.requires.pointer in
    let found : Some c.in-Some.pointed.to ≡ found_in c.args.records.now.names.now name = sym (ap (option_map (λ (pointed : Pointed). pointed.to)) c.in-Some.is) ∙ (c.look_up.ensures name here).0 in
    ap (target find) here ∙ sym (ap (option_map (λ (r : RecordPlace). r.place)) found)
