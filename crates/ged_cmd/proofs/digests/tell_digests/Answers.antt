use Rattle.std.proofs.Common.{Bor, [], ap, arith, refl, rules, sym, subst, take, ◌≡◌, ◌∙◌, ◌+◌, false}
use Rattle.std.proofs.KnownBytes.{Keeps-refl, Keeps-trans}
use Rattle.clap.specs.Words.{Text}
use Rattle.ged_cmd.specs.Program.{at_first}
use Rattle.ged_cmd.specs.Streams.{reader}
use Rattle.ged_cmd.specs.inner.Calling.{opening_all}
use Rattle.ged_cmd.specs.inner.Tasks.{names_of}
use Rattle.ged_cmd.proofs.DigestLemmas.{all_done, all_names, all_told, one_more, still_unread, unread_before, whole_told}
use Rattle.ged_cmd.proofs.ShelfLemmas.{none_called, one_called, one_opened}
use Rattle.ged_cmd.proofs.digests.tell_digests.Goals as goal

abbrev no_name : Bor Text
no_name = record { ref_ptr = (0, 0); now = [] }

pub loop-name-init : goal.loop-name-init
loop-name-init g c = record {
  same = refl;
  called = none_called (g.S.Shelf.calls c.args.shelf.now);
  told = at_first (refl, c.requires.no_failure.0) (refl, c.requires.no_failure.1);
  sound = c.requires.no_failure.1;
  unread = λ none. (c.requires.unread, c.requires.no_failure.0);
  quiet = λ done. Keeps-refl (g.E.Write.contents c.args.errors.now.device);
}

pub tell_digest-told-requires-clause-unread : goal.tell_digest-told-requires-clause-unread
tell_digest-told-requires-clause-unread g c =
    λ is. c.loop-name.invariant.unread (unread_before c.args.digests.files.now c.loop-name.name-index no_name c.loop-name-test.true c.requires.once is)

pub returns-then-failed-clause-told : goal.returns-then-failed-clause-told
returns-then-failed-clause-told g c =
    let given = c.args.digests.files.now in
    let i = c.loop-name.name-index in
    let digest = c.tell_digest-told in
    let named = rw c.loop-name.invariant.same at digest.ensures.named in (
      opening_all (take (i + 1) (names_of given)),
      one_called (g.S.Shelf.calls c.args.shelf.now) (g.S.Shelf.calls c.loop-name.shelf) (g.S.Shelf.calls digest.new.shelf) given i no_name
          c.loop-name-test.true c.loop-name.invariant.called digest.ensures.called,
      all_told (g.S.Shelf.files (g.S.Shelf.stock c.args.shelf.now)) g.S.Device.Source.to_come g.S.Device.Source.failed _ _ _ (i + 1) _ _ _ _
          (one_more (g.S.Shelf.files (g.S.Shelf.stock c.args.shelf.now)) g.S.Device.Source.to_come g.S.Device.Source.failed _ _ given i no_name c.loop-name-test.true
          (reader g.R.Source.to_come g.R.Source.failed c.args.input.now c.loop-name.input)
          (reader g.R.Source.to_come g.R.Source.failed c.loop-name.input digest.new.input)
          _ _ _ _ _ c.loop-name.gravest digest.result.outcome c.graver-gravest.result c.loop-name.invariant.told (c.loop-name.invariant.sound, refl)
          (one_opened given i no_name c.loop-name-test.true)
          (λ is. (ap (λ (device : g.row.R.Denot). reader g.R.Source.to_come g.R.Source.failed c.args.input.now device) (named is).0, (named is).1))
          (λ is. (((c.loop-name.invariant.unread (unread_before given i no_name c.loop-name-test.true c.requires.once is)).1, refl), refl, digest.ensures.input is))
          c.graver-gravest.ensures) (search rules),
    )

pub loop-name-preserved : goal.loop-name-preserved
loop-name-preserved g c =
    let given = c.args.digests.files.now in
    let i = c.loop-name.name-index in
    let digest = c.tell_digest-told in
    let named = rw c.loop-name.invariant.same at digest.ensures.named in
    record {
      same = digest.ensures.same ∙ c.loop-name.invariant.same;
      called =
          one_called (g.S.Shelf.calls c.args.shelf.now) (g.S.Shelf.calls c.loop-name.shelf) (g.S.Shelf.calls digest.new.shelf) given i no_name
          c.loop-name-test.true c.loop-name.invariant.called digest.ensures.called;
      told =
          one_more (g.S.Shelf.files (g.S.Shelf.stock c.args.shelf.now)) g.S.Device.Source.to_come g.S.Device.Source.failed _ _ given i no_name c.loop-name-test.true
          (reader g.R.Source.to_come g.R.Source.failed c.args.input.now c.loop-name.input)
          (reader g.R.Source.to_come g.R.Source.failed c.loop-name.input digest.new.input)
          _ _ _ _ _ c.loop-name.gravest digest.result.outcome c.graver-gravest.result c.loop-name.invariant.told (c.loop-name.invariant.sound, refl)
          (one_opened given i no_name c.loop-name-test.true)
          (λ is. (ap (λ (device : g.row.R.Denot). reader g.R.Source.to_come g.R.Source.failed c.args.input.now device) (named is).0, (named is).1))
          (λ is. (((c.loop-name.invariant.unread (unread_before given i no_name c.loop-name-test.true c.requires.once is)).1, refl), refl, digest.ensures.input is))
          c.graver-gravest.ensures;
      sound = search rules;
      unread = λ none.
          let (is, before) = still_unread given i no_name c.loop-name-test.true none in
          subst (λ (device : g.row.R.Denot). (g.R.Source.reads device ≡ 0) × (g.R.Source.failed device ≡ false))
          (sym (digest.ensures.named is).0) (c.loop-name.invariant.unread before);
      quiet = λ is.
          let (was, now) = all_done c.loop-name.gravest digest.result.outcome c.graver-gravest.result c.graver-gravest.ensures is in
          Keeps-trans _ _ _ (c.loop-name.invariant.quiet was) (c.tell_outcome.ensures.quiet now);
    }

pub returns-clause-told : goal.returns-clause-told
returns-clause-told g c =
    let all = all_names c.args.digests.files.now c.loop-name.name-index (omega (arith, c.loop-name-test.false, c.loop-name.auto.name-index-end)) in (
      opening_all (take c.loop-name.name-index (names_of c.args.digests.files.now)),
      c.loop-name.invariant.called,
      whole_told (g.S.Shelf.files (g.S.Shelf.stock c.args.shelf.now)) g.S.Device.Source.to_come g.S.Device.Source.failed _ _ _ _ all _ _ _ _
          c.loop-name.invariant.told,
    )
