-- Equivalent documents have one canonical document.
use Rattle.std.proofs.Common.{◌≡◌, true, refl, sym, ◌∙◌}
use Rattle.ged_tree.specs.Trees.{Trees}
use Rattle.ged_tree.specs.Documents.{is_document}
use Rattle.ged_canon.specs.declared.edition.Edition.{Edition}
use Rattle.ged_canon.specs.Steps.{Move, change, rename, gain, lose, Equivalent, done, then}
use Rattle.ged_canon.specs.Normal.{Normal}
use Rattle.ged_canon.specs.inner.Working.{canon}
use Rattle.ged_canon.proofs.theory.Fixed.{canon_same}
use Rattle.ged_canon.proofs.theory.Moves.{canon_change}
use Rattle.ged_canon.proofs.theory.Renaming.{canon_rename, canon_gain}

canon_move : (edition : Edition) (d e : Trees) → is_document d ≡ true → is_document e ≡ true → Move edition d e → canon edition d ≡ canon edition e
canon_move edition d e p q (change h) = canon_change edition d e p q h
canon_move edition d e p q (rename h) = canon_rename edition d e p h
canon_move edition d e p q (gain h) = canon_gain edition d e h
canon_move edition d e p q (lose h) = sym (canon_gain edition e d h)

pub canon_equivalent : (edition : Edition) (d e : Trees) → Equivalent edition d e → canon edition d ≡ canon edition e
canon_equivalent edition d _ done = refl
canon_equivalent edition d f (then {b = e} h k) = canon_move edition d e h.from h.to h.move ∙ canon_equivalent edition e f k

pub unique : (edition : Edition) (d e : Trees) → Equivalent edition d e → Normal edition d → Normal edition e → d ≡ e
unique edition d e h m n = sym (canon_same edition d m) ∙ canon_equivalent edition d e h ∙ canon_same edition e n
