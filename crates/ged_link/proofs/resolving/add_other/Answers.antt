use Rattle.std.proofs.Common.{Option, sym, subst}
use Rattle.ged_line.specs.Bytes.{Bytes}
use Rattle.ged_link.specs.Links.{IsAmong}
use Rattle.ged_link.proofs.KeyLemmas.{keyed_long}
use Rattle.ged_link.proofs.resolving.add_other.Goals as goal

pub returns-clause-keyed : goal.returns-clause-keyed
returns-clause-keyed g c names halves among keyed =
    keyed_long names c.args.records.now c.insert_long.new.self c.insert_long.result c.insert_long.ensures.short c.insert_long.ensures.keyed keyed
    (c.insert_long.ensures.held names (subst (λ (xref : Option Bytes). IsAmong xref names) (sym c.in-Some.ensures) among) keyed.1.1)

pub returns-then-number-ne0-clause-keyed : goal.returns-then-number-ne0-clause-keyed
returns-then-number-ne0-clause-keyed g c names halves among keyed =
    let missed = c.requires.missed in
    c.add_short.ensures.keyed names missed.name halves (missed.short c.if-number-ne0.true) (subst (λ (xref : Option Bytes). IsAmong xref names) missed.is among) keyed
