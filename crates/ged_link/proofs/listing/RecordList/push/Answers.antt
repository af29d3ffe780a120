use Rattle.std.proofs.Common.{◌≡◌, ◌∷◌, [], ◌++◌, length, Option, None, ap, sym, ◌∙◌}
use Rattle.std.specs.Option.{option_copied}
use Rattle.ged_line.specs.Bytes.{Bytes}
use Rattle.ged_link.specs.inner.Listing.{listed_halves, listed_digits, all_halves, all_digits}
use Rattle.ged_link.proofs.ListingLemmas.{has_none, are_none, unnamed_more}
use Rattle.ged_link.proofs.listing.RecordList.push.Goals as goal

pub returns-then-is_empty-clause-names : goal.returns-then-is_empty-clause-names
returns-then-is_empty-clause-names c =
    let old = c.args.self.now in
    let is : option_copied c.args.xref ≡ None = has_none c.is_none.result c.args.xref c.is_none.ensures c.if-is_none.true in
    let none : length old.names.items ≡ 0 = are_none c.is_empty.result _ _ c.is_empty.ensures c.if-is_empty.true old.names.ok.0 in
    unnamed_more (listed_halves None) old.names.items old.names.items old.types.items c.push.new.self.items _ c.in_ok-push.ensures.items none none
    ∙ ap (λ (x : Option Bytes). all_halves old ++ listed_halves x ∷ []) (sym is)

pub returns-then-is_empty-clause-digits : goal.returns-then-is_empty-clause-digits
returns-then-is_empty-clause-digits c even =
    let old = c.args.self.now in
    let is : option_copied c.args.xref ≡ None = has_none c.is_none.result c.args.xref c.is_none.ensures c.if-is_none.true in
    let none : length old.names.items ≡ 0 = are_none c.is_empty.result _ _ c.is_empty.ensures c.if-is_empty.true old.names.ok.0 in
    unnamed_more (listed_digits None) old.names.items old.digits.items old.types.items c.push.new.self.items _ c.in_ok-push.ensures.items none (sym even ∙ none)
    ∙ ap (λ (x : Option Bytes). all_digits old ++ listed_digits x ∷ []) (sym is)
