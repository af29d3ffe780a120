use Rattle.std.proofs.Common.{◌<◌, ◌≤◌, ◌-◌, ℕ, None, sym, ap, ◌∙◌, refl, subst, slice_index_or}
use Rattle.ged_link.specs.inner.Listing.{listed_halves, listed_digits, unnamed_in, all_halves, all_digits}
use Rattle.ged_link.proofs.ListingLemmas.{before_listed, at_listed, listed_here}
use Rattle.ged_link.proofs.listing.ListedNames.name_at.Goals as goal

pub returns-then-number-self : goal.returns-then-number-self
returns-then-number-self c xref more names digits =
    let list = c.args.self.list.now in
    let k = c.args.number in
    let within : k < unnamed_in list = subst (λ (n : ℕ). k < n) c.requires.unnamed c.if-number-self.true in
    listed_here (all_halves list) (all_digits list) k xref more names digits 0 0 (0, 0) (0, 0)
    (sym (before_listed (unnamed_in list) (listed_halves None) list.names.items k (0, 0) within)) refl
    0 (sym (before_listed (unnamed_in list) (listed_digits None) list.digits.items k 0 within))

pub returns : goal.returns
returns c xref more names digits =
    let list = c.args.self.list.now in
    let k = c.args.number in
    let at = c.index.result.now in
    let read = c.index-2.result.now in
    let past : unnamed_in list ≤ k = subst (λ (n : ℕ). n ≤ k) c.requires.unnamed c.if-number-self.false in
    listed_here (all_halves list) (all_digits list) k xref more names digits c.joined.result read at at
    (c.index.ensures ∙ ap (λ (n : ℕ). slice_index_or list.names.items (k - n) at) c.requires.unnamed ∙ sym (at_listed (unnamed_in list) (listed_halves None) list.names.items k at past))
    c.joined.ensures read
    (c.index-2.ensures ∙ ap (λ (n : ℕ). slice_index_or list.digits.items (k - n) read) c.requires.unnamed ∙ sym (at_listed (unnamed_in list) (listed_digits None) list.digits.items k read past))
