use Rattle.std.proofs.Common.{◌≡◌, ◌≤◌, ◌<◌, ◌^◌, ◌++◌, ◌∷◌, [], List, ℕ, ◌+◌, ◌/◌, ◌%◌, Result, Ok, Err, if◌then◌else◌, length, get_or, OnOk, decimal, refl, sym, ap, subst, ◌∙◌, append_assoc, arith}
use Rattle.std.specs.Result.{is_ok}
use Rattle.std.proofs.lemmas.Slice.Eq.{text_from_reads}
use Rattle.itoa.proofs.Decimal.{decimal_pair, pair}
use Rattle.ged_canon.proofs.writer.numbered.push_any_closed.Goals as goal

-- what was appended, where it was
appended : {A E : Type 0} (r : Result A E) (new more kept : List ℕ) → new ≡ (if is_ok r then more else kept) → OnOk r (new ≡ more)
appended (Ok a) new more kept e = e
appended (Err a) new more kept e = tt

-- a number's digits but for the last two, and these
closed_by_pair : (number behind : ℕ) (digits : List ℕ) → 100 ≤ number → number < 2 ^ 64 → digits ≡ decimal (number / 100)
    → digits ++ (48 + number % 100 / 10) ∷ (48 + number % 100 % 10) ∷ 64 ∷ behind ∷ [] ≡ decimal number ++ 64 ∷ behind ∷ []
closed_by_pair number behind digits long fits is =
    ap (λ xs. xs ++ (pair (number % 100) ++ 64 ∷ behind ∷ [])) is
    ∙ sym (append_assoc (decimal (number / 100)) (pair (number % 100)) (64 ∷ behind ∷ []))
    ∙ ap (λ xs. xs ++ 64 ∷ behind ∷ []) (sym (decimal_pair number long fits))

pub returns-in-len3-clause-ok : goal.returns-in-len3-clause-ok
returns-in-len3-clause-ok c =
    let made = c.args.out.now.items in
    let seen = c.as_bytes.result.now in
    let digits = get_or seen 0 0 ∷ get_or seen 1 0 ∷ get_or seen 2 0 ∷ [] in
    let width : length seen ≡ 3 = omega (arith, c.in-len3.len_at_least, c.in-len3.len_below) in
    let is : digits ≡ decimal (c.args.number / 100) = sym (text_from_reads seen digits width (refl, (refl, (refl, tt)))) ∙ c.as_bytes.ensures.value ∙ c.format.ensures.text in
    let whole = closed_by_pair c.args.number c.args.behind digits (omega arith) c.ranges.number.fits is in
    subst (λ text. OnOk c.extend_from_slice.result (c.extend_from_slice.new.self.items ≡ made ++ text)) whole
    (appended c.extend_from_slice.result c.extend_from_slice.new.self.items _ made c.extend_from_slice.ensures.items)

pub returns-in-len4-clause-ok : goal.returns-in-len4-clause-ok
returns-in-len4-clause-ok c =
    let made = c.args.out.now.items in
    let seen = c.as_bytes.result.now in
    let digits = get_or seen 0 0 ∷ get_or seen 1 0 ∷ get_or seen 2 0 ∷ get_or seen 3 0 ∷ [] in
    let width : length seen ≡ 4 = omega (arith, c.in-len4.len_at_least, c.in-len4.len_below) in
    let is : digits ≡ decimal (c.args.number / 100) = sym (text_from_reads seen digits width (refl, (refl, (refl, (refl, tt))))) ∙ c.as_bytes.ensures.value ∙ c.format.ensures.text in
    let whole = closed_by_pair c.args.number c.args.behind digits (omega arith) c.ranges.number.fits is in
    subst (λ text. OnOk c.extend_from_slice-in-len4.result (c.extend_from_slice-in-len4.new.self.items ≡ made ++ text)) whole
    (appended c.extend_from_slice-in-len4.result c.extend_from_slice-in-len4.new.self.items _ made c.extend_from_slice-in-len4.ensures.items)
