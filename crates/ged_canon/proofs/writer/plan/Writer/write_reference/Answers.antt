use Rattle.std.proofs.Common.{◌≡◌, ◌<◌, ◌++◌, ◌∷◌, [], ◌⊎◌, inl, inr, ℕ, zero, suc, List, OnOk, refl, sym, ap, ◌∙◌, subst, rules, arith}
use Rattle.std.specs.Option.{option_copied}
use Rattle.std.proofs.lemmas.Bool.{false≢true}
use Rattle.ged_line.specs.Bytes.{Bytes}
use Rattle.ged_line.specs.Lines.{Pointer, line_parts}
use Rattle.ged_line.specs.Spelling.{spelling}
use Rattle.ged_tree.specs.declared.payload.Payload.{Payload}
use Rattle.ged_tree.specs.declared.payload.Payload.TheVariants.{Pointer as PointerPayload}
use Rattle.ged_tree.specs.DocumentLines.{first_value}
use Rattle.ged_canon.specs.Steps.{renamed_payload}
use Rattle.ged_canon.specs.Normal.{numbered}
use Rattle.ged_canon.specs.inner.Working.{number_among, number_of}
use Rattle.ged_canon.specs.inner.Written.{written}
use Rattle.ged_canon.proofs.writer.NewNames.{kept_name, given_number}
use Rattle.ged_canon.proofs.writer.plan.Writer.write_reference.Goals as goal

-- the value of a pointer with its new name
renamed_value : (names : List Bytes) (p : Payload) (name other : Bytes) → PointerPayload name ≡ p → other ≡ number_of 1 names name
    → Pointer other ≡ first_value (renamed_payload (number_of 1 names) p)
renamed_value names p name other here same = ap Pointer same ∙ ap (λ q. first_value (renamed_payload (number_of 1 names) q)) here

-- a name that stays is the new one
kept_value : (names : List Bytes) (name : Bytes) (number : ℕ) → number_among 1 names name ≡ number → (number ≡ 0) ⊎ (name ≡ numbered number) → name ≡ number_of 1 names name
kept_value names name number at (inl none) = sym (kept_name name 1 names (omega arith) (at ∙ none))
kept_value names name number at (inr same) = by (number_among 1 names name) refl
  where
    by : (n : ℕ) → number_among 1 names name ≡ n → name ≡ number_of 1 names name
    by zero e = sym (kept_name name 1 names (omega arith) e)
    by (suc n) e = same ∙ ap numbered (sym at) ∙ given_number name 1 names (omega (arith, e))

pub returns-then-is_kept_name-clause-lines : goal.returns-then-is_kept_name-clause-lines
returns-then-is_kept_name-clause-lines g c = λ names h.
    let d = g.F.Forest.trees c.args.self.now.forest.now in
    let name = c.args.name.now in
    let here = sym c.requires.names in
    let at : number_among 1 names name ≡ c.new_number_at-number.result = sym (c.new_number_at-number.ensures d names h (sym here)) in
    subst (λ value. OnOk c.write_kept_reference.result (written c.args.self.now.plan.file.now c.write_kept_reference.new.answer ≡ written c.args.self.now.plan.file.now c.args.work.now.answer ++ (spelling (line_parts c.args.level (option_copied c.args.xref) c.args.sibling.tag.now value) ++ 10 ∷ [])))
    (renamed_value names _ name name here (kept_value names name c.new_number_at-number.result at (c.is_kept_name.ensures.0 (search rules)))) c.write_kept_reference.ensures

pub returns-clause-lines : goal.returns-clause-lines
returns-clause-lines g c = λ names h.
    let d = g.F.Forest.trees c.args.self.now.forest.now in
    let name = c.args.name.now in
    let here = sym c.requires.names in
    let at : number_among 1 names name ≡ c.new_number_at-number.result = sym (c.new_number_at-number.ensures d names h (sym here)) in
    let other : c.new_number_at-number.result ≡ 0 → ⊥ = λ e. false≢true (sym c.if-is_kept_name.false ∙ c.is_kept_name.ensures.1 (inl e)) in
    let some : 0 < number_among 1 names name = omega (arith, at, other) in
    subst (λ value. OnOk c.push_numbered.result (written c.args.self.now.plan.file.now c.push_numbered.new.self ≡ written c.args.self.now.plan.file.now c.args.work.now.answer ++ (spelling (line_parts c.args.level (option_copied c.args.xref) c.args.sibling.tag.now value) ++ 10 ∷ [])))
    (renamed_value names _ name (numbered c.new_number_at-number.result) here (ap numbered (sym at) ∙ given_number name 1 names some)) c.push_numbered.ensures
