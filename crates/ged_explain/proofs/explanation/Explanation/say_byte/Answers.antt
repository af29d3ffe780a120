use Rattle.std.proofs.Common.{◌≡◌, ◌^◌, ◌-◌, Some, true, [], ◌∷◌, false, string_bytes, arith}
use Rattle.std.specs.Fmt.{◌++?◌, digits, format_spec, padded_integral, styled_digits_output}
use Rattle.ged_explain.proofs.Seen.{written_seen}
use Rattle.ged_explain.proofs.explanation.Explanation.say_byte.Goals as goal

pub returns : goal.returns
returns c =
    let text : (Some (92 ∷ 120 ∷ []) ++? styled_digits_output c.in_radix.result c.laid_out.result)
    ≡ Some (92 ∷ 120 ∷ padded_integral (format_spec 32 0 4 2 (2 ^ 64 - 1)) false [] (digits 16 true c.args.byte)) = rw (c.laid_out.ensures, c.in_radix.ensures) in
    written_seen c.args.self.now.lacks_memory c.is_err.result c.write.result (string_bytes c.args.self.now.text) (string_bytes c.write.new.self)
    (Some (92 ∷ 120 ∷ []) ++? styled_digits_output c.in_radix.result c.laid_out.result) 92 120 2 c.args.byte
    c.is_err.ensures.value text c.write.ensures.bytes (omega arith, omega arith) (omega arith, omega arith)
