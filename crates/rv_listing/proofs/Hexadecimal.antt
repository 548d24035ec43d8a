-- What `{:02x}` and `{:08x}` write.
use Rattle.std.proofs.Common.{◌≡◌, ℕ, ◌-◌, ◌^◌, false, []}
use Rattle.std.proofs.Math.Nat.{sub-zero}
use Rattle.std.proofs.lemmas.List.{append-nil}
use Rattle.std.specs.Fmt.{digits, padded_integral, format_spec, char_count}
use Rattle.rv_listing.specs.Numerals.{hexadecimal_in}

-- a hole with a width and `0` writes zeros before the digits, up to the width
pub padded_is_hexadecimal_in : (width n : ℕ)
    → padded_integral (format_spec 32 0 4 width (2 ^ 64 - 1)) false [] (digits 16 false n) ≡ hexadecimal_in width n
unfolding padded_integral char_count
padded_is_hexadecimal_in width n = simp (append-nil, sub-zero)
