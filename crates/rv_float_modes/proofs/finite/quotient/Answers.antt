-- A dividend of 0 gives the number 0; of any other the quotient by `divided` encloses the exact one.
use Rattle.std.proofs.Common.{ℕ, ◌+◌, ◌*◌, ◌^◌, ◌∙◌, ap}
use Rattle.std.proofs.Math.Nat.{zero-mul}
use Rattle.rv_float_flags.specs.Exact.{exact_quotient}
use Rattle.rv_float_flags.proofs.Fractions.{quotient_fraction}
use Rattle.rv_float_modes.proofs.Quotients.{zero_number}
use Rattle.rv_float_modes.proofs.finite.quotient.Goals as goal

pub returns-then-p-eq0 : goal.returns-then-p-eq0
returns-then-p-eq0 c f x y s h g k =
    let r = exact_quotient x y in
    c.rounded_number.ensures f r s
    (zero_number r _ _ 128 (quotient_fraction f x y c.args.p c.args.q h g k)
    (ap (λ (z : ℕ). z * 2 ^ (c.args.p.place + 2148)) c.if-p-eq0.true ∙ zero-mul (2 ^ (c.args.p.place + 2148))))

pub returns-else-p-eq0 : goal.returns-else-p-eq0
returns-else-p-eq0 c f x y s h g k =
    c.rounded.ensures f (exact_quotient x y) s
    (c.divided.ensures.quotient (exact_quotient x y) (quotient_fraction f x y c.args.p c.args.q h g k))
