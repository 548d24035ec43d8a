-- The exponent's field and the digits make up the magnitude.
use Rattle.std.proofs.Common.{◌∙◌, ap, sym, refl, ◌+◌, ◌%◌, ℕ}
use Rattle.rv_float_flags.proofs.Magnitudes.{no_magnitude_read, normal_read, ones_read, subnormal_read}
use Rattle.rv_float_flags.proofs.magnitude.magnitude_of.Goals as goal
use lib.Ieee.{hid}

pub returns-then-exponent-top : goal.returns-then-exponent-top
returns-then-exponent-top g c =
    let f = g.P.Pattern.format in
    no_magnitude_read f (g.P.Pattern.bits c.args.a) _ _ _ c.to_u64.ensures.value c.top.ensures c.hidden.ensures
    (c.if-exponent-top.true ∙ ones_read f _ _ c.top-2.ensures c.hidden-3.ensures)

pub returns-then-exponent-eq0 : goal.returns-then-exponent-eq0
returns-then-exponent-eq0 g c =
    let f = g.P.Pattern.format in
    let b = g.P.Pattern.bits c.args.a in
    subnormal_read f b _ _ _ _ _ c.to_u64.ensures.value c.top.ensures c.hidden.ensures c.low-least.ensures c.if-exponent-eq0.true
    (ap (λ (n : ℕ). n % c.hidden-2.result) c.to_u64-2.ensures.value ∙ ap (λ (n : ℕ). b % n) c.hidden-2.ensures) refl

pub returns-else-exponent-eq0 : goal.returns-else-exponent-eq0
returns-else-exponent-eq0 g c =
    let f = g.P.Pattern.format in
    let b = g.P.Pattern.bits c.args.a in
    normal_read f b _ _ _ _ _ c.to_u64.ensures.value c.top.ensures c.hidden.ensures c.low-least.ensures c.if-exponent-eq0.false
    (λ same. c.if-exponent-top.false (same ∙ sym (ones_read f _ _ c.top-2.ensures c.hidden-3.ensures)))
    (ap (λ (n : ℕ). n + c.to_u64-2.result % c.hidden-2.result) c.hidden-else-exponent-eq0.ensures
    ∙ ap (λ (n : ℕ). hid f + n % c.hidden-2.result) c.to_u64-2.ensures.value
    ∙ ap (λ (n : ℕ). hid f + b % n) c.hidden-2.ensures)
    refl
