-- The upper half of a boxed single is all ones, so its lower half, the single, is taken out.
use Rattle.std.proofs.Common.{◌≡◌, ◌+◌, ◌-◌, ◌*◌, ◌/◌, ◌%◌, ◌^◌, ◌∙◌, arith}
use Rattle.std.proofs.lemmas.Bool.{cond-true, eq-eqb}
use Rattle.rv_floats.proofs.laws.a_boxed_single_is_unboxed.Goals as goal

pub returns : goal.returns
returns c a h =
    let r = (2 ^ 32 - 1) * 2 ^ 32 + a in
    let e : r / 2 ^ 32 ≡ 2 ^ 32 - 1 = omega (arith, h) in
    let d : r % 2 ^ 32 ≡ a = omega (arith, h) in
    cond-true _ _ _ (eq-eqb (r / 2 ^ 32) (2 ^ 32 - 1) e) ∙ d
