-- `x` is `y * 2^n` if its low n bits are zero and the others are `y`; from n = 128 on, if both are 0.
use Rattle.std.proofs.Common.{◌≡◌, ◌*◌, ◌%◌, ◌^◌, ℕ, ap, sym, ◌∙◌, arith}
use Rattle.std.proofs.lemmas.Bool.{ne_eqb}
use Rattle.std.proofs.Math.Nat.{zero-mul}
use Rattle.std.proofs.lemmas.Nat.{pow_pos}
use Rattle.rv_float_flags.proofs.Numbers.{same_eq}
use Rattle.rv_float_flags.proofs.Shifts.{beyond, no_multiple, one, whole_multiple}
use Rattle.rv_float_flags.proofs.scaled.is_shifted.Goals as goal

pub returns-then-x-n-eq0 : goal.returns-then-x-n-eq0
returns-then-x-n-eq0 c =
    let o : 1 * 2 ^ c.args.n % 2 ^ 128 ≡ 2 ^ c.args.n = one c.args.n (omega arith) in
    let r : c.args.x % (1 * 2 ^ c.args.n % 2 ^ 128) ≡ 0 = omega arith in
    whole_multiple c.args.x c.args.y (2 ^ c.args.n) (pow_pos c.args.n) (sym (ap (λ (z : ℕ). c.args.x % z) o) ∙ r)

pub returns-else-x-n-eq0 : goal.returns-else-x-n-eq0
returns-else-x-n-eq0 c =
    let o : 1 * 2 ^ c.args.n % 2 ^ 128 ≡ 2 ^ c.args.n = one c.args.n (omega arith) in
    let no : c.args.x % 2 ^ c.args.n ≡ 0 → ⊥ = λ e. c.if-x-n-eq0.false (ap (λ (z : ℕ). c.args.x % z) o ∙ e) in
    ne_eqb _ 0 c.if-x-n-eq0.false ∙ sym (ne_eqb c.args.x (c.args.y * 2 ^ c.args.n) (no_multiple c.args.x c.args.y (2 ^ c.args.n) no))

pub returns-then-x-eq0 : goal.returns-then-x-eq0
returns-then-x-eq0 c =
    same_eq c.args.y 0 c.args.x (c.args.y * 2 ^ c.args.n)
    (λ e. c.if-x-eq0.true ∙ sym (ap (λ (z : ℕ). z * 2 ^ c.args.n) e ∙ zero-mul (2 ^ c.args.n)))
    (λ e. beyond c.args.x c.args.y c.args.n (omega arith) (omega arith) e)

pub returns-else-x-eq0 : goal.returns-else-x-eq0
returns-else-x-eq0 c =
    let no : c.args.x ≡ c.args.y * 2 ^ c.args.n → ⊥ =
    λ e. c.if-x-eq0.false
    (e ∙ ap (λ (z : ℕ). z * 2 ^ c.args.n) (beyond c.args.x c.args.y c.args.n (omega arith) (omega arith) e) ∙ zero-mul (2 ^ c.args.n))
    in
    ne_eqb c.args.x 0 c.if-x-eq0.false ∙ sym (ne_eqb c.args.x (c.args.y * 2 ^ c.args.n) no)
