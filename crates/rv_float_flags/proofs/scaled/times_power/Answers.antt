-- A shift by n that loses no bit is below 2^120; in all other cases `x * 2^n` reaches 2^120.
use Rattle.std.proofs.Common.{◌≡◌, ◌*◌, ◌%◌, ◌^◌, ◌<◌, arith}
use Rattle.std.proofs.Math.Nat.{mod-eq_of_lt}
use Rattle.rv_float_flags.proofs.Shifts.{short_enough, too_long, too_far}
use Rattle.rv_float_flags.proofs.scaled.times_power.Goals as goal
use Rattle.rv_float_flags.proofs.scaled.times_power.Goals.{else-n-lt120-via-then-n-lt120+else-x-n-eq0, else-n-lt120-via-else-n-lt120}

pub returns-then-x-n-eq0 : goal.returns-then-x-n-eq0
returns-then-x-n-eq0 c =
    let l : c.args.x * 2 ^ c.args.n < 2 ^ 120 = short_enough c.args.x c.args.n (omega arith) (omega arith) in
    let m : c.args.x * 2 ^ c.args.n % 2 ^ 128 ≡ c.args.x * 2 ^ c.args.n = mod-eq_of_lt (omega (arith, l)) in
    (m, omega (arith, l, m))

pub returns-else-n-lt120 : goal.returns-else-n-lt120
returns-else-n-lt120 c = elim c.else-n-lt120.branch [
  | else-n-lt120-via-then-n-lt120+else-x-n-eq0 w ↦ too_long c.args.x c.args.n (omega arith) (λ e. omega arith)
  | else-n-lt120-via-else-n-lt120 w ↦ too_far c.args.x c.args.n (omega arith) (omega arith)
]
