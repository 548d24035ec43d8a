-- Two numbers are the same if the digits at the lower place are those at the higher place, shifted by the difference.
use Rattle.std.proofs.Common.{◌∙◌, arith}
use Rattle.rv_float_flags.proofs.Numbers.{eq_scaled, eq_scaled_turned}
use Rattle.rv_float_flags.proofs.scaled.is_same.Goals as goal

pub returns-then-a-b : goal.returns-then-a-b
returns-then-a-b c = c.is_shifted.ensures ∙ eq_scaled c.args.a.digits c.args.b.digits c.args.a.place c.args.b.place (omega arith)

pub returns-else-a-b : goal.returns-else-a-b
returns-else-a-b c =
    c.is_shifted-else-a-b.ensures ∙ eq_scaled_turned c.args.a.digits c.args.b.digits c.args.a.place c.args.b.place (omega arith)
