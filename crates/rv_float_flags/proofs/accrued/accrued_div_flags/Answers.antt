-- Where the quotient raises no new flags, the flags stay as they are.
use Rattle.std.proofs.Common.{sym, ◌∙◌}
use Rattle.rv_float_flags.proofs.NoNewFlags.{quotient_flags_there}
use Rattle.rv_float_flags.proofs.accrued.accrued_div_flags.Goals as goal

pub returns-then-quotient_raises_no_new_flags : goal.returns-then-quotient_raises_no_new_flags
returns-then-quotient_raises_no_new_flags g c =
    sym (quotient_flags_there g.P.Pattern.format c.args.flags (g.P.Pattern.bits c.args.a) (g.P.Pattern.bits c.args.b)
    (sym c.quotient_raises_no_new_flags.ensures ∙ c.if-quotient_raises_no_new_flags.true))
