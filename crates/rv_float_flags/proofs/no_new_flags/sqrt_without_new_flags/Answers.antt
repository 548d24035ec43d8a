-- The root raises no new flags.
use Rattle.std.proofs.Common.{sym, ◌∙◌}
use Rattle.rv_float_flags.proofs.NoNewFlags.{root_flags_there}
use Rattle.rv_float_flags.proofs.no_new_flags.sqrt_without_new_flags.Goals as goal

pub returns-then-root_raises_no_new_flags-clause-flags : goal.returns-then-root_raises_no_new_flags-clause-flags
returns-then-root_raises_no_new_flags-clause-flags g c =
    root_flags_there g.P.Pattern.format c.args.flags (g.P.Pattern.bits c.args.a)
    (sym c.root_raises_no_new_flags.ensures ∙ c.if-root_raises_no_new_flags.true)
