-- A quotient that raises no new flags is a number, and so are its operands.
use Rattle.std.proofs.Common.{sym, ◌∙◌}
use Rattle.rv_float_flags.proofs.NoNewFlags.{quotient_flags_there, quotient_number, quotient_operands}
use Rattle.rv_float_flags.proofs.no_new_flags.div_without_new_flags.Goals as goal

pub div_numbers-requires-clause-first : goal.div_numbers-requires-clause-first
div_numbers-requires-clause-first g c =
    (quotient_operands g.P.Pattern.format c.args.flags (g.P.Pattern.bits c.args.a) (g.P.Pattern.bits c.args.b)
    (sym c.quotient_raises_no_new_flags.ensures ∙ c.if-quotient_raises_no_new_flags.true)).0

pub div_numbers-requires-clause-second : goal.div_numbers-requires-clause-second
div_numbers-requires-clause-second g c =
    (quotient_operands g.P.Pattern.format c.args.flags (g.P.Pattern.bits c.args.a) (g.P.Pattern.bits c.args.b)
    (sym c.quotient_raises_no_new_flags.ensures ∙ c.if-quotient_raises_no_new_flags.true)).1

pub div_numbers-requires-clause-quotient : goal.div_numbers-requires-clause-quotient
div_numbers-requires-clause-quotient g c =
    quotient_number g.P.Pattern.format c.args.flags (g.P.Pattern.bits c.args.a) (g.P.Pattern.bits c.args.b)
    (sym c.quotient_raises_no_new_flags.ensures ∙ c.if-quotient_raises_no_new_flags.true)

pub returns-then-quotient_raises_no_new_flags-clause-flags : goal.returns-then-quotient_raises_no_new_flags-clause-flags
returns-then-quotient_raises_no_new_flags-clause-flags g c =
    quotient_flags_there g.P.Pattern.format c.args.flags (g.P.Pattern.bits c.args.a) (g.P.Pattern.bits c.args.b)
    (sym c.quotient_raises_no_new_flags.ensures ∙ c.if-quotient_raises_no_new_flags.true)
