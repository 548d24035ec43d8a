-- A sum that raises no new flags is a number, and so are its operands.
use Rattle.std.proofs.Common.{sym, ◌∙◌}
use Rattle.rv_float_flags.proofs.NoNewFlags.{sum_flags_there, sum_number, sum_operands}
use Rattle.rv_float_flags.proofs.no_new_flags.add_without_new_flags.Goals as goal

pub add_numbers-requires-clause-first : goal.add_numbers-requires-clause-first
add_numbers-requires-clause-first g c =
    (sum_operands g.P.Pattern.format c.args.flags (g.P.Pattern.bits c.args.a) (g.P.Pattern.bits c.args.b)
    (sym c.sum_raises_no_new_flags.ensures ∙ c.if-sum_raises_no_new_flags.true)).0

pub add_numbers-requires-clause-second : goal.add_numbers-requires-clause-second
add_numbers-requires-clause-second g c =
    (sum_operands g.P.Pattern.format c.args.flags (g.P.Pattern.bits c.args.a) (g.P.Pattern.bits c.args.b)
    (sym c.sum_raises_no_new_flags.ensures ∙ c.if-sum_raises_no_new_flags.true)).1

pub add_numbers-requires-clause-sum : goal.add_numbers-requires-clause-sum
add_numbers-requires-clause-sum g c =
    sum_number g.P.Pattern.format c.args.flags (g.P.Pattern.bits c.args.a) (g.P.Pattern.bits c.args.b)
    (sym c.sum_raises_no_new_flags.ensures ∙ c.if-sum_raises_no_new_flags.true)

pub returns-then-sum_raises_no_new_flags-clause-flags : goal.returns-then-sum_raises_no_new_flags-clause-flags
returns-then-sum_raises_no_new_flags-clause-flags g c =
    sum_flags_there g.P.Pattern.format c.args.flags (g.P.Pattern.bits c.args.a) (g.P.Pattern.bits c.args.b)
    (sym c.sum_raises_no_new_flags.ensures ∙ c.if-sum_raises_no_new_flags.true)
