-- A difference that raises no new flags is a number, and so are its operands.
use Rattle.std.proofs.Common.{sym, ◌∙◌}
use Rattle.rv_float_flags.proofs.NoNewFlags.{difference_flags_there, difference_number, sum_operands}
use Rattle.rv_float_flags.proofs.no_new_flags.sub_without_new_flags.Goals as goal

pub sub_numbers-requires-clause-first : goal.sub_numbers-requires-clause-first
sub_numbers-requires-clause-first g c =
    (sum_operands g.P.Pattern.format c.args.flags (g.P.Pattern.bits c.args.a) (g.P.Pattern.bits c.args.b)
    (sym c.sum_raises_no_new_flags.ensures ∙ c.if-sum_raises_no_new_flags.true)).0

pub sub_numbers-requires-clause-second : goal.sub_numbers-requires-clause-second
sub_numbers-requires-clause-second g c =
    (sum_operands g.P.Pattern.format c.args.flags (g.P.Pattern.bits c.args.a) (g.P.Pattern.bits c.args.b)
    (sym c.sum_raises_no_new_flags.ensures ∙ c.if-sum_raises_no_new_flags.true)).1

pub sub_numbers-requires-clause-difference : goal.sub_numbers-requires-clause-difference
sub_numbers-requires-clause-difference g c =
    difference_number g.P.Pattern.format c.args.flags (g.P.Pattern.bits c.args.a) (g.P.Pattern.bits c.args.b)
    (sym c.sum_raises_no_new_flags.ensures ∙ c.if-sum_raises_no_new_flags.true)

pub returns-then-sum_raises_no_new_flags-clause-flags : goal.returns-then-sum_raises_no_new_flags-clause-flags
returns-then-sum_raises_no_new_flags-clause-flags g c =
    difference_flags_there g.P.Pattern.format c.args.flags (g.P.Pattern.bits c.args.a) (g.P.Pattern.bits c.args.b)
    (sym c.sum_raises_no_new_flags.ensures ∙ c.if-sum_raises_no_new_flags.true)
