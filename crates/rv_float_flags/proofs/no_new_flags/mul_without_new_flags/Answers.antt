-- A product that raises no new flags is a number, and so are its operands.
use Rattle.std.proofs.Common.{sym, ◌∙◌}
use Rattle.rv_float_flags.proofs.NoNewFlags.{product_flags_there, product_number, product_operands}
use Rattle.rv_float_flags.proofs.no_new_flags.mul_without_new_flags.Goals as goal

pub mul_numbers-requires-clause-first : goal.mul_numbers-requires-clause-first
mul_numbers-requires-clause-first g c =
    (product_operands g.P.Pattern.format c.args.flags (g.P.Pattern.bits c.args.a) (g.P.Pattern.bits c.args.b)
    (sym c.product_raises_no_new_flags.ensures ∙ c.if-product_raises_no_new_flags.true)).0

pub mul_numbers-requires-clause-second : goal.mul_numbers-requires-clause-second
mul_numbers-requires-clause-second g c =
    (product_operands g.P.Pattern.format c.args.flags (g.P.Pattern.bits c.args.a) (g.P.Pattern.bits c.args.b)
    (sym c.product_raises_no_new_flags.ensures ∙ c.if-product_raises_no_new_flags.true)).1

pub mul_numbers-requires-clause-product : goal.mul_numbers-requires-clause-product
mul_numbers-requires-clause-product g c =
    product_number g.P.Pattern.format c.args.flags (g.P.Pattern.bits c.args.a) (g.P.Pattern.bits c.args.b)
    (sym c.product_raises_no_new_flags.ensures ∙ c.if-product_raises_no_new_flags.true)

pub returns-then-product_raises_no_new_flags-clause-flags : goal.returns-then-product_raises_no_new_flags-clause-flags
returns-then-product_raises_no_new_flags-clause-flags g c =
    product_flags_there g.P.Pattern.format c.args.flags (g.P.Pattern.bits c.args.a) (g.P.Pattern.bits c.args.b)
    (sym c.product_raises_no_new_flags.ensures ∙ c.if-product_raises_no_new_flags.true)
