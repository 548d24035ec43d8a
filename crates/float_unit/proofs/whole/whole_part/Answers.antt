-- The whole part is 0 below the exponent of 1; from there on it is the digits shifted right, which fit 32 bits.
use Rattle.float_unit.proofs.Patterns.{below_one_is, cut_is, narrow_is, narrower_is, none_is, rest_is, short_is, shifted_read}
use Rattle.float_unit.proofs.whole.whole_part.Goals as goal

pub overflow_cast-result : goal.overflow_cast-result
overflow_cast-result g c =
    let f = g.W.Pattern.format in
    let a = g.W.Pattern.bits c.args.a in
    rw (shifted_read f a _ _ _ _ c.digits.ensures c.hidden.ensures c.bias-else-exponent-bias.ensures c.exponent-exponent.ensures c.requires)
    (record { fits = narrow_is f a c.requires })

pub returns-then-exponent-bias-clause-cut : goal.returns-then-exponent-bias-clause-cut
returns-then-exponent-bias-clause-cut g c =
    below_one_is g.W.Pattern.format (g.W.Pattern.bits c.args.a)
    (rw (c.exponent-exponent.ensures, c.bias.ensures) at c.if-exponent-bias.true)

pub returns-then-exponent-bias-clause-whole : goal.returns-then-exponent-bias-clause-whole
returns-then-exponent-bias-clause-whole g c =
    none_is g.W.Pattern.format (g.W.Pattern.bits c.args.a) (rw (c.exponent-exponent.ensures, c.bias.ensures) at c.if-exponent-bias.true)

pub returns-else-exponent-bias-clause-cut : goal.returns-else-exponent-bias-clause-cut
returns-else-exponent-bias-clause-cut g c =
    let f = g.W.Pattern.format in
    let a = g.W.Pattern.bits c.args.a in
    rw (shifted_read f a _ _ _ _ c.digits.ensures c.hidden.ensures c.bias-else-exponent-bias.ensures c.exponent-exponent.ensures c.requires)
    (cut_is f a (rw (c.exponent-exponent.ensures, c.bias.ensures) at c.if-exponent-bias.false) c.requires)

pub returns-else-exponent-bias-clause-whole : goal.returns-else-exponent-bias-clause-whole
returns-else-exponent-bias-clause-whole g c =
    let f = g.W.Pattern.format in
    let a = g.W.Pattern.bits c.args.a in
    rw (shifted_read f a _ _ _ _ c.digits.ensures c.hidden.ensures c.bias-else-exponent-bias.ensures c.exponent-exponent.ensures c.requires)
    (rest_is f a (rw (c.exponent-exponent.ensures, c.bias.ensures) at c.if-exponent-bias.false) c.requires)

pub returns-else-exponent-bias-clause-narrow : goal.returns-else-exponent-bias-clause-narrow
returns-else-exponent-bias-clause-narrow g c =
    let f = g.W.Pattern.format in
    let a = g.W.Pattern.bits c.args.a in
    rw (shifted_read f a _ _ _ _ c.digits.ensures c.hidden.ensures c.bias-else-exponent-bias.ensures c.exponent-exponent.ensures c.requires)
    (narrow_is f a c.requires)

pub returns-else-exponent-bias-clause-below : goal.returns-else-exponent-bias-clause-below
returns-else-exponent-bias-clause-below g c =
    let f = g.W.Pattern.format in
    let a = g.W.Pattern.bits c.args.a in
    rw (shifted_read f a _ _ _ _ c.digits.ensures c.hidden.ensures c.bias-else-exponent-bias.ensures c.exponent-exponent.ensures c.requires)
    (narrower_is f a)

pub returns-else-exponent-bias-clause-short : goal.returns-else-exponent-bias-clause-short
returns-else-exponent-bias-clause-short g c =
    let f = g.W.Pattern.format in
    let a = g.W.Pattern.bits c.args.a in
    rw (shifted_read f a _ _ _ _ c.digits.ensures c.hidden.ensures c.bias-else-exponent-bias.ensures c.exponent-exponent.ensures c.requires)
    (short_is f a _)
