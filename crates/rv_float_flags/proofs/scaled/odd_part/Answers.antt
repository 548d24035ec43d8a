-- Digits without their trailing zeros, at the place raised by as many, are odd and the same number.
use Rattle.std.proofs.Common.{arith}
use Rattle.rv_float_flags.proofs.Odd.{odd_rest, same_number}
use Rattle.rv_float_flags.proofs.scaled.odd_part.Goals as goal

pub returns-clause-value : goal.returns-clause-value
returns-clause-value c = same_number c.args.a.digits c.args.a.place

pub returns-clause-odd : goal.returns-clause-odd
returns-clause-odd c = odd_rest c.args.a.digits c.requires.nonzero (omega arith)
