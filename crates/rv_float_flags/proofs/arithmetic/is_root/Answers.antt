-- Magnitudes are compared in place of values.
use Rattle.rv_float_flags.proofs.Operations.{of_root}
use Rattle.rv_float_flags.proofs.arithmetic.is_root.Goals as goal
use lib.Ieee.{of_bits}

pub returns-in-Some : goal.returns-in-Some
returns-in-Some g c x h =
    let f = g.P.Pattern.format in
    let bits = g.P.Pattern.bits in
    of_root f (of_bits f (bits c.args.root)) x c.in-Some.z c.args.p c.times.result c.raised.result _ c.in-Some.ensures h c.times.ensures
    c.raised.ensures c.is_same.ensures
