-- A dividend of 127 bits gives a quotient with enough digits, which encloses the exact one.
use Rattle.std.proofs.Common.{arith}
use Rattle.rv_float_modes.proofs.Quotients.{divided_encloses, quotient_narrow, quotient_wide}
use Rattle.rv_float_modes.proofs.finite.divided.Goals as goal

pub returns-clause-wide : goal.returns-clause-wide
returns-clause-wide c =
    let e = c.exactly-dividend.ensures in
    record {
      wide = quotient_wide c.exactly-dividend.result.digits c.args.q.digits e.full c.requires.nonzero c.requires.q_narrow;
      narrow = quotient_narrow c.exactly-dividend.result.digits c.args.q.digits e.wide.narrow;
    }

pub returns-clause-quotient : goal.returns-clause-quotient
returns-clause-quotient c r f =
    let e = c.exactly-dividend.ensures in
    divided_encloses r c.args.p.digits c.args.p.place c.args.q.digits c.args.q.place c.exactly-dividend.result f c.requires.nonzero e.value
    (omega (arith, e.high, c.requires.q_low))
