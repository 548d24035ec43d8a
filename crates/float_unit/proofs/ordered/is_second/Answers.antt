-- The minimum and the maximum of numbers is one of their patterns.
use Rattle.std.proofs.Common.{refl}
use Rattle.float_unit.proofs.Extremes.{greatest, least, number_pattern}
use Rattle.float_unit.proofs.ordered.is_second.Goals as goal

pub is_before-requires-clause-first : goal.is_before-requires-clause-first
is_before-requires-clause-first g c = number_pattern g.P.Pattern.format (g.P.Pattern.bits c.args.b) c.requires.second

pub is_before-requires-clause-second : goal.is_before-requires-clause-second
is_before-requires-clause-second g c = number_pattern g.P.Pattern.format (g.P.Pattern.bits c.args.a) c.requires.first

pub is_before-requires-in-Max-clause-first : goal.is_before-requires-in-Max-clause-first
is_before-requires-in-Max-clause-first g c = number_pattern g.P.Pattern.format (g.P.Pattern.bits c.args.a) c.requires.first

pub is_before-requires-in-Max-clause-second : goal.is_before-requires-in-Max-clause-second
is_before-requires-in-Max-clause-second g c = number_pattern g.P.Pattern.format (g.P.Pattern.bits c.args.b) c.requires.second

pub returns-in-Min : goal.returns-in-Min
returns-in-Min g c =
    let bits = g.P.Pattern.bits in
    rw (c.in-Min.is)
    (least g.P.Pattern.format (bits c.args.a) (bits c.args.b) _ c.is_before.result c.requires.first_fits c.requires.second_fits
    c.requires.first c.requires.second c.is_before.ensures refl)

pub returns-in-Max : goal.returns-in-Max
returns-in-Max g c =
    let bits = g.P.Pattern.bits in
    rw (c.in-Max.is)
    (greatest g.P.Pattern.format (bits c.args.a) (bits c.args.b) _ c.is_before-in-Max.result c.requires.first_fits c.requires.second_fits
    c.requires.first c.requires.second c.is_before-in-Max.ensures refl)
