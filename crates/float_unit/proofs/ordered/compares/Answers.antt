-- A pattern that is not above that of infinity, but for its sign, is a number's.
use Rattle.float_unit.proofs.Extremes.{number_pattern}
use Rattle.float_unit.proofs.ordered.compares.Goals as goal

pub is_number_equal-requires-clause-first : goal.is_number_equal-requires-clause-first
is_number_equal-requires-clause-first g c = number_pattern g.P.Pattern.format (g.P.Pattern.bits c.args.a) c.requires.first

pub is_number_equal-requires-clause-second : goal.is_number_equal-requires-clause-second
is_number_equal-requires-clause-second g c = number_pattern g.P.Pattern.format (g.P.Pattern.bits c.args.b) c.requires.second

pub is_number_less-requires-clause-first : goal.is_number_less-requires-clause-first
is_number_less-requires-clause-first g c = number_pattern g.P.Pattern.format (g.P.Pattern.bits c.args.a) c.requires.first

pub is_number_less-requires-clause-second : goal.is_number_less-requires-clause-second
is_number_less-requires-clause-second g c = number_pattern g.P.Pattern.format (g.P.Pattern.bits c.args.b) c.requires.second

pub is_number_at_most-requires-clause-first : goal.is_number_at_most-requires-clause-first
is_number_at_most-requires-clause-first g c = number_pattern g.P.Pattern.format (g.P.Pattern.bits c.args.a) c.requires.first

pub is_number_at_most-requires-clause-second : goal.is_number_at_most-requires-clause-second
is_number_at_most-requires-clause-second g c = number_pattern g.P.Pattern.format (g.P.Pattern.bits c.args.b) c.requires.second
