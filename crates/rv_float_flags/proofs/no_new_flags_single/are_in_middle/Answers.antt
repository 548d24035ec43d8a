-- What lies in the middle lies below the limit in all of its bits.
use Rattle.std.proofs.Common.{arith}
use Rattle.std.proofs.lemmas.Bool.{ltb-true}
use Rattle.std.proofs.lemmas.Nat.{le_or_l, le_or_r}
use Rattle.rv_float_flags.proofs.no_new_flags_single.are_in_middle.Goals as goal

pub returns-clause-first : goal.returns-clause-first
returns-clause-first c h = c.from_middle.ensures (omega (arith, ltb-true _ _ h, le_or_l c.from_middle.result c.from_middle-2.result))

pub returns-clause-second : goal.returns-clause-second
returns-clause-second c h = c.from_middle-2.ensures (omega (arith, ltb-true _ _ h, le_or_r c.from_middle.result c.from_middle-2.result))
