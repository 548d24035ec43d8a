-- If the offset is past the size, the bytes end past it too, however many they are.
use Rattle.std.proofs.Common.{◌≡◌, ℕ, ◌+◌, ◌<◌, not, leb, ltb, arith}
use Rattle.std.proofs.lemmas.Bool.Decides.{nat_tests}
use Rattle.bsp_exchange.proofs.checks.ends_past.Goals as goal

past_offset : (offset len size : ℕ) → size < offset → ltb size offset ≡ not (leb (offset + len) size)
past_offset offset len size past = grind (arith, nat_tests, past)

pub returns-then-offset-size : goal.returns-then-offset-size
returns-then-offset-size c = past_offset c.args.offset c.args.len c.args.size c.if-offset-size.true
