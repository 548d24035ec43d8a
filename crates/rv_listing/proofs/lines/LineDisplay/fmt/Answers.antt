-- The line of a byte, whose parts are joined in another order than the definition joins them in.
use Rattle.std.proofs.Common.{append_assoc}
use Rattle.rv_listing.proofs.lines.LineDisplay.fmt.Goals as goal

pub returns-in-Byte-clause-writes : goal.returns-in-Byte-clause-writes
returns-in-Byte-clause-writes g c = λ p ok.
    let written = simp append_assoc at (c.write-in-Byte.ensures.writes p ok) in
    rw c.in-Byte.is (simp append_assoc written)
