-- Output whose bytes do not all lie in the memory meets the fault of the call's checks.
use Rattle.std.proofs.Common.{◌∙◌, sym}
use Rattle.node_core.proofs.hart.Hart.write.Goals as goal

pub returns-then-not-fits-clause-ok : goal.returns-then-not-fits-clause-ok
returns-then-not-fits-clause-ok g c =
    rw (← c.reg-addr.ensures, ← c.reg-len.ensures, ← c.self.view_is, sym (rw c.plain.ensures at c.fits.ensures) ∙ c.if-not-fits.true)
