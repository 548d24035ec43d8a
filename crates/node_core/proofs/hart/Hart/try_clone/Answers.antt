-- The clone has the same bytes of memory and the same communication, so it keeps to the invariant too.
use Rattle.std.proofs.Common.{◌≡◌, ap}
use Rattle.node_memory.specs.Pages.{PagedMemory}
use Rattle.node_core.proofs.hart.Hart.try_clone.Goals as goal

pub invariant_of-result : goal.invariant_of-result
invariant_of-result g c =
    let bytes : c.in_ok-share.field-0.bytes ≡ c.self.inside.memory.bytes = ap (λ (m : PagedMemory). m.bytes) c.in_ok-share.ensures in
    rw (bytes, c.in_ok-try_clone.ensures.value) c.self.invariant
