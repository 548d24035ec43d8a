-- Each part of the copy is the same as that of the machine, so it is the same machine, and as sound.
use Rattle.machine_core.proofs.machine.Machine.try_clone.Goals as goal

pub invariant_of-result : goal.invariant_of-result
invariant_of-result g c =
    rw (
      c.in_ok-try_clone.ensures.ok,
      c.in_ok-try_clone-2.ensures,
      c.deref.ensures.value,
      c.in_ok-from_slice.ensures.items,
      c.deref-2.ensures.value,
      c.in_ok-from_slice-2.ensures.items,
      c.deref-3.ensures.value,
      c.in_ok-try_clone-3.ensures,
    ) c.self.invariant

pub returns : goal.returns
returns g c =
    rw (
      c.in_ok-try_clone.ensures.ok,
      c.in_ok-try_clone-2.ensures,
      c.deref.ensures.value,
      c.in_ok-from_slice.ensures.items,
      c.deref-2.ensures.value,
      c.in_ok-from_slice-2.ensures.items,
      c.deref-3.ensures.value,
      c.in_ok-try_clone-3.ensures,
    ) c.self.view_is
