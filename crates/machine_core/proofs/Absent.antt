-- A node without a reservation, not even of nothing, has no instruction of A: their codes have no instruction in the other tables.
use Rattle.std.proofs.Common.{◌≡◌, ℕ, ◌%◌, false, List, Option, Some, None, IsSome, All, is_some, refl}
use Rattle.std.proofs.lemmas.Bool.{eq-eqb}
use Rattle.rv_tables.specs.declared.code.Code.{Code}
use Rattle.rv_tables.specs.Codes.{length_of}
use Rattle.rv_atomics.specs.declared.instr.AtomicInstr.{AtomicInstr}
use Rattle.rv_atomics.specs.declared.reservation.Reservation.{Reservation}
use Rattle.rv_atomics.specs.Codes.{atomic_decoded}
use Rattle.rv_atomics.proofs.OneTable.{none_of_integers, none_of_floats}
use Rattle.node_core.specs.declared.state.Fault.TheVariants.{IllegalInstruction}
use Rattle.node_core.specs.Executed.{fetched, executed, atomic_effect_if_any}
use Rattle.node_core.specs.Hart.{Hart, faults}
use Rattle.machine_core.specs.Absent.{LacksAtomics}
use Rattle.machine_core.specs.Machine.{MachineState}
use Rattle.machine_core.specs.Sound.{IsSoundMachine}

none_of : (o : Option Reservation) → is_some o ≡ false → o ≡ None
none_of None h = refl
none_of (Some r) h = cc

illegal : (o : Option AtomicInstr) (n : ℕ) (h : Hart) → h.reservation ≡ None → atomic_effect_if_any o n h ≡ faults IllegalInstruction h
illegal None n h none = refl
illegal (Some i) n h none = rw none refl

LacksAtomics-none : (h : Hart) → h.reservation ≡ None → LacksAtomics h
LacksAtomics-none h none input code even is some =
    rw (eq-eqb _ _ even, is, none_of_integers code some, none_of_floats code some) (illegal (atomic_decoded code) (length_of code) h none)

pub lack_atomics : (m : MachineState) → IsSoundMachine m → m.settings.atomic ≡ false → All (λ n. LacksAtomics n.hart) m.nodes
lack_atomics m sound off = λ k d within.
    let n = sound.nodes k d within in LacksAtomics-none _ (none_of _ (rw off at n.reservation))
