-- Nodes without an extension of the instruction set: its instructions are illegal there (own rule, as the faults of a step are).
use Rattle.std.specs.Prelude.{◌≡◌, ℕ, ◌%◌, List, Some, IsSome}
use Rattle.rv_tables.specs.declared.code.Code.{Code}
use Rattle.rv_atomics.specs.Codes.{atomic_decoded}
use Rattle.node_core.specs.declared.state.Fault.TheVariants.{IllegalInstruction}
use Rattle.node_core.specs.Executed.{fetched, executed}
use Rattle.node_core.specs.Hart.{Hart, faults}

-- each instruction of A that the hart comes to is illegal
abbrev pub LacksAtomics : Hart → Type 0
LacksAtomics h =
    (input : List ℕ) (code : Code) → h.pc % 2 ≡ 0 → fetched h ≡ Some code → IsSome (atomic_decoded code)
    → executed input h ≡ faults IllegalInstruction h
