-- The effect of an instruction of A on a hart that has these (RISC-V Unprivileged ISA 20191213, chapter 8 "A" Standard Extension for Atomic
-- Instructions).
--
-- The manual leaves to the machine which of two exceptions an address raises that is not naturally aligned (sections 8.2 and 8.4: "an
-- address-misaligned exception or an access-fault exception"), how large a reservation set is (section 8.2), and when an SC fails that may
-- succeed. Here such an address is `Misaligned`, the reservation set is the word that LR loads, and SC succeeds where the last LR reserved its
-- word and no SC and no environment call came since. Others write to the memory of this node by its calls and while it waits at `sync`, so
-- until a call no write of another hart or device is to be observed (section 8.2), and aq and rl ask for no more than the order of the
-- program (section 8.1). The hart's own stores leave its reservation.
use Rattle.std.specs.Prelude.{ℕ, ◌%◌, ◌==◌, Bool, false, List, length, IsTrue, if◌then◌else◌, Option, Some, None}
use Rattle.node_memory.specs.Bytes.{fits, word_at}
use Rattle.node_memory.specs.Pages.{Owns}
use Rattle.rv_atomics.specs.declared.instr.AmoOp.{AmoOp}
use Rattle.rv_atomics.specs.declared.instr.AtomicInstr.{AtomicInstr}
use Rattle.rv_atomics.specs.declared.instr.AtomicInstr.TheVariants.{LoadReserved, StoreConditional, Amo}
use Rattle.rv_atomics.specs.declared.reservation.Reservation.{Reservation}
use Rattle.rv_atomics.specs.declared.reservation.Reservation.TheVariants.{Nothing, Word}
use Rattle.rv_atomics.specs.Values.{amo_value}
use Rattle.node_core.specs.declared.state.Fault.{Fault}
use Rattle.node_core.specs.declared.state.Fault.TheVariants.{IllegalInstruction, LoadOutside, StoreOutside, Misaligned}
use Rattle.node_core.specs.Calls.{with_word}
use Rattle.node_core.specs.Hart.{Hart, After, reg, with_reg, with_memory, reserves, past, goes_on, faults}

-- naturally aligned, of a word
abbrev pub is_aligned : ℕ → Bool
is_aligned addr = addr % 4 == 0

-- an effect on the word at an address, or the first fault of this order: the address is not aligned; the word is not in the memory
abbrev pub on_word : Fault → ℕ → After → Hart → After
on_word outside addr effect h =
    if is_aligned addr then (if fits (length h.memory) addr 4 then effect else faults outside h) else faults Misaligned h

-- `value` in the word at an address
abbrev pub storing : ℕ → ℕ → Hart → Hart
storing addr value h = with_memory (with_word h.memory addr value) h

-- whether the word at an address is reserved
abbrev pub is_reserved : Reservation → ℕ → Bool
is_reserved Nothing addr = false
is_reserved (Word reserved) addr = reserved == addr

-- LR.W (section 8.2): it "loads a word from the address in rs1, places [it] in rd, and registers a reservation set"
abbrev pub load_reserved_effect : ℕ → ℕ → ℕ → Hart → After
load_reserved_effect rd addr n h =
    on_word LoadOutside addr (goes_on (past n (with_reg rd (word_at h.memory addr) (reserves (Word addr) h)))) h

-- a hart after an SC.W: it "writes the word in rs2 to memory, and it writes zero to rd", or it "does not write to memory, and it writes a
-- nonzero value to rd", of which 1 is the one for an unspecified failure
abbrev pub stored_conditionally : Bool → ℕ → ℕ → ℕ → Hart → Hart
stored_conditionally succeeds rd value addr h = if succeeds then with_reg rd 0 (storing addr value h) else with_reg rd 1 h

-- SC.W (section 8.2): it "succeeds only if the reservation is still valid and the reservation set contains the bytes being written", and
-- "regardless of success or failure, executing an SC.W instruction invalidates any reservation held by this hart"
abbrev pub store_conditional_effect : ℕ → ℕ → ℕ → Reservation → ℕ → Hart → After
store_conditional_effect rd value addr reservation n h =
    on_word StoreOutside addr
    (goes_on (past n (stored_conditionally (is_reserved reservation addr) rd value addr (reserves Nothing h)))) h

-- AMO (section 8.4): it loads the word from the address, "places the value into register rd, applies a binary operator to the loaded value
-- and the original value in rs2, then stores the result back". What is outside of the memory is a fault of the store
abbrev pub amo_effect : AmoOp → ℕ → ℕ → ℕ → ℕ → Hart → After
amo_effect op rd operand addr n h =
    let loaded = word_at h.memory addr in
    on_word StoreOutside addr (goes_on (past n (with_reg rd loaded (storing addr (amo_value op loaded operand) h)))) h

-- the effect of an instruction of n bytes on a hart with this reservation
abbrev pub atomic_effect_of : AtomicInstr → Reservation → ℕ → Hart → After
atomic_effect_of (LoadReserved order rd rs1) reservation n h = load_reserved_effect rd (reg h rs1) n h
atomic_effect_of (StoreConditional order rd rs1 rs2) reservation n h =
    store_conditional_effect rd (reg h rs2) (reg h rs1) reservation n h
atomic_effect_of (Amo op order rd rs1 rs2) reservation n h = amo_effect op rd (reg h rs2) (reg h rs1) n h

-- what comes of an effect on the reservation, where the hart has the instructions of A
abbrev pub on_reservation : Option Reservation → (Reservation → After) → Hart → After
on_reservation None effect h = faults IllegalInstruction h
on_reservation (Some reservation) effect h = effect reservation

-- an address at which a word may be stored
abbrev pub IsStorable : ℕ → Hart → Type 0
IsStorable addr h = IsTrue (is_aligned addr) × IsTrue (fits (length h.memory) addr 4)

-- an instruction that may be refused memory: one that stores into the memory, since a page of it may be shared
abbrev pub MayRefuseAtomic : AtomicInstr → Reservation → Hart → Type 0
MayRefuseAtomic (LoadReserved order rd rs1) reservation h = ⊥
MayRefuseAtomic (StoreConditional order rd rs1 rs2) reservation h = IsTrue (is_reserved reservation (reg h rs1)) × IsStorable (reg h rs1) h
MayRefuseAtomic (Amo op order rd rs1 rs2) reservation h = IsStorable (reg h rs1) h

-- an instruction whose word, if it stores it, lies in private pages
abbrev pub AtomicStoresInPrivate : AtomicInstr → List Bool → Hart → Type 0
AtomicStoresInPrivate (LoadReserved order rd rs1) private h = ⊥
AtomicStoresInPrivate (StoreConditional order rd rs1 rs2) private h = Owns private (reg h rs1) 4
AtomicStoresInPrivate (Amo op order rd rs1 rs2) private h = Owns private (reg h rs1) 4
