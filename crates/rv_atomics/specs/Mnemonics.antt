-- The mnemonic of an instruction: the name of its row in the listing (RISC-V Unprivileged ISA 20191213, chapter 24) in lower case, and
-- behind it, as in the examples of section 8.2, which of the bits aq and rl are set.
use Rattle.std.specs.Prelude.{ℕ, ◌*◌, ◌^◌, List, [], ◌∷◌, ◌++◌, map, codes, find, Option}
use Rattle.std.specs.List.{flat_map}
use Rattle.std.specs.Str.{bytes_eq}
use Rattle.rv_atomics.specs.declared.instr.AmoOp.{AmoOp}
use Rattle.rv_atomics.specs.declared.instr.AmoOp.TheVariants.{Swap, Add, Xor, And, Or, Min, Max, Minu, Maxu}
use Rattle.rv_atomics.specs.declared.instr.AtomicInstr.{AtomicInstr}
use Rattle.rv_atomics.specs.declared.instr.AtomicInstr.TheVariants.{LoadReserved, StoreConditional, Amo}
use Rattle.rv_atomics.specs.declared.instr.Order.{Order}
use Rattle.rv_atomics.specs.declared.instr.Order.TheVariants.{Unordered, Release, Acquire, Sequential}
use Rattle.rv_atomics.specs.Rows.{AtomicEncoding, atomic_encodings}

abbrev pub amo_name : AmoOp → List ℕ
amo_name Swap = codes "amoswap.w"
amo_name Add = codes "amoadd.w"
amo_name Xor = codes "amoxor.w"
amo_name And = codes "amoand.w"
amo_name Or = codes "amoor.w"
amo_name Min = codes "amomin.w"
amo_name Max = codes "amomax.w"
amo_name Minu = codes "amominu.w"
amo_name Maxu = codes "amomaxu.w"

-- the name of the row of an instruction
abbrev pub row_name : AtomicInstr → List ℕ
row_name (LoadReserved order rd rs1) = codes "lr.w"
row_name (StoreConditional order rd rs1 rs2) = codes "sc.w"
row_name (Amo op order rd rs1 rs2) = amo_name op

abbrev pub order_suffix : Order → List ℕ
order_suffix Unordered = codes ""
order_suffix Release = codes ".rl"
order_suffix Acquire = codes ".aq"
order_suffix Sequential = codes ".aqrl"

abbrev pub ordering_of : AtomicInstr → Order
ordering_of (LoadReserved order rd rs1) = order
ordering_of (StoreConditional order rd rs1 rs2) = order
ordering_of (Amo op order rd rs1 rs2) = order

-- its name in assembly, as `amoadd.w` and `lr.w.aqrl`
abbrev pub atomic_mnemonic_of : AtomicInstr → List ℕ
atomic_mnemonic_of i = row_name i ++ order_suffix (ordering_of i)

-- the row that has a name, which is the same whatever word it reads
unfoldable pub atomic_row_named : List ℕ → Option AtomicEncoding
atomic_row_named name = find (λ e. bytes_eq (row_name (e.read 0)) name) atomic_encodings

-- the four instructions of a row whose registers are all x0: one for each value of aq and rl, which are bits 26 and 25
abbrev pub each_order : AtomicEncoding → List AtomicInstr
each_order e = map (λ aq_rl. e.read (aq_rl * 2 ^ 25)) (0b00 ∷ 0b01 ∷ 0b10 ∷ 0b11 ∷ [])

-- one instruction for each mnemonic, in the order of the rows
unfoldable pub atomic_samples : List AtomicInstr
atomic_samples = flat_map each_order atomic_encodings

-- the instruction that has a mnemonic, with x0 for each register
unfoldable pub atomic_named : List ℕ → Option AtomicInstr
atomic_named mnemonic = find (λ i. bytes_eq (atomic_mnemonic_of i) mnemonic) atomic_samples
