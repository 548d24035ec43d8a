-- What an instruction keeps of a hart.
use Rattle.std.proofs.Common.{◌≡◌, ℕ, ◌%◌, Bool, true, false, if◌then◌else◌, List, length, Option, Some, None, Ok, Err, refl, pos, ◌+ℤ◌, w32}
use Rattle.std.specs.Prelude.{◌==◌, is_some, IsTrue}
use Rattle.std.specs.Int.{to_le_bytes}
use Rattle.std.specs.declared.result.Result.{Result}
use Rattle.node_memory.specs.Bytes.{fits, with_bytes}
use Rattle.node_memory.proofs.Writes.{length-with_bytes}
use Rattle.rv_tables.specs.declared.code.Code.{Code}
use Rattle.rv_tables.specs.declared.instr.Instr.{Instr}
use Rattle.rv_tables.specs.declared.instr.Instr.TheVariants.{R, I, Shift, Load, Store, Branch, Upper, Jal, Jalr, Plain}
use Rattle.rv_tables.specs.declared.instr.PlainOp.{PlainOp}
use Rattle.rv_tables.specs.declared.instr.PlainOp.TheVariants.{Fence, FenceI, Ecall, Ebreak}
use Rattle.rv_tables.specs.Codes.{decoded, length_of}
use Rattle.node_core.specs.Hart.{Hart, After, reg, with_reg, with_memory, reserves, past, goes_on, faults, next_pc}
use Rattle.rv_values.specs.Arithmetic.{modulo, is_taken}
use Rattle.node_core.specs.Calls.{named_call}
use Rattle.rv_float_tables.specs.declared.instr.FloatInstr.{FloatInstr}
use Rattle.rv_float_tables.specs.declared.instr.FloatInstr.TheVariants as float
use Rattle.rv_float_tables.specs.declared.instr.Format.{Format}
use Rattle.rv_float_tables.specs.Codes.{float_decoded}
use Rattle.float_unit.specs.declared.fault.FloatFault.{FloatFault}
use Rattle.float_unit.specs.State.{FloatState}
use Rattle.float_unit.specs.Effects.{Outcome, float_effect}
use Rattle.node_core.specs.Effects.{address, effect_of, plain_effect, jumps, store_effect}
use Rattle.node_core.specs.Floats.{size_of, pattern_at, integer_source, integer_target, with_integer, outcome_effect, float_load_effect}
use Rattle.node_core.specs.Floats.{float_effect_of, on_unit}
use Rattle.rv_atomics.specs.declared.instr.AtomicInstr.{AtomicInstr}
use Rattle.rv_atomics.specs.declared.instr.AtomicInstr.TheVariants.{LoadReserved, StoreConditional, Amo}
use Rattle.rv_atomics.specs.declared.reservation.Reservation.{Reservation}
use Rattle.rv_atomics.specs.declared.reservation.Reservation.TheVariants as reservation
use Rattle.rv_atomics.specs.declared.reservation.Reservation.TheVariants.{Nothing}
use Rattle.rv_atomics.specs.Codes.{atomic_decoded}
use Rattle.node_core.specs.declared.state.Fault.{Fault}
use Rattle.node_core.specs.declared.state.Fault.TheVariants.{LoadOutside, StoreOutside}
use Rattle.node_core.specs.Atomics.{is_aligned, on_word, storing, is_reserved, stored_conditionally, atomic_effect_of, on_reservation}
use Rattle.node_core.specs.Executed.{effect_if_any, code_effect, executed, fetched, float_effect_if_any, atomic_effect_if_any}
use Rattle.node_memory.proofs.Bytes.{fits-le}
use Rattle.node_core.proofs.Harts.{Keeps, Keeps-same, Keeps-then, Keeps-pc, Keeps-reg, Keeps-unit, Keeps-reserves, Keeps-memory}
use Rattle.node_core.proofs.Calls.{Keeps-if, Keeps-ecall}

module _ (h : Hart) where
  Keeps-jump : (target : ℕ) (linked : Hart) → Keeps h linked → Keeps h (jumps target linked).hart
  Keeps-jump target linked keeps = Keeps-then h linked _ keeps (Keeps-pc linked target)

module _ (h : Hart) (n : ℕ) where
  Keeps-past : (next : Hart) → Keeps h next → Keeps h (past n next)
  Keeps-past next keeps = Keeps-then h next (past n next) keeps (Keeps-pc next _)

  put : (rd value : ℕ) → Keeps h (past n (with_reg rd value h))
  put rd value = Keeps-past (with_reg rd value h) (Keeps-reg h rd value)

  Keeps-store : (bytes : List ℕ) (addr : ℕ) → Keeps h (store_effect bytes addr n h).hart
  Keeps-store bytes addr =
      Keeps-if h (fits (length h.memory) addr (length bytes)) (goes_on (past n (with_memory (with_bytes h.memory addr bytes) h))) _
      (λ fit. Keeps-past _ (Keeps-memory h _ (length-with_bytes h.memory addr bytes (fits-le (length h.memory) addr (length bytes) fit))))
      (Keeps-same h)

  Keeps-plain : (op : PlainOp) (input : List ℕ) → Keeps h (plain_effect op n input h).hart
  Keeps-plain Fence input = Keeps-past h (Keeps-same h)
  Keeps-plain FenceI input = Keeps-past h (Keeps-same h)
  Keeps-plain Ecall input = Keeps-ecall h (named_call h) input
  Keeps-plain Ebreak input = Keeps-same h

  Keeps-effect : (i : Instr) (input : List ℕ) → Keeps h (effect_of i n input h).hart
  Keeps-effect (R op rd rs1 rs2) input = put _ _
  Keeps-effect (I op rd rs1 imm) input = put _ _
  Keeps-effect (Shift op rd rs1 shamt) input = put _ _
  Keeps-effect (Load op rd rs1 imm) input = Keeps-if h _ (goes_on (past n (with_reg rd _ h))) _ (λ fit. put rd _) (Keeps-same h)
  Keeps-effect (Store op rs1 rs2 imm) input = Keeps-store _ _
  Keeps-effect (Branch op rs1 rs2 imm) input =
      let target = modulo (pos h.pc +ℤ imm) in
      Keeps-if h (is_taken op (reg h rs1) (reg h rs2)) (jumps target h) (goes_on (past n h)) (λ taken. Keeps-jump h target h (Keeps-same h))
      (Keeps-past h (Keeps-same h))
  Keeps-effect (Upper op rd imm) input = put _ _
  Keeps-effect (Jal rd imm) input = Keeps-jump h _ (with_reg rd (next_pc n h) h) (Keeps-reg h rd (next_pc n h))
  Keeps-effect (Jalr rd rs1 imm) input = Keeps-jump h _ (with_reg rd (next_pc n h) h) (Keeps-reg h rd (next_pc n h))
  Keeps-effect (Plain op) input = Keeps-plain op input

  Keeps-integer : (rd : ℕ) (value : Option ℕ) (next : Hart) → Keeps h next → Keeps h (with_integer rd value next)
  Keeps-integer rd None next keeps = keeps
  Keeps-integer rd (Some value) next keeps = Keeps-then h next _ keeps (Keeps-reg next rd value)

  Keeps-outcome : (rd : ℕ) (answer : Result Outcome FloatFault) → is_some h.unit ≡ true → Keeps h (outcome_effect rd answer n h).hart
  Keeps-outcome rd (Ok outcome) has = Keeps-past _ (Keeps-integer rd outcome.integer _ (Keeps-unit h outcome.state has))
  Keeps-outcome rd (Err fault) has = Keeps-same h

  Keeps-float_load : (i : FloatInstr) (format : Format) (addr : ℕ) (u : FloatState) → is_some h.unit ≡ true
      → Keeps h (float_load_effect i format addr u n h).hart
  Keeps-float_load i format addr u has =
      Keeps-if h (fits (length h.memory) addr (size_of format))
      (outcome_effect 0 (float_effect i 0 (pattern_at format h.memory addr) u) n h) _
      (λ fit. Keeps-outcome 0 (float_effect i 0 (pattern_at format h.memory addr) u) has) (Keeps-same h)

  Keeps-float : (i : FloatInstr) (u : FloatState) → is_some h.unit ≡ true → Keeps h (float_effect_of i u n h).hart
  Keeps-float (float.Load format rd rs1 imm) u has = Keeps-float_load (float.Load format rd rs1 imm) format (address h rs1 imm) u has
  Keeps-float (float.Store format rs1 rs2 imm) u has = Keeps-store _ _
  Keeps-float i u has = Keeps-outcome (integer_target i) (float_effect i (reg h (integer_source i)) 0 u) has

  on-unit : (unit : Option FloatState) (effect : FloatState → After) → h.unit ≡ unit
      → ((u : FloatState) → is_some h.unit ≡ true → Keeps h (effect u).hart) → Keeps h (on_unit unit effect h).hart
  on-unit None effect is keeps = Keeps-same h
  on-unit (Some u) effect is keeps = keeps u (rw is refl)

  -- a word is written into memory that has room for it
  Keeps-word : (addr value : ℕ) (start : Hart) → Keeps h start → IsTrue (fits (length start.memory) addr 4)
      → Keeps h (storing addr value start)
  Keeps-word addr value start keeps fit =
      Keeps-then h start _ keeps
      (Keeps-memory start _ (length-with_bytes start.memory addr (to_le_bytes w32 value) (fits-le (length start.memory) addr 4 fit)))

  Keeps-put : (rd value : ℕ) (next : Hart) → Keeps h next → Keeps h (past n (with_reg rd value next))
  Keeps-put rd value next keeps = Keeps-past _ (Keeps-then h next _ keeps (Keeps-reg next rd value))

  Keeps-on_word : (outside : Fault) (addr : ℕ) (effect : After) → (IsTrue (fits (length h.memory) addr 4) → Keeps h effect.hart)
      → Keeps h (on_word outside addr effect h).hart
  Keeps-on_word outside addr effect keeps =
      Keeps-if h (is_aligned addr) (if fits (length h.memory) addr 4 then effect else faults outside h) _
      (λ aligned. Keeps-if h (fits (length h.memory) addr 4) effect _ keeps (Keeps-same h)) (Keeps-same h)

  Keeps-stored_conditionally : (succeeds : Bool) (rd value addr : ℕ) → is_some h.reservation ≡ true
      → IsTrue (fits (length h.memory) addr 4)
      → Keeps h (past n (stored_conditionally succeeds rd value addr (reserves Nothing h)))
  Keeps-stored_conditionally true rd value addr has fit =
      Keeps-put rd 0 _ (Keeps-word addr value (reserves Nothing h) (Keeps-reserves h Nothing has) fit)
  Keeps-stored_conditionally false rd value addr has fit = Keeps-put rd 1 _ (Keeps-reserves h Nothing has)

  Keeps-atomic : (i : AtomicInstr) (r : Reservation) → is_some h.reservation ≡ true → Keeps h (atomic_effect_of i r n h).hart
  Keeps-atomic (LoadReserved order rd rs1) r has =
      Keeps-on_word LoadOutside (reg h rs1) _ (λ fit. Keeps-put rd _ _ (Keeps-reserves h (reservation.Word (reg h rs1)) has))
  Keeps-atomic (StoreConditional order rd rs1 rs2) r has =
      Keeps-on_word StoreOutside (reg h rs1) _
      (Keeps-stored_conditionally (is_reserved r (reg h rs1)) rd (reg h rs2) (reg h rs1) has)
  Keeps-atomic (Amo op order rd rs1 rs2) r has =
      Keeps-on_word StoreOutside (reg h rs1) _ (λ fit. Keeps-put rd _ _ (Keeps-word (reg h rs1) _ h (Keeps-same h) fit))

  on-reservation : (r : Option Reservation) (effect : Reservation → After) → h.reservation ≡ r
      → ((r : Reservation) → is_some h.reservation ≡ true → Keeps h (effect r).hart) → Keeps h (on_reservation r effect h).hart
  on-reservation None effect is keeps = Keeps-same h
  on-reservation (Some r) effect is keeps = keeps r (rw is refl)

  atomic-any : (i : Option AtomicInstr) → Keeps h (atomic_effect_if_any i n h).hart
  atomic-any None = Keeps-same h
  atomic-any (Some i) = on-reservation h.reservation (λ r. atomic_effect_of i r n h) refl (Keeps-atomic i)

module _ (h : Hart) where
  float-any : (i : Option FloatInstr) (code : Code) → Keeps h (float_effect_if_any i code h).hart
  float-any None code = atomic-any h (length_of code) (atomic_decoded code)
  float-any (Some i) code =
      on-unit h (length_of code) h.unit (λ u. float_effect_of i u (length_of code) h) refl (Keeps-float h (length_of code) i)

  if_any : (i : Option Instr) (code : Code) (input : List ℕ) → Keeps h (effect_if_any i code input h).hart
  if_any None code input = float-any (float_decoded code) code
  if_any (Some i) code input = Keeps-effect h (length_of code) i input

  Keeps-code : (code : Option Code) (input : List ℕ) → Keeps h (code_effect code input h).hart
  Keeps-code None input = Keeps-same h
  Keeps-code (Some code) input = if_any (decoded code) code input

  pub Keeps-executed : (input : List ℕ) → Keeps h (executed input h).hart
  Keeps-executed input =
      Keeps-if h (h.pc % 2 == 0) (code_effect (fetched h) input h) _ (λ aligned. Keeps-code (fetched h) input) (Keeps-same h)
