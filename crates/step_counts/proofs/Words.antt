-- The address of a step is a word: pc is one, and each effect leaves one in it.
use Rattle.std.proofs.Common.{◌≡◌, ℕ, zero, suc, ◌-◌, ◌/◌, ◌*◌, ◌%◌, ◌^◌, ◌<◌, ◌==◌, Bool, true, false, ◌≤◌, List, [], ◌∷◌, length, take}
use Rattle.std.proofs.Common.{Option, Some, None, Ok, Err, refl, subst, pos, ◌+ℤ◌, arith}
use Rattle.std.specs.Prelude.{All, is_some, if◌then◌else◌}
use Rattle.std.specs.declared.result.Result.{Result}
use Rattle.std.specs.Fn.{iterate}
use Rattle.std.specs.List.{range_with_len}
use Rattle.std.proofs.lemmas.List.{take_all}
use Rattle.std.proofs.lemmas.List.Elements.{All-cons, All-map, All-nil}
use Rattle.rv_values.specs.Arithmetic.{is_taken}
use Rattle.rv_values.proofs.Signed.{modulo-lt}
use Rattle.rv_tables.specs.declared.code.Code.{Code}
use Rattle.rv_tables.specs.declared.instr.Instr.{Instr}
use Rattle.rv_tables.specs.declared.instr.Instr.TheVariants.{R, I, Shift, Load, Store, Branch, Upper, Jal, Jalr, Plain}
use Rattle.rv_tables.specs.declared.instr.LoadOp.{LoadOp}
use Rattle.rv_tables.specs.declared.instr.PlainOp.{PlainOp}
use Rattle.rv_tables.specs.declared.instr.PlainOp.TheVariants.{Fence, FenceI, Ecall, Ebreak}
use Rattle.rv_tables.specs.Codes.{decoded, length_of}
use Rattle.rv_float_tables.specs.declared.instr.FloatInstr.{FloatInstr}
use Rattle.rv_float_tables.specs.declared.instr.FloatInstr.TheVariants as float
use Rattle.rv_float_tables.specs.declared.instr.Format.{Format}
use Rattle.rv_float_tables.specs.Codes.{float_decoded}
use Rattle.float_unit.specs.declared.fault.FloatFault.{FloatFault}
use Rattle.float_unit.specs.State.{FloatState}
use Rattle.float_unit.specs.Effects.{Outcome as UnitOutcome, float_effect}
use Rattle.rv_atomics.specs.declared.instr.AtomicInstr.{AtomicInstr}
use Rattle.rv_atomics.specs.declared.instr.AtomicInstr.TheVariants.{LoadReserved, StoreConditional, Amo}
use Rattle.rv_atomics.specs.declared.reservation.Reservation.{Reservation}
use Rattle.rv_atomics.specs.declared.reservation.Reservation.TheVariants.{Nothing}
use Rattle.rv_atomics.specs.Codes.{atomic_decoded}
use Rattle.bsp_requests.specs.Message.{Message}
use Rattle.node_memory.specs.Bytes.{fits}
use Rattle.node_memory.specs.Image.{Image}
use Rattle.node_core.specs.declared.call.Call.{Call}
use Rattle.node_core.specs.declared.call.Call.TheVariants.{End, Nprocs, Pid, Sync, PushReg, PopReg, Put, Get, Hpput, Hpget, SetTagsize}
use Rattle.node_core.specs.declared.call.Call.TheVariants.{Send, Qsize, GetTag, Move, Abort, Write, Read}
use Rattle.node_core.specs.declared.state.Fault.{Fault}
use Rattle.node_core.specs.declared.state.Fault.TheVariants.{LoadOutside, StoreOutside}
use Rattle.node_core.specs.Addresses.{next_addresses}
use Rattle.node_core.specs.Atomics.{atomic_effect_of, is_aligned, is_reserved, on_reservation, on_word, stored_conditionally}
use Rattle.node_core.specs.Calls.{Check, checked, checks, ecall_effect, first_message, get_tag_effect, move_effect, named_call, performed}
use Rattle.node_core.specs.Clock.{asks_clock, clocked, tells, time_at}
use Rattle.node_core.specs.Effects.{address, effect_of, load_effect, load_size, loaded, plain_effect, store_effect}
use Rattle.node_core.specs.Executed.{atomic_effect_if_any, code_effect, effect_if_any, executed, fetched, float_effect_if_any}
use Rattle.node_core.specs.Floats.{float_effect_of, float_load_effect, integer_source, integer_target}
use Rattle.node_core.specs.Floats.{on_unit, outcome_effect, pattern_at, size_of}
use Rattle.node_core.specs.Hart.{Hart, After, faults, goes_on, past, reg, reserves, with_reg}
use Rattle.node_core.specs.Node.{NodeState, PreparedNode, is_running, local_step}
use Rattle.node_core.proofs.Addresses.{next-running, next-stopped, next-zero}
use Rattle.node_core.proofs.Sound.{local_step-running}
use Rattle.node_core.proofs.Steps.{local_step-stopped}
use Rattle.bsp_exchange.specs.Exchange.{exchanged_node, states}
use Rattle.machine_core.specs.declared.outcome.Outcome.{Outcome}
use Rattle.machine_core.specs.declared.settings.Settings.{Settings}
use Rattle.machine_core.specs.Clock.{closed_by}
use Rattle.machine_core.specs.Machine.{MachineState, fresh, node_at_start}
use Rattle.machine_core.specs.Turn.{decided, outcome_of, recorded, superstep, turned, with_phases}
use Rattle.machine_core.proofs.Clocks.{All-clocks}
use Rattle.machine_core.proofs.Phases.{All-phases}
use Rattle.machine_core.proofs.Sound.{superstep-open, superstep-over}
use Rattle.step_counts.specs.Counts.{addresses, HasWordPcs}

-- what comes of a hart has a word in pc, if the hart has
abbrev pub LeavesWord : Hart → After → Type 0
LeavesWord h a = h.pc < 2 ^ 32 → a.hart.pc < 2 ^ 32

below : (n : ℕ) → n % 2 ^ 32 < 2 ^ 32
below n = omega arith

module _ (h : Hart) where
  word-if : (b : Bool) (x y : After) → LeavesWord h x → LeavesWord h y → LeavesWord h (if b then x else y)
  word-if true x y one other = one
  word-if false x y one other = other

  word-checked : (cs : List Check) (a : After) → LeavesWord h a → LeavesWord h (checked cs h a)
  word-checked [] a leaves = leaves
  word-checked (c ∷ cs) a leaves = word-if c.passes (checked cs h a) _ (word-checked cs a leaves) (λ word. word)

  word-tag : (first : Option Message) → LeavesWord h (get_tag_effect first h)
  word-tag None = λ word. below _
  word-tag (Some m) = λ word. below _

  word-move : (first : Option Message) → LeavesWord h (move_effect first h)
  word-move None = λ word. below _
  word-move (Some m) = λ word. below _

  word-performed : (call : Call) (input : List ℕ) → LeavesWord h (performed call input h)
  word-performed End input = λ word. below _
  word-performed Nprocs input = λ word. below _
  word-performed Pid input = λ word. below _
  word-performed Sync input = λ word. below _
  word-performed PushReg input = λ word. below _
  word-performed PopReg input = λ word. below _
  word-performed Put input = λ word. below _
  word-performed Get input = λ word. below _
  word-performed Hpput input = λ word. below _
  word-performed Hpget input = λ word. below _
  word-performed SetTagsize input = λ word. below _
  word-performed Send input = λ word. below _
  word-performed Qsize input = λ word. below _
  word-performed GetTag input = word-tag (first_message h)
  word-performed Move input = word-move (first_message h)
  word-performed Abort input = λ word. below _
  word-performed Write input = λ word. below _
  word-performed Read input = λ word. below _

  word-ecall : (call : Option Call) (input : List ℕ) → LeavesWord h (ecall_effect call input h)
  word-ecall None input = λ word. word
  word-ecall (Some call) input = word-checked (checks call input h) (performed call input h) (word-performed call input)

module _ (h : Hart) (n : ℕ) where
  word-store : (bytes : List ℕ) (addr : ℕ) → LeavesWord h (store_effect bytes addr n h)
  word-store bytes addr = word-if h (fits _ addr _) _ _ (λ word. below _) (λ word. word)

  word-load : (op : LoadOp) (rd addr : ℕ) → LeavesWord h (load_effect op rd addr n h)
  word-load op rd addr =
      word-if h (fits (length h.memory) addr (load_size op)) (goes_on (past n (with_reg rd (loaded op h.memory addr) h)))
      (faults LoadOutside h)
      (λ word. below _) (λ word. word)

  word-plain : (op : PlainOp) (input : List ℕ) → LeavesWord h (plain_effect op n input h)
  word-plain Fence input = λ word. below _
  word-plain FenceI input = λ word. below _
  word-plain Ecall input = word-ecall h (named_call h) input
  word-plain Ebreak input = λ word. word

  even-below : (target : ℕ) → target < 2 ^ 32 → target / 2 * 2 < 2 ^ 32
  even-below target word = omega (arith, word)

  word-effect : (i : Instr) (input : List ℕ) → LeavesWord h (effect_of i n input h)
  word-effect (R op rd rs1 rs2) input = λ word. below _
  word-effect (I op rd rs1 imm) input = λ word. below _
  word-effect (Shift op rd rs1 shamt) input = λ word. below _
  word-effect (Load op rd rs1 imm) input = word-load op rd (address h rs1 imm)
  word-effect (Store op rs1 rs2 imm) input = word-store _ _
  word-effect (Branch op rs1 rs2 imm) input =
      word-if h (is_taken op (reg h rs1) (reg h rs2)) _ _ (λ word. modulo-lt (pos h.pc +ℤ imm)) (λ word. below _)
  word-effect (Upper op rd imm) input = λ word. below _
  word-effect (Jal rd imm) input = λ word. modulo-lt (pos h.pc +ℤ imm)
  word-effect (Jalr rd rs1 imm) input = λ word. even-below (address h rs1 imm) (modulo-lt (pos (reg h rs1) +ℤ imm))
  word-effect (Plain op) input = word-plain op input

  word-outcome : (rd : ℕ) (answer : Result UnitOutcome FloatFault) → LeavesWord h (outcome_effect rd answer n h)
  word-outcome rd (Ok outcome) = λ word. below _
  word-outcome rd (Err fault) = λ word. word

  word-float_load : (i : FloatInstr) (format : Format) (addr : ℕ) (u : FloatState) → LeavesWord h (float_load_effect i format addr u n h)
  word-float_load i format addr u =
      word-if h (fits _ addr (size_of format)) _ _ (word-outcome 0 (float_effect i 0 (pattern_at format h.memory addr) u)) (λ word. word)

  word-float : (i : FloatInstr) (u : FloatState) → LeavesWord h (float_effect_of i u n h)
  word-float (float.Load format rd rs1 imm) u = word-float_load (float.Load format rd rs1 imm) format (address h rs1 imm) u
  word-float (float.Store format rs1 rs2 imm) u = word-store _ _
  word-float i u = word-outcome (integer_target i) (float_effect i (reg h (integer_source i)) 0 u)

  word-on_unit : (unit : Option FloatState) (effect : FloatState → After) → ((u : FloatState) → LeavesWord h (effect u))
      → LeavesWord h (on_unit unit effect h)
  word-on_unit None effect leaves = λ word. word
  word-on_unit (Some u) effect leaves = leaves u

  word-on_word : (outside : Fault) (addr : ℕ) (effect : After) → LeavesWord h effect → LeavesWord h (on_word outside addr effect h)
  word-on_word outside addr effect leaves =
      word-if h (is_aligned addr) (if fits (length h.memory) addr 4 then effect else faults outside h) _
      (word-if h (fits (length h.memory) addr 4) effect _ leaves (λ word. word)) (λ word. word)

  word-atomic : (i : AtomicInstr) (r : Reservation) → LeavesWord h (atomic_effect_of i r n h)
  word-atomic (LoadReserved order rd rs1) r = word-on_word LoadOutside (reg h rs1) _ (λ word. below _)
  word-atomic (StoreConditional order rd rs1 rs2) r =
      word-on_word StoreOutside (reg h rs1)
      (goes_on (past n (stored_conditionally (is_reserved r (reg h rs1)) rd (reg h rs2) (reg h rs1) (reserves Nothing h))))
      (λ word. below _)
  word-atomic (Amo op order rd rs1 rs2) r = word-on_word StoreOutside (reg h rs1) _ (λ word. below _)

  word-on_reservation : (r : Option Reservation) (effect : Reservation → After) → ((r : Reservation) → LeavesWord h (effect r))
      → LeavesWord h (on_reservation r effect h)
  word-on_reservation None effect leaves = λ word. word
  word-on_reservation (Some r) effect leaves = leaves r

  word-atomic_any : (i : Option AtomicInstr) → LeavesWord h (atomic_effect_if_any i n h)
  word-atomic_any None = λ word. word
  word-atomic_any (Some i) = word-on_reservation h.reservation (λ r. atomic_effect_of i r n h) (word-atomic i)

module _ (h : Hart) (input : List ℕ) where
  word-float_any : (i : Option FloatInstr) (code : Code) → LeavesWord h (float_effect_if_any i code h)
  word-float_any None code = word-atomic_any h (length_of code) (atomic_decoded code)
  word-float_any (Some i) code =
      word-on_unit h (length_of code) h.unit (λ u. float_effect_of i u (length_of code) h) (word-float h (length_of code) i)

  word-any : (i : Option Instr) (code : Code) → LeavesWord h (effect_if_any i code input h)
  word-any None code = word-float_any (float_decoded code) code
  word-any (Some i) code = word-effect h (length_of code) i input

  word-code : (code : Option Code) → LeavesWord h (code_effect code input h)
  word-code None = λ word. word
  word-code (Some code) = word-any (decoded code) code

  word-executed : LeavesWord h (executed input h)
  word-executed = word-if h (h.pc % 2 == 0) (code_effect (fetched h) input h) _ (word-code (fetched h)) (λ word. word)

  word-clocked : (time : Option ℕ) (a : After) → LeavesWord h a → LeavesWord h (clocked time a)
  word-clocked None a leaves = leaves
  word-clocked (Some time) a leaves = word-if h (asks_clock a) (tells time a.hart) a (λ word. below _) leaves

-- the node's next step is at a word
abbrev pub HasWordPc : NodeState → Type 0
HasWordPc n = n.hart.pc < 2 ^ 32

pub word-local_step : (input : List ℕ) (n : NodeState) → HasWordPc n → HasWordPc (local_step input n)
word-local_step input n word = by (is_running n.state) refl
  where
    by : (b : Bool) → is_running n.state ≡ b → HasWordPc (local_step input n)
    by true is =
        rw (local_step-running input n is)
        (word-clocked n.hart input (time_at n.clock n.ticks) (executed input n.hart) (word-executed n.hart input) word)
    by false is = rw (local_step-stopped input n is) word

abbrev pub IsWord : ℕ → Type 0
IsWord address = address < 2 ^ 32

-- the addresses of its next steps are words
words-next : (input : List ℕ) (k : ℕ) (n : NodeState) → HasWordPc n → All IsWord (next_addresses input k n)
words-next input zero n word = rw (next-zero input n) (All-nil IsWord)
words-next input (suc k) n word = by (is_running n.state) refl (words-next input k (local_step input n) (word-local_step input n word))
  where
    by : (b : Bool) → is_running n.state ≡ b → All IsWord (next_addresses input k (local_step input n))
        → All IsWord (next_addresses input (suc k) n)
    by true is rest = rw (next-running input k n is) (All-cons IsWord n.hart.pc (next_addresses input k (local_step input n)) word rest)
    by false is rest = rw (next-stopped input (suc k) n is) (All-nil IsWord)

pub words-addresses : (input : List ℕ) (n : NodeState) → HasWordPc n → All IsWord (addresses input n)
words-addresses input n word = words-next input (n.limit - n.ticks) n word

-- machines at their start, and superstep by superstep
pub HasWordPcs-fresh : (image : Image) (input : List ℕ) (s : Settings) → image.entry < 2 ^ 32 → HasWordPcs (fresh image input s)
HasWordPcs-fresh image input s word = All-map HasWordPc (node_at_start image s) (range_with_len 0 s.nodes) (λ k d within. word)

HasWordPcs-decided : (o : Option Outcome) (m : MachineState) → HasWordPcs m → HasWordPcs (decided o m)
HasWordPcs-decided (Some end) m words = words
HasWordPcs-decided None m words =
    All-clocks (closed_by m.settings.clock m.ledger) HasWordPc (λ n word. word) _
    (All-map HasWordPc (exchanged_node m.nodes) m.nodes (λ k d within. words k d within))

HasWordPcs-turned : (m : MachineState) → HasWordPcs m → HasWordPcs (turned m)
unfolding turned
HasWordPcs-turned m words = HasWordPcs-decided (outcome_of m.nodes) (recorded m) words

pub HasWordPcs-superstep : (m : MachineState) → HasWordPcs m → HasWordPcs (superstep m)
HasWordPcs-superstep m words = by (is_some m.outcome) refl
  where
    by : (over : Bool) → is_some m.outcome ≡ over → HasWordPcs (superstep m)
    by true is = rw (superstep-over m is) words
    by false is =
        rw (superstep-open m is) (HasWordPcs-turned (with_phases m) (All-phases m.input HasWordPc (word-local_step m.input) m.nodes words))

pub HasWordPcs-supersteps : (k : ℕ) (m : MachineState) → HasWordPcs m → HasWordPcs (iterate superstep k m)
HasWordPcs-supersteps zero m words = words
HasWordPcs-supersteps (suc k) m words = HasWordPcs-supersteps k (superstep m) (HasWordPcs-superstep m words)

-- the pcs of a row were read
pub words-read : (row : List PreparedNode) (nodes : List NodeState) (k : ℕ) → length row ≤ k → states row ≡ nodes
    → All (λ (p : PreparedNode). p.node.hart.pc < 2 ^ 32) (take k row) → All HasWordPc nodes
words-read row nodes k whole are words =
    subst (All HasWordPc) are
    (All-map HasWordPc (λ (p : PreparedNode). p.node) row
    (subst (All (λ (p : PreparedNode). p.node.hart.pc < 2 ^ 32)) (take_all k row whole) words))
