-- The addresses of a node's steps, one after another.
use Rattle.std.proofs.Common.{◌≡◌, ℕ, zero, suc, ◌+◌, ◌-◌, ◌%◌, ◌^◌, ◌≤◌, ◌==◌, Bool, true, false, cond, List, [], ◌∷◌, ◌++◌, length, refl}
use Rattle.std.proofs.Common.{sym, ap, subst, ◌∙◌, arith}
use Rattle.std.specs.Prelude.{if◌then◌else◌}
use Rattle.std.proofs.lemmas.Bool.{lt-leb}
use Rattle.std.proofs.lemmas.List.Sums.{sum_by-cons, count_by-le-length}
use Rattle.rv_tables.specs.declared.code.Code.{Code}
use Rattle.std.proofs.Common.{Option, None}
use Rattle.node_core.specs.declared.state.Fault.{Fault}
use Rattle.node_core.specs.declared.state.Fault.TheVariants.{Misaligned, FetchOutside}
use Rattle.node_core.specs.Addresses.{next_addresses}
use Rattle.node_core.specs.Clock.{clocked, is_of_call, time_at}
use Rattle.node_core.specs.Executed.{executed, code_effect, fetched}
use Rattle.node_core.specs.Hart.{Hart, After, faults}
use Rattle.node_core.specs.Node.{NodeState, IsNode, is_running, ticked, local_step, local_steps, phase}
use Rattle.node_core.proofs.Addresses.{next-few, next-running, next-stopped, next-zero}
use Rattle.node_core.proofs.Clocks.{clocked-fault}
use Rattle.node_core.proofs.Sound.{made, IsLater-local_step, local_step-running, local_step-ticks, IsNode-local_step}
use Rattle.node_core.proofs.Steps.{local_steps-stopped, local_steps-suc, local_steps-zero}
use Rattle.machine_core.proofs.Phases.{phase-local_step}
use Rattle.step_counts.specs.Counts.{addresses, count_in}

-- a node that does not run makes no step
pub addresses-stopped : (input : List ℕ) (n : NodeState) → is_running n.state ≡ false → addresses input n ≡ []
addresses-stopped input n stopped = next-stopped input (n.limit - n.ticks) n stopped

-- one that runs makes a step at pc first
pub addresses-running : (input : List ℕ) (n : NodeState) → IsNode n → is_running n.state ≡ true
    → addresses input n ≡ n.hart.pc ∷ addresses input (local_step input n)
addresses-running input n sound runs =
    let ticks = local_step-ticks input n runs in
    let limit = (IsLater-local_step input n).limit in
    let before = sound.has_ticks_left runs in
    let left : (local_step input n).limit - (local_step input n).ticks ≡ n.limit - (n.ticks + 1) = rw (ticks, limit) refl in
    let all : n.limit - n.ticks ≡ suc (n.limit - (n.ticks + 1)) = omega (arith, before) in
    ap (λ k. next_addresses input k n) all
    ∙ next-running input (n.limit - (n.ticks + 1)) n runs
    ∙ ap (λ k. n.hart.pc ∷ next_addresses input k (local_step input n))
    (let back : n.limit - (n.ticks + 1) ≡ (local_step input n).limit - (local_step input n).ticks = omega (arith, left) in back)

-- those of the next k steps, and then those that are left
pub addresses-split : (input : List ℕ) (k : ℕ) (n : NodeState) → IsNode n
    → addresses input n ≡ next_addresses input k n ++ addresses input (local_steps input k n)
addresses-split input zero n sound =
    ap (addresses input) (sym (local_steps-zero input n))
    ∙ ap (λ xs. xs ++ addresses input (local_steps input 0 n)) (sym (next-zero input n))
addresses-split input (suc k) n sound =
    by (is_running n.state) refl (addresses-split input k (local_step input n) (IsNode-local_step input n sound))
  where
    by : (b : Bool) → is_running n.state ≡ b
        → addresses input (local_step input n) ≡ next_addresses input k (local_step input n)
        ++ addresses input (local_steps input k (local_step input n))
        → addresses input n ≡ next_addresses input (suc k) n ++ addresses input (local_steps input (suc k) n)
    by true is rest =
        addresses-running input n sound is ∙ ap (λ xs. n.hart.pc ∷ xs) rest
        ∙ ap (λ xs. xs ++ addresses input (local_steps input k (local_step input n))) (sym (next-running input k n is))
        ∙ ap (λ x. next_addresses input (suc k) n ++ addresses input x) (sym (local_steps-suc input k n))
    by false is rest =
        addresses-stopped input n is
        ∙ sym (addresses-stopped input (local_steps input (suc k) n)
        (ap (λ (x : NodeState). is_running x.state) (local_steps-stopped input (suc k) n is) ∙ is))
        ∙ ap (λ xs. xs ++ addresses input (local_steps input (suc k) n)) (sym (next-stopped input (suc k) n is))

pub addresses-few : (input : List ℕ) (n : NodeState) → IsNode n → length (addresses input n) ≤ 2 ^ 40
addresses-few input n sound = omega (arith, next-few input (n.limit - n.ticks) n, sound.limited)

ticks-stopped : (input : List ℕ) (n : NodeState) → is_running n.state ≡ false → length (addresses input n) + n.ticks ≡ (phase input n).ticks
ticks-stopped input n stopped =
    let none = ap length (addresses-stopped input n stopped) in
    let stays = ap (λ (x : NodeState). x.ticks) (local_steps-stopped input (n.limit - n.ticks) n stopped) in
    omega (arith, none, stays)

ticks-running : (input : List ℕ) (n : NodeState) → IsNode n → is_running n.state ≡ true
    → length (addresses input (local_step input n)) + (local_step input n).ticks ≡ (phase input (local_step input n)).ticks
    → length (addresses input n) + n.ticks ≡ (phase input n).ticks
ticks-running input n sound runs rest =
    let ticks = local_step-ticks input n runs in
    let one : length (addresses input n) ≡ suc (length (addresses input (local_step input n))) =
    ap length (addresses-running input n sound runs) in
    let same = ap (λ (x : NodeState). x.ticks) (phase-local_step input n sound) in
    omega (arith, one, rest, same, ticks)

-- as many as the ticks of its local part
pub addresses-ticks : (input : List ℕ) (k : ℕ) (n : NodeState) → IsNode n → n.limit - n.ticks ≤ k
    → length (addresses input n) + n.ticks ≡ (phase input n).ticks
addresses-ticks input zero n sound within = by (is_running n.state) refl
  where
    by : (b : Bool) → is_running n.state ≡ b → length (addresses input n) + n.ticks ≡ (phase input n).ticks
    by false is = ticks-stopped input n is
    by true is = absurd (let before = sound.has_ticks_left is in omega (arith, before, within))
addresses-ticks input (suc k) n sound within = by (λ x still few. addresses-ticks input k x still few) (is_running n.state) refl
  where
    by : ((x : NodeState) → IsNode x → x.limit - x.ticks ≤ k → length (addresses input x) + x.ticks ≡ (phase input x).ticks) → (b : Bool)
        → is_running n.state ≡ b → length (addresses input n) + n.ticks ≡ (phase input n).ticks
    by fewer false is = ticks-stopped input n is
    by fewer true is =
        let ticks = local_step-ticks input n is in
        let limit = (IsLater-local_step input n).limit in
        ticks-running input n sound is (fewer (local_step input n) (IsNode-local_step input n sound) (omega (arith, ticks, limit, within)))

pub count_in-cons : (first : ℕ) (made : List ℕ) (address : ℕ)
    → count_in (first ∷ made) address ≡ cond (first == address) 1 0 + count_in made address
count_in-cons first made address = sum_by-cons (λ (a : ℕ). cond (a == address) 1 0) first made

pub count_in-le : (made : List ℕ) (address : ℕ) → count_in made address ≤ length made
count_in-le made address = count_by-le-length (λ (a : ℕ). a == address) made

-- a step past the memory is a fault
pub stops-outside : (input : List ℕ) (n : NodeState) → is_running n.state ≡ true → length n.hart.memory ≤ n.hart.pc
    → is_running (local_step input n).state ≡ false
stops-outside input n runs past =
    ap (λ (x : NodeState). is_running x.state) (local_step-running input n runs) ∙ by (n.hart.pc % 2 == 0) refl
  where
    h : Hart
    h = n.hart

    none : fetched h ≡ None
    none = rw (lt-leb (h.pc + 2) (length h.memory) (omega (arith, past))) refl

    stops : (f : Fault) → executed input h ≡ faults f h → is_of_call f ≡ false → is_running (ticked (made input n) n).state ≡ false
    stops f is other =
        ap (λ (a : After). is_running (ticked (clocked (time_at n.clock n.ticks) a) n).state) is
        ∙ ap (λ (a : After). is_running (ticked a n).state) (clocked-fault (time_at n.clock n.ticks) f h other)

    by : (even : Bool) → (h.pc % 2 == 0) ≡ even → is_running (ticked (made input n) n).state ≡ false
    by false is = stops Misaligned (ap (λ b. if b then code_effect (fetched h) input h else faults Misaligned h) is) refl
    by true is =
        stops FetchOutside (ap (λ b. if b then code_effect (fetched h) input h else faults Misaligned h) is
        ∙ ap (λ (o : Option Code). code_effect o input h) none) refl

-- of some addresses only the last one may lie past the memory
abbrev pub LastOutside : ℕ → List ℕ → Type 0
LastOutside memory [] = Unit {0}
LastOutside memory (a ∷ rest) = (memory ≤ a → rest ≡ []) × LastOutside memory rest

pub last-outside : (input : List ℕ) (k memory : ℕ) (n : NodeState) → length n.hart.memory ≡ memory
    → LastOutside memory (next_addresses input k n)
last-outside input zero memory n size = subst (LastOutside memory) (sym (next-zero input n)) tt
last-outside input (suc k) memory n size =
    by (is_running n.state) refl (last-outside input k memory (local_step input n) ((IsLater-local_step input n).memory_size ∙ size))
  where
    by : (b : Bool) → is_running n.state ≡ b → LastOutside memory (next_addresses input k (local_step input n))
        → LastOutside memory (next_addresses input (suc k) n)
    by true is rest =
        let first : memory ≤ n.hart.pc → next_addresses input k (local_step input n) ≡ [] =
        λ past. next-stopped input k (local_step input n) (stops-outside input n is (omega (arith, size, past))) in
        subst (LastOutside memory) (sym (next-running input k n is)) (first, rest)
    by false is rest = subst (LastOutside memory) (sym (next-stopped input (suc k) n is)) tt
