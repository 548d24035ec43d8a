-- What a contested byte makes of the machine after its superstep.
use Rattle.std.proofs.Common.{◌≡◌, ◌↔◌, ℕ, zero, suc, ◌+◌, ◌<◌, ◌≤◌, Bool, true, false, List, [], length, map, refl, sym, ap, subst, ◌∙◌}
use Rattle.std.proofs.Common.{add-one, arith, Option, Some, None}
use Rattle.std.specs.Prelude.{◌≢◌, is_none, is_some, slice_get, if◌then◌else◌, option_map}
use Rattle.std.specs.Fn.{iterate}
use Rattle.std.specs.Option.{option_map_or}
use Rattle.std.proofs.lemmas.List.Elements.{All-weaker}
use Rattle.std.proofs.lemmas.Option.{none-some, slice_get-map, slice_get_within, get_or_from_slice_get}
use Rattle.node_memory.specs.Bytes.{byte_at}
use Rattle.node_core.specs.Hart.{IsHart}
use Rattle.node_core.specs.Node.{NodeState, with_clock}
use Rattle.bsp_exchange.specs.Faults.{exchange_fault}
use Rattle.bsp_exchange.specs.Landings.{Landing, memory_of}
use Rattle.bsp_exchange.specs.Parts.{CanExchange}
use Rattle.contested_bytes.specs.Contested.{IsAllowedOrder, MayLie, exchanged_in}
use Rattle.contested_bytes.proofs.Inside.{contested_inside, either_may_lie}
use Rattle.machine_core.specs.declared.outcome.Outcome.{Outcome}
use Rattle.machine_core.specs.declared.outcome.Outcome.TheVariants.{Refused}
use Rattle.machine_core.specs.Clock.{closed_by}
use Rattle.machine_core.specs.Events.{some_runs}
use Rattle.machine_core.specs.Machine.{MachineState}
use Rattle.machine_core.specs.Sound.{IsNodeOf, IsSoundMachine}
use Rattle.machine_core.specs.Turn.{has_ended, is_waiting, lowest, makes_exchange, outcome_of, outcome_unstopped, recorded, stopped_by}
use Rattle.machine_core.specs.Turn.{superstep, was_stopped, with_phases}
use Rattle.machine_core.proofs.Options.{option_map_none, option_or_none}
use Rattle.machine_core.proofs.Resume.{phases-sound, phases-stopped}
use Rattle.machine_core.proofs.Sound.{AreAtSync-from, IsSoundMachine-supersteps, length-nodes}
use Rattle.settled_runs.specs.Orders.{decided_in, turned_in, superstep_in, next_landings, RunsTo, IsContestedNext, IsSettledRun}
use Rattle.settled_runs.specs.Orders.{MayLieAfter}
use Rattle.settled_runs.proofs.Runs.{run-same, run-allowed}

-- ---- a turn that makes the exchange

none_is : {X : Type 0} (o : Option X) → is_none o ≡ true → o ≡ None
none_is None none = refl
none_is (Some x) none = absurd cc

unstopped-none : (ended waiting : Option NodeState) (nodes : List NodeState) → outcome_unstopped ended waiting nodes ≡ None
    → (ended ≡ None) × (exchange_fault nodes ≡ None)
unstopped-none None waiting nodes none = (refl, option_map_none Refused (exchange_fault nodes) none)
unstopped-none (Some e) None nodes none = absurd cc
unstopped-none (Some e) (Some w) nodes none = absurd cc

-- it finds nodes among which it can be made
pub can_exchange : (m : MachineState) → IsSoundMachine m → some_runs m.nodes ≡ false → makes_exchange m.nodes ≡ true → CanExchange m.nodes
can_exchange m sound stopped makes =
    let parts =
    option_or_none (option_map stopped_by (lowest was_stopped m.nodes))
    (outcome_unstopped (lowest has_ended m.nodes) (lowest is_waiting m.nodes) m.nodes) (none_is (outcome_of m.nodes) makes) in
    let unstopped = unstopped-none (lowest has_ended m.nodes) (lowest is_waiting m.nodes) m.nodes parts.1 in
    record {
      row = AreAtSync-from m sound stopped (option_map_none stopped_by (lowest was_stopped m.nodes) parts.0) unstopped.0;
      faultless = unstopped.1;
      sound = All-weaker (IsNodeOf m.settings) (λ (n : NodeState). IsHart n.hart) (λ n of. of.sound.hart) m.nodes sound.nodes;
    }

pub can_exchange_next : (m : MachineState) → IsSoundMachine m → makes_exchange (with_phases m).nodes ≡ true
    → CanExchange (with_phases m).nodes
can_exchange_next m sound makes = can_exchange (with_phases m) (phases-sound m sound) (phases-stopped m sound) makes

-- ---- a memory after a superstep

abbrev memory_from : Option NodeState → List ℕ
memory_from o = option_map_or (λ (n : NodeState). n.hart.memory) o []

memory-clocks : (closed : Option ℕ) (nodes : List NodeState) (rank : ℕ)
    → memory_of (map (with_clock closed) nodes) rank ≡ memory_of nodes rank
memory-clocks closed nodes rank = ap memory_from (slice_get-map (with_clock closed) nodes rank) ∙ by (slice_get nodes rank)
  where
    by : (o : Option NodeState) → memory_from (option_map (with_clock closed) o) ≡ memory_from o
    by None = refl
    by (Some n) = refl

memory-decided : (order : List Landing) (m : MachineState) (o : Option Outcome) (rank : ℕ) → o ≡ None
    → memory_of (decided_in order o m).nodes rank ≡ memory_of (exchanged_in order m.nodes) rank
memory-decided order m (Some end) rank is = absurd (none-some end (sym is))
memory-decided order m None rank is = memory-clocks (closed_by m.settings.clock m.ledger) (exchanged_in order m.nodes) rank

memory-superstep : (order : List Landing) (m : MachineState) (rank : ℕ) → is_some m.outcome ≡ false
    → makes_exchange (with_phases m).nodes ≡ true
    → memory_of (superstep_in order m).nodes rank ≡ memory_of (exchanged_in order (with_phases m).nodes) rank
memory-superstep order m rank going makes =
    ap (λ (over : Bool). memory_of (if over then m else turned_in order (with_phases m)).nodes rank) going
    ∙ memory-decided order (recorded (with_phases m)) (outcome_of (with_phases m).nodes) rank
    (none_is (outcome_of (with_phases m).nodes) makes)

-- ---- runs

runs-more : (k : ℕ) (m n : MachineState) (order : List Landing) → RunsTo k m n → IsAllowedOrder (next_landings n) order
    → RunsTo (suc k) m (superstep_in order n)
runs-more zero m n order run allowed = subst (λ (s : MachineState). RunsTo (suc zero) s (superstep_in order n)) run (order, allowed, refl)
runs-more (suc k) m n order run allowed = (run.0, run.1, runs-more k (superstep_in run.0 m) n order run.2 allowed)

pub one-more : (k : ℕ) (m n : MachineState) (order : List Landing) → RunsTo k m n → IsAllowedOrder (next_landings n) order
    → RunsTo (k + 1) m (superstep_in order n)
one-more k m n order run allowed =
    subst (λ (j : ℕ). RunsTo j m (superstep_in order n)) (sym (add-one k)) (runs-more k m n order run allowed)

-- what may lie there after the exchange may lie there after the superstep
pub may_lie_after : (k : ℕ) (m n : MachineState) (rank addr byte : ℕ) → RunsTo k m n → is_some n.outcome ≡ false
    → makes_exchange (with_phases n).nodes ≡ true → MayLie (with_phases n).nodes rank addr byte → MayLieAfter (k + 1) m rank addr byte
may_lie_after k m n rank addr byte run going makes lies = (
  superstep_in lies.0 n,
  one-more k m n lies.0 run lies.1,
  ap (λ (memory : List ℕ). byte_at memory addr)
      (memory-superstep lies.0 n rank going makes) ∙ lies.2,
)

-- ---- a contested byte

pub inside : (m : MachineState) (rank addr : ℕ) → IsSoundMachine m → IsContestedNext m rank addr
    → (rank < m.settings.nodes) × (addr < m.settings.memory)
inside m rank addr sound contested = by (slice_get (with_phases m).nodes rank) refl
  where
    still : IsSoundMachine (with_phases m)
    still = phases-sound m sound

    there : (rank < length (with_phases m).nodes) × (addr < length (memory_of (with_phases m).nodes rank))
    there = contested_inside (with_phases m).nodes rank addr (can_exchange_next m sound contested.made) contested.bytes

    by : (o : Option NodeState) → slice_get (with_phases m).nodes rank ≡ o → (rank < m.settings.nodes) × (addr < m.settings.memory)
    by None none = let address = there.1 in absurd (omega (arith, ap (λ (x : Option NodeState). length (memory_from x)) none, address))
    by (Some n) is =
        let of : IsNodeOf m.settings n =
        subst (IsNodeOf m.settings) (get_or_from_slice_get (with_phases m).nodes rank n n is)
        (still.nodes rank n (slice_get_within (with_phases m).nodes rank n is)) in
        let long = ap (λ (x : Option NodeState). length (memory_from x)) is in
        let few = length-nodes (with_phases m) still in
        (omega (arith, there.0, few), omega (arith, there.1, long, of.memory))

pub two_bytes : (k : ℕ) (m n : MachineState) (rank addr : ℕ) → RunsTo k m n → IsSoundMachine n → IsContestedNext n rank addr
    → (one two : ℕ) × MayLieAfter (k + 1) m rank addr one × MayLieAfter (k + 1) m rank addr two × (one ≢ two)
two_bytes k m n rank addr run sound contested =
    let either = either_may_lie (with_phases n).nodes rank addr (can_exchange_next n sound contested.made) contested.bytes in (
      either.0,
      either.1,
      may_lie_after k m n rank addr either.0 run contested.going contested.made either.2,
      may_lie_after k m n rank addr either.1 run contested.going contested.made either.3,
      either.4,
    )

-- machines in which different bytes lie at one address are two
apart : (a b : MachineState) (rank addr one two : ℕ) → byte_at (memory_of a.nodes rank) addr ≡ one
    → byte_at (memory_of b.nodes rank) addr ≡ two → one ≢ two → a ≢ b
apart a b rank addr one two first second differ =
    λ same. differ (sym first ∙ ap (λ (m : MachineState). byte_at (memory_of m.nodes rank) addr) same ∙ second)

pub two_machines : (k : ℕ) (m n : MachineState) (rank addr : ℕ) → RunsTo k m n → IsSoundMachine n → IsContestedNext n rank addr
    → (one two : MachineState) × RunsTo (k + 1) m one × RunsTo (k + 1) m two × (one ≢ two)
two_machines k m n rank addr run sound contested =
    let both = two_bytes k m n rank addr run sound contested in
    (both.2.0, both.3.0, both.2.1, both.3.1, apart both.2.0 both.3.0 rank addr both.0 both.1 both.2.2 both.3.2 both.4)

-- ---- a run that is the same in every order

-- after each number of supersteps every choice of orders has come to one machine
abbrev pub HasOneCourse : ℕ → MachineState → Type 0
HasOneCourse k m = (j : ℕ) (n : MachineState) → j ≤ k → RunsTo j m n → n ≡ iterate superstep j m

only_settled : (k : ℕ) (m : MachineState) → IsSoundMachine m → HasOneCourse k m → IsSettledRun k m
only_settled k m sound one_course = λ j before going made rank addr contested.
    let n = iterate superstep j m in
    let two =
    two_machines j m n rank addr (run-allowed j m) (IsSoundMachine-supersteps j m sound)
    (record { going = going; made = made; bytes = contested }) in
    let within : j + 1 ≤ k = omega (arith, before) in
    two.4 (one_course (j + 1) two.0 within two.2 ∙ sym (one_course (j + 1) two.1 within two.3))

pub settled_just_where : (k : ℕ) (m : MachineState) → IsSoundMachine m → IsSettledRun k m ↔ HasOneCourse k m
settled_just_where k m sound =
    (λ settled j n within run. run-same j m n (λ i before. settled i (omega (arith, before, within))) run, only_settled k m sound)
