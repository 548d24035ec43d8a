-- What holds of a machine that is not large: the limits that it has always had.
use Rattle.std.proofs.Common.{◌≡◌, ℕ, ◌+◌, ◌%◌, ◌^◌, ◌≤◌, ◌==◌, Bool, true, false, nat_le, List, length, All, get_or, Option, None, Some, refl, sym, ap}
use Rattle.std.proofs.Common.{◌∙◌, arith}
use Rattle.std.specs.Prelude.{◌&&◌, if◌then◌else◌}
use Rattle.std.proofs.lemmas.Bool.Decides.{nat_tests}
use Rattle.std.proofs.lemmas.List.Elements.{All-weaker}
use Rattle.node_memory.specs.Bytes.{is_memory_size}
use Rattle.node_core.specs.Communication.{HasLimits}
use Rattle.node_core.specs.Hart.{IsHart}
use Rattle.node_core.specs.Node.{NodeState}
use Rattle.bsp_exchange.specs.Traffic.{h_of, h_all_of, messages_of, traffic_of}
use Rattle.bsp_exchange.proofs.Bounds.{traffic_bounded_standard}
use Rattle.machine_core.specs.declared.error.MachineError.{MachineError}
use Rattle.machine_core.specs.declared.error.MachineError.TheVariants.{BadNodes, BadMemory, BadLimit}
use Rattle.machine_core.specs.declared.settings.Settings.{Settings}
use Rattle.machine_core.specs.Machine.{MachineState, settings_fault}
use Rattle.machine_core.specs.Sound.{IsNodeOf, IsSoundMachine}
use Rattle.machine_core.specs.Turn.{makes_exchange, no_traffic, cost_row}
use Rattle.machine_core.proofs.Sound.{length-nodes}

-- a size within the old limit is within that of a large machine
larger : (n : ℕ) → nat_le n (2 ^ 24) ≡ true → nat_le n (2 ^ 31) ≡ true
larger n small = grind (arith, nat_tests)

and_false : (b : Bool) → (b && false) ≡ false
and_false true = refl
and_false false = refl

sizes_by : (n : ℕ) (least small whole : Bool) → nat_le n (2 ^ 24) ≡ small → (small ≡ true → nat_le n (2 ^ 31) ≡ true)
    → ((least && nat_le n (2 ^ 31) && whole) && small) ≡ (least && small && whole)
sizes_by n true true true is more = rw (more refl) refl
sizes_by n true true false is more = rw (more refl) refl
sizes_by n true false true is more = and_false (nat_le n (2 ^ 31) && true)
sizes_by n true false false is more = and_false (nat_le n (2 ^ 31) && false)
sizes_by n false small whole is more = refl

sizes : (n : ℕ) → (is_memory_size n && nat_le n (2 ^ 24)) ≡ (nat_le 4096 n && nat_le n (2 ^ 24) && n % 4096 == 0)
sizes n = sizes_by n (nat_le 4096 n) (nat_le n (2 ^ 24)) (n % 4096 == 0) refl (λ small. larger n small)

pub fault_is_old : (s : Settings) → s.large ≡ false → settings_fault s
    ≡ (if nat_le 1 s.nodes && nat_le s.nodes 1024 then
    (if nat_le 4096 s.memory && nat_le s.memory (2 ^ 24) && s.memory % 4096 == 0 then
    (if nat_le 1 s.limit && nat_le s.limit (2 ^ 40) then None else Some BadLimit)
    else Some BadMemory)
    else Some BadNodes)
fault_is_old s standard =
    rw standard
    (ap (λ (b : Bool). if nat_le 1 s.nodes && nat_le s.nodes 1024 then
    (if b then (if nat_le 1 s.limit && nat_le s.limit (2 ^ 40) then None else Some BadLimit) else Some BadMemory)
    else Some BadNodes) (sizes s.memory))

pub limits_are_kept : (m : MachineState) → IsSoundMachine m → m.settings.large ≡ false
    → All (λ (n : NodeState). HasLimits false n.hart.communication) m.nodes
limits_are_kept m sound standard =
    All-weaker (IsNodeOf m.settings) (λ (n : NodeState). HasLimits false n.hart.communication)
    (λ n of. (of.limits.0 ∙ standard, of.limits.1 ∙ standard)) m.nodes sound.nodes

pub costs_less : (m : MachineState) → IsSoundMachine m → m.settings.large ≡ false
    → ((cost_row m).h_all ≤ 2 ^ 34) × ((cost_row m).messages ≤ 2 ^ 26)
costs_less m sound standard =
    let most = rw standard at sound.settings.few in
    let few : length m.nodes ≤ 1024 = omega (arith, most, length-nodes m sound) in
    let moved : (h_of m.nodes ≤ h_all_of m.nodes) × (h_all_of m.nodes ≤ 2 ^ 34) × (messages_of m.nodes ≤ 2 ^ 26) =
    traffic_bounded_standard m.nodes few
    (All-weaker (IsNodeOf m.settings) (λ (n : NodeState). IsHart n.hart) (λ n of. of.sound.hart) m.nodes sound.nodes)
    (limits_are_kept m sound standard) in
    by (makes_exchange m.nodes) moved
  where
    by : (exchanged : Bool) → (h_of m.nodes ≤ h_all_of m.nodes) × (h_all_of m.nodes ≤ 2 ^ 34) × (messages_of m.nodes ≤ 2 ^ 26)
        → ((if exchanged then traffic_of m.nodes else no_traffic).h_all ≤ 2 ^ 34)
        × ((if exchanged then traffic_of m.nodes else no_traffic).messages ≤ 2 ^ 26)
    by true moved = (moved.1, moved.2)
    by false moved = (omega arith, omega arith)
