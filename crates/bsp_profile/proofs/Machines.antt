-- The table of a machine's exchange.
use Rattle.std.proofs.Common.{◌≡◌, ℕ, ◌+◌, ◌*◌, ◌^◌, ◌<◌, ◌≤◌, true, false, List, [], length, sym, ap, ◌∙◌, arith}
use Rattle.std.specs.Prelude.{All, slice_index, sum_by, if◌then◌else◌}
use Rattle.std.proofs.lemmas.List.{length-map}
use Rattle.std.proofs.lemmas.List.Elements.{All-weaker}
use Rattle.std.proofs.lemmas.Nat.{mul-add-lt}
use Rattle.node_core.specs.Hart.{max_nodes}
use Rattle.node_core.specs.Node.{NodeState, PreparedNode}
use Rattle.bsp_exchange.specs.Exchange.{states}
use Rattle.bsp_exchange.specs.Queues.{from_others, queue_after}
use Rattle.bsp_exchange.specs.Traffic.{transfers}
use Rattle.machine_core.specs.Machine.{MachineState}
use Rattle.machine_core.specs.Sound.{IsSoundMachine, IsNodeOf}
use Rattle.machine_core.specs.Turn.{makes_exchange}
use Rattle.machine_core.proofs.Sound.{length-nodes}
use Rattle.machine_core.proofs.Starts.{few_in_range}
use Rattle.bsp_profile.specs.Moves.{moved}
use Rattle.bsp_profile.specs.Tally.{place, added_by, IsNodeAmong, IsWithin, Tells}
use Rattle.bsp_profile.proofs.Told.{nodes-told, messages-told}

pub few_nodes : (m : MachineState) → IsSoundMachine m → length m.nodes ≤ max_nodes
few_nodes m sound = omega (arith, length-nodes m sound, few_in_range m.settings sound.settings)

pub length-row : (ps : List PreparedNode) (nodes : List NodeState) → states ps ≡ nodes → length ps ≡ length nodes
length-row ps nodes is = sym (length-map ps (λ (p : PreparedNode). p.node)) ∙ ap (λ (ns : List NodeState). length ns) is

-- each of them is a node among as many
pub among : (m : MachineState) (count : ℕ) → IsSoundMachine m → count ≡ length m.nodes → All (IsNodeAmong count) m.nodes
among m count sound is =
    All-weaker (IsNodeOf m.settings) (IsNodeAmong count)
    (λ n of. record { hart = of.sound.hart; nprocs = of.nodes ∙ sym (is ∙ length-nodes m sound) }) m.nodes sound.nodes

-- a cell of bytes is one of the table
pub place_within : (count row column : ℕ) → row < count + 1 → column < count → place count row column < (count + 1) * count
place_within count row column r c =
    let within : row * count + column < count * (count + 1) = mul-add-lt row count column (count + 1) r c in
    let same : count * (count + 1) ≡ (count + 1) * count = grind arith in
    omega arith

-- and so is one of messages
pub message_within : (count rank : ℕ) → rank < count → rank < (count + 1) * count
message_within count rank r =
    let within : place count 0 rank < (count + 1) * count = place_within count 0 rank (omega arith) r in omega arith

module _ (m : MachineState) (count : ℕ) (cells : List ℕ) (sound : IsSoundMachine m) (counts : count ≡ length m.nodes)
    (size : length cells ≡ (count + 1) * count) where
  pub tells_made : makes_exchange m.nodes ≡ true → ((k : ℕ) → k < length cells → slice_index cells k ≡ sum_by (added_by count k) m.nodes)
      → IsWithin (2 ^ 47) cells → Tells m.nodes count cells
  tells_made makes each bounded = record {
    long = sym counts;
    few = omega (arith, counts, few_nodes m sound);
    size = size;
    bytes = λ from to from_in to_in.
        each (place count (from + 1) to) (omega (arith, size, place_within count (from + 1) to (omega arith) to_in))
        ∙ nodes-told count from to m.nodes to_in (among m count sound counts)
        ∙ sym (ap (λ b. moved (if b then transfers m.nodes else []) from to) makes);
    messages = λ rank within.
        each rank (omega (arith, size, message_within count rank within))
        ∙ messages-told count rank m.nodes within
        ∙ sym (ap (λ b. length (from_others rank (if b then queue_after m.nodes rank else []))) makes);
    bounded = bounded;
  }

  pub tells_none : makes_exchange m.nodes ≡ false → IsWithin 0 cells → Tells m.nodes count cells
  tells_none makes none = record {
    long = sym counts;
    few = omega (arith, counts, few_nodes m sound);
    size = size;
    bytes = λ from to from_in to_in.
        let within : place count (from + 1) to < length cells = omega (arith, size, place_within count (from + 1) to (omega arith) to_in) in
        let zero_there : slice_index cells (place count (from + 1) to) ≡ 0 = omega (arith, none (place count (from + 1) to) within) in
        zero_there ∙ sym (ap (λ b. moved (if b then transfers m.nodes else []) from to) makes);
    messages = λ rank within.
        let inside : rank < length cells = omega (arith, size, message_within count rank within) in
        let zero_there : slice_index cells rank ≡ 0 = omega (arith, none rank inside) in
        zero_there ∙ sym (ap (λ b. length (from_others rank (if b then queue_after m.nodes rank else []))) makes);
    bounded = λ k within. omega (arith, none k within);
  }
