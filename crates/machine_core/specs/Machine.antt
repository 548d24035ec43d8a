-- A machine of several nodes with one input (BSPlib, Hill and others 1998: one program on all processes. That the start of the image
-- is the start of all of them is an own rule, and so is the input).
use Rattle.std.specs.Prelude.{ℕ, ◌^◌, Bool, ◌&&◌, nat_le, List, [], map, replicate, Option, Some, None, if◌then◌else◌}
use Rattle.std.specs.List.{range_with_len}
use Rattle.std.specs.Option.{option_or}
use Rattle.node_memory.specs.Bytes.{is_memory_size}
use Rattle.node_memory.specs.Image.{Image, is_segment_outside}
use Rattle.node_core.specs.Node.{NodeState, start_node, with_clock, with_unit, with_atomics}
use Rattle.cost_ledger.specs.declared.CostRow.{CostRow}
use Rattle.machine_core.specs.declared.error.MachineError.{MachineError}
use Rattle.machine_core.specs.declared.error.MachineError.TheVariants.{BadNodes, BadMemory, BadLimit, SegmentOutside}
use Rattle.machine_core.specs.declared.outcome.Outcome.{Outcome}
use Rattle.machine_core.specs.declared.settings.Settings.{Settings}
use Rattle.machine_core.specs.Clock.{closed_by}

pub record MachineState : Type 0 where
  pub settings : Settings
  -- one text, which each node reads by itself
  pub input : List ℕ
  -- each at the place of its rank
  pub nodes : List NodeState
  -- the ticks that each node had made when the superstep began
  pub started : List ℕ
  -- what the nodes wrote in the supersteps that are over, rank by rank in each
  pub output : List ℕ
  -- the costs of the supersteps that are over
  pub ledger : List CostRow
  -- how many exchanges were made
  pub exchanges : ℕ
  -- how it ended, if it has
  pub outcome : Option Outcome

-- the node of a rank at its start, with the image in its memory, the limits of a large machine, a unit of floating point and the
-- instructions of A where the settings ask for them, and a clock where there are prices for it
abbrev pub node_at_start : Image → Settings → ℕ → NodeState
node_at_start image s rank =
    with_clock (closed_by s.clock [])
    (with_atomics s.atomic (with_unit s.float (start_node image rank s.nodes s.memory s.limit s.large)))

abbrev pub start_nodes : Image → Settings → List NodeState
start_nodes image s = map (node_at_start image s) (range_with_len 0 s.nodes)

-- a machine at the start of its first superstep
abbrev pub fresh : Image → List ℕ → Settings → MachineState
fresh image input settings = record {
  settings = settings;
  input = input;
  nodes = start_nodes image settings;
  started = replicate settings.nodes 0;
  output = [];
  ledger = [];
  exchanges = 0;
  outcome = None;
}

-- own limits: how many nodes a machine may have, and how many bytes of memory each of them, in a large machine and in any other
abbrev pub most_nodes : Bool → ℕ
most_nodes large = if large then 65536 else 1024

abbrev pub most_memory : Bool → ℕ
most_memory large = if large then 2 ^ 31 else 2 ^ 24

-- the first setting that is out of its range (own limits)
abbrev pub settings_fault : Settings → Option MachineError
settings_fault s =
    if nat_le 1 s.nodes && nat_le s.nodes (most_nodes s.large) then
    (if is_memory_size s.memory && nat_le s.memory (most_memory s.large) then
    (if nat_le 1 s.limit && nat_le s.limit (2 ^ 40) then None else Some BadLimit)
    else Some BadMemory)
    else Some BadNodes

-- why there is no machine of an image and settings: the first setting that is out of its range, or else a part of the image that
-- lies past the memory
abbrev pub machine_fault : Image → Settings → Option MachineError
machine_fault image s =
    option_or (settings_fault s) (if is_segment_outside image s.memory then Some SegmentOutside else None)
