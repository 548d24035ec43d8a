-- Where the work of a run is: how many instructions each rank makes at each address in each superstep, and the lines that tell of it (own
-- format: comma-separated values).
use Rattle.std.specs.Prelude.{◌≡◌, ℕ, ◌+◌, ◌-◌, ◌^◌, ◌<◌, ◌==◌, zero, suc, nat_lt, List, [], ◌++◌, codes, count_by, flat_map, map, sum_by}
use Rattle.std.specs.Prelude.{All, if◌then◌else◌, is_some}
use Rattle.std.specs.Fmt.{decimal}
use Rattle.std.specs.List.{range_with_len}
use Rattle.rv_listing.specs.Numerals.{eight_digits}
use Rattle.node_core.specs.Addresses.{next_addresses}
use Rattle.node_core.specs.Node.{NodeState, phase}
use Rattle.machine_core.specs.Machine.{MachineState}
use Rattle.machine_core.specs.Turn.{superstep}

-- the addresses of the steps of a node's local part of the superstep, in which it steps until it does not run. It has no more ticks left
-- than these
abbrev pub addresses : List ℕ → NodeState → List ℕ
addresses input n = next_addresses input (n.limit - n.ticks) n

-- how often an address is among some
abbrev pub count_in : List ℕ → ℕ → ℕ
count_in made address = count_by (λ a. a == address) made

-- the names of the columns
abbrev pub header : List ℕ
header = codes "superstep,rank,address,count\n"

-- a count, in four columns: the address in eight hexadecimal digits, and the other numbers in decimal ones
unfoldable pub count_text : ℕ → ℕ → ℕ → ℕ → List ℕ
count_text number rank address count =
    decimal number ++ codes "," ++ decimal rank ++ codes "," ++ eight_digits address ++ codes "," ++ decimal count

-- the line of a count that is above 0
abbrev pub line_of : ℕ → ℕ → ℕ → ℕ → List ℕ
line_of number rank address count = if nat_lt 0 count then count_text number rank address count ++ codes "\n" else []

-- the lines of the addresses below a bound, in their order
unfoldable pub lines_below : ℕ → ℕ → ℕ → (ℕ → ℕ) → List ℕ
lines_below bound number rank count = flat_map (λ address. line_of number rank address (count address)) (range_with_len 0 bound)

-- the lines of a node's local part of the superstep. An address is below 2^32
unfoldable pub node_lines : MachineState → NodeState → List ℕ
node_lines m n = lines_below (2 ^ 32) m.exchanges n.hart.rank (count_in (addresses m.input n))

-- the lines of a superstep, from where its nodes stand, rank by rank
unfoldable pub superstep_lines : MachineState → List ℕ
superstep_lines m = flat_map (node_lines m) m.nodes

-- the lines of the next supersteps up to the outcome, so many of them at most
unfoldable pub lines_within : ℕ → MachineState → List ℕ
lines_within zero m = []
lines_within (suc k) m = if is_some m.outcome then [] else superstep_lines m ++ lines_within k (superstep m)

-- those of all that are left. Each exchange costs every node a tick, so that one superstep more than a node may make ticks is enough
unfoldable pub lines_of : MachineState → List ℕ
lines_of m = lines_within (m.settings.limit + 1) m

-- the superstep of a machine has begun, and no step of it is made yet
abbrev pub HasBegun : MachineState → Type 0
HasBegun m = m.started ≡ map (λ (n : NodeState). n.ticks) m.nodes

-- the next step of each node is at a word. That pc is one is a fact of the types that hold it
abbrev pub HasWordPcs : MachineState → Type 0
HasWordPcs m = All (λ (n : NodeState). n.hart.pc < 2 ^ 32) m.nodes

-- the counts of a node's local part of the superstep, over all addresses, add up to the ticks that it makes in it
unfoldable pub CountsAreTicks : List ℕ → NodeState → Type 0
CountsAreTicks input n = sum_by (count_in (addresses input n)) (range_with_len 0 (2 ^ 32)) ≡ (phase input n).ticks - n.ticks

-- so do those of each node of a machine
abbrev pub AllCountsAreTicks : MachineState → Type 0
AllCountsAreTicks m = All (CountsAreTicks m.input) m.nodes

-- the counts of a run that begins at a machine
abbrev pub counts_of : MachineState → List ℕ
counts_of m = header ++ lines_of m
