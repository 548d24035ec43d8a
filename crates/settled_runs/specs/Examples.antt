-- Two nodes at the end of a superstep, each of which has put a byte of its own to the first byte of an area of rank 1.
use Rattle.std.specs.Prelude.{ℕ, List, [], ◌∷◌, replicate, None, true, false}
use Rattle.bsp_slots.specs.declared.area.Area.{Area}
use Rattle.bsp_requests.specs.Put.{Put}
use Rattle.bsp_requests.specs.Request.{Asked, asks_put}
use Rattle.node_core.specs.declared.state.State.TheVariants.{Synced}
use Rattle.node_core.specs.Communication.{Communication, no_communication}
use Rattle.node_core.specs.Node.{NodeState}
use Rattle.machine_core.specs.Machine.{MachineState}

-- a byte from 16 on
abbrev pub area : Area
area = record { addr = 16; size = 1 }

-- a put of a byte to the beginning of the area of rank 1
abbrev pub put : ℕ → Put
put byte = record { target = 1; slot = 0; offset = 0; bytes = byte ∷ [] }

abbrev pub put_of : ℕ → Asked
put_of byte = asks_put (put byte)

-- a node that has the area in effect, and has put this byte there
abbrev pub has_put : ℕ → Communication
has_put byte = record (no_communication false) {
  registrations = record { in_effect = area ∷ []; changes = []; large = false };
  requests = record { requests = put_of byte ∷ []; output = []; large = false };
}

unfoldable pub empty_memory : List ℕ
empty_memory = replicate 4096 0

-- the node of a rank, all of whose memory is 0, and which waits after two ticks
abbrev pub waiting : ℕ → ℕ → NodeState
waiting rank byte = record {
  hart = record {
    rank = rank;
    nprocs = 2;
    registers = replicate 32 0;
    pc = 0;
    memory = empty_memory;
    communication = has_put byte;
    cursor = 0;
    unit = None;
    reservation = None;
  };
  state = Synced;
  ticks = 2;
  limit = 8;
  clock = None;
}

-- rank 0 has put a 4, and rank 1 a 9
abbrev pub two_puts : MachineState
two_puts = record {
  settings = record { nodes = 2; memory = 4096; limit = 8; clock = None; float = false; atomic = false; large = false };
  input = [];
  nodes = waiting 0 4 ∷ waiting 1 9 ∷ [];
  started = 1 ∷ 1 ∷ [];
  output = [];
  ledger = record { w = 1; h = 0; h_all = 0; messages = 0; turned = true } ∷ [];
  exchanges = 1;
  outcome = None;
}
