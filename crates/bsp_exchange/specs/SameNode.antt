-- What stays with a node through an exchange.
use Rattle.std.specs.Prelude.{◌≡◌, length}
use Rattle.node_core.specs.Node.{NodeState}

-- the same node: an exchange changes its memory's bytes, what it communicates and its state, and nothing else of it
pub record IsSameNode (old new : NodeState) : Type 0 where
  pub rank : new.hart.rank ≡ old.hart.rank
  pub nprocs : new.hart.nprocs ≡ old.hart.nprocs
  pub registers : new.hart.registers ≡ old.hart.registers
  pub pc : new.hart.pc ≡ old.hart.pc
  pub memory_size : length new.hart.memory ≡ length old.hart.memory
  pub cursor : new.hart.cursor ≡ old.hart.cursor
  pub unit : new.hart.unit ≡ old.hart.unit
  pub reservation : new.hart.reservation ≡ old.hart.reservation
  pub ticks : new.ticks ≡ old.ticks
  pub limit : new.limit ≡ old.limit
  pub clock : new.clock ≡ old.clock
