-- The work of threads on lent nodes.
use Rattle.std.specs.Prelude.{◌≡◌, ℕ, Bool, List, All, IsFalse, true, false}
use Rattle.node_core.specs.Node.{NodeState, MayRefuseStep, is_running}
use Rattle.machine_core.specs.Events.{HaveStepped}

-- a node has come as far as memory allowed: it has stopped, or its next step may be refused memory
abbrev pub HasCome : List ℕ → NodeState → Type 0
HasCome input n = is_running n.state ≡ true → MayRefuseStep input n

-- likewise each of some nodes
abbrev pub HaveCome : List ℕ → List NodeState → Type 0
HaveCome input nodes = All (HasCome input) nodes

-- a node does not run
abbrev pub HasStopped : NodeState → Type 0
HasStopped n = is_running n.state ≡ false

-- likewise each of some nodes
abbrev pub HaveStopped : List NodeState → Type 0
HaveStopped nodes = All HasStopped nodes

-- nodes after work on them: each has made some steps of its own, as far as memory allowed, and all have stopped where none was refused
pub record IsWorked (input : List ℕ) (old new : List NodeState) (lacks_memory : Bool) : Type 0 where
  pub stepped : HaveStepped input old new
  pub ok : IsFalse lacks_memory → HaveStopped new
  pub come : HaveCome input new
