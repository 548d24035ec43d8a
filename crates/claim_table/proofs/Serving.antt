-- A slice of a node's steps.
use Rattle.std.proofs.Common.{◌≡◌, ℕ, ◌<◌, List, Result, Ok, Err}
use Rattle.std.specs.Prelude.{OnOk, OnErr, ⊤}
use Rattle.node_core.specs.Node.{NodeState, local_steps}

-- a run that is made, or refused before its end, is some steps
pub some_steps : {E : Type 0} (input : List ℕ) (most : ℕ) (old new : NodeState) (answer : Result ⊤ E)
    → OnOk answer (new ≡ local_steps input most old) → OnErr answer ((k : ℕ) × (k < most) × (new ≡ local_steps input k old))
    → (k : ℕ) × (new ≡ local_steps input k old)
some_steps input most old new (Ok x) made refused = (most, made)
some_steps input most old new (Err e) made refused = (refused.0, refused.2)
