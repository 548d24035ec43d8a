-- Addresses of the next steps of one node of a machine.
use Rattle.std.proofs.Common.{◌≡◌, ℕ, ◌≤◌, List, [], length, Option, Some, Ok, Err, ap}
use Rattle.std.specs.Prelude.{slice_get, IfOk}
use Rattle.std.specs.Option.{option_map_or}
use Rattle.std.specs.declared.result.Result.{Result}
use Rattle.std.proofs.lemmas.Option.{slice_get_past}
use Rattle.node_core.specs.Addresses.{next_addresses}
use Rattle.node_core.specs.Node.{NodeState}
use Rattle.machine_core.specs.Events.{next_addresses_at}

pub if_ok_weaker : {T E : Type 0} (r : Result T E) (P Q : T → Type 0) → ((x : T) → P x → Q x) → IfOk r P → IfOk r Q
if_ok_weaker (Ok x) P Q each holds = each x holds
if_ok_weaker (Err e) P Q each holds = tt

pub addresses-found : (input : List ℕ) (rank k : ℕ) (nodes : List NodeState) (n : NodeState) → slice_get nodes rank ≡ Some n
    → next_addresses_at input rank k nodes ≡ next_addresses input k n
addresses-found input rank k nodes n found = ap (λ (o : Option NodeState). option_map_or (next_addresses input k) o []) found

-- a rank that is absent makes no step
pub addresses-absent : (input : List ℕ) (rank k : ℕ) (nodes : List NodeState) → length nodes ≤ rank
    → next_addresses_at input rank k nodes ≡ []
addresses-absent input rank k nodes past =
    ap (λ (o : Option NodeState). option_map_or (next_addresses input k) o []) (slice_get_past nodes rank past)
