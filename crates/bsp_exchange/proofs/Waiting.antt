-- Nodes that may make an exchange, one by one and together.
use Rattle.std.proofs.Common.{◌≡◌, ◌<◌, ◌≤◌, ◌+◌, ℕ, false, List, [], ◌∷◌, map, length, get_or, refl, sym, ap, ◌∙◌, Some, arith, below_more}
use Rattle.std.proofs.Common.{zero-add}
use Rattle.std.specs.Prelude.{slice_get}
use Rattle.std.specs.List.{All, range_with_len}
use Rattle.std.proofs.lemmas.List.{length-map, get_or-map}
use Rattle.std.proofs.lemmas.List.Folds.{map_fixed}
use Rattle.std.proofs.lemmas.List.FromFn.{fill_by_all, get_or-range_with_len}
use Rattle.std.proofs.lemmas.Option.{slice_get_read, get_or_from_slice_get}
use Rattle.node_core.specs.declared.state.State.TheVariants.{Synced}
use Rattle.node_core.specs.Node.{NodeState, PreparedNode}
use Rattle.bsp_exchange.specs.Exchange.{AreAtSync, states}

-- a node waits at its place among so many, with so many areas in effect
abbrev pub Waits : ℕ → ℕ → ℕ → NodeState → Type 0
Waits place count areas n =
    (n.hart.rank ≡ place) × (n.hart.nprocs ≡ count) × (n.state ≡ Synced)
    × (length n.hart.communication.registrations.in_effect ≡ areas)

-- the nodes before a place wait at theirs
abbrev pub WaitBelow : List PreparedNode → ℕ → ℕ → Type 0
WaitBelow ps areas i = (k : ℕ) → k < i → (d : PreparedNode) → Waits k (length ps) areas (get_or ps k d).node

-- one more waits
pub waits_more : (ps : List PreparedNode) (areas i : ℕ) (p : PreparedNode) → i < length ps → p ≡ get_or ps i p
    → Waits i (length ps) areas p.node → WaitBelow ps areas i → WaitBelow ps areas (i + 1)
waits_more ps areas i p within is here below =
    below_more (λ k. (d : PreparedNode) → Waits k (length ps) areas (get_or ps k d).node) i below
    (λ d. rw (get_or_from_slice_get ps i p d (slice_get_read ps (length ps) i p refl within is)) here)

count_of : (ps : List PreparedNode) → length (states ps) ≡ length ps
count_of ps = length-map ps (λ (p : PreparedNode). p.node)

state_at : (ps : List PreparedNode) (k : ℕ) (p : PreparedNode) (d : NodeState) → k < length ps
    → get_or (states ps) k d ≡ (get_or ps k p).node
state_at ps k p d within = get_or-map (λ (q : PreparedNode). q.node) ps k p d within

abbrev ranks_of : List PreparedNode → List ℕ
ranks_of ps = map (λ (n : NodeState). n.hart.rank) (states ps)

rank_at : (ps : List PreparedNode) (k : ℕ) (p : PreparedNode) → k < length ps → get_or (ranks_of ps) k 0 ≡ (get_or ps k p).node.hart.rank
rank_at ps k p within =
    get_or-map (λ (n : NodeState). n.hart.rank) (states ps) k p.node 0 (omega (arith, count_of ps))
    ∙ ap (λ (n : NodeState). n.hart.rank) (state_at ps k p p.node within)

in_ranks : (ps : List PreparedNode) (areas : ℕ) → WaitBelow ps areas (length ps) → ranks_of ps ≡ range_with_len 0 (length (states ps))
in_ranks [] areas all = refl
in_ranks (p ∷ ps) areas all =
    let each : (k : ℕ) → k < length (states (p ∷ ps)) → get_or (ranks_of (p ∷ ps)) k 0 ≡ k =
    λ k within. rank_at (p ∷ ps) k p (omega (arith, count_of (p ∷ ps))) ∙ (all k (omega (arith, count_of (p ∷ ps))) p).0 in
    fill_by_all (λ k. k) (ranks_of (p ∷ ps)) (length (states (p ∷ ps))) 0 (length-map (states (p ∷ ps)) (λ (n : NodeState). n.hart.rank))
    each
    ∙ map_fixed (λ k. k) (range_with_len 0 (length (states (p ∷ ps)))) (λ k d within. refl)

-- what is so of each node that waits is so of all states
of_states : (P : NodeState → Type 0) (ps : List PreparedNode) → ((k : ℕ) (d : PreparedNode) → k < length ps → P (get_or ps k d).node)
    → All P (states ps)
of_states P ps each k d within =
    let here : k < length ps = omega (arith, count_of ps) in
    rw (state_at ps k (record { node = d; ready = false; private = [] }) d here)
    (each k (record { node = d; ready = false; private = [] }) here)

-- where each node waits, all are at their sync
pub at_sync : (ps : List PreparedNode) (areas i : ℕ) → length ps ≤ i → WaitBelow ps areas i → AreAtSync (states ps)
at_sync ps areas i past below =
    let all : WaitBelow ps areas (length ps) = λ k within d. below k (omega arith) d in
    record {
      ranks = in_ranks ps areas all;
      counts = of_states (λ n. n.hart.nprocs ≡ length (states ps)) ps (λ k d within. (all k within d).1 ∙ sym (count_of ps));
      waiting = of_states (λ n. n.state ≡ Synced) ps (λ k d within. (all k within d).2);
      areas = (areas, of_states (λ n. length n.hart.communication.registrations.in_effect ≡ areas) ps (λ k d within. (all k within d).3));
    }

-- all nodes have as many areas as the first
as_the_first : (ps : List PreparedNode) (areas k : ℕ) (p : PreparedNode) → AreAtSync (states ps)
    → ((q : PreparedNode) → slice_get ps 0 ≡ Some q → areas ≡ length q.node.hart.communication.registrations.in_effect) → k < length ps
    → length (get_or ps k p).node.hart.communication.registrations.in_effect ≡ areas
as_the_first [] areas k p sync first within = absurd (omega arith)
as_the_first (q ∷ ps) areas k p sync first within =
    ap (λ (n : NodeState). length n.hart.communication.registrations.in_effect) (sym (state_at (q ∷ ps) k p q.node within))
    ∙ sync.areas.1 k q.node (omega (arith, count_of (q ∷ ps)))
    ∙ sym (sync.areas.1 0 q.node (omega arith))
    ∙ sym (first q refl)

-- where all are at their sync, each node waits
pub waits_here : (ps : List PreparedNode) (areas i : ℕ) (p : PreparedNode) → AreAtSync (states ps)
    → ((q : PreparedNode) → slice_get ps 0 ≡ Some q → areas ≡ length q.node.hart.communication.registrations.in_effect) → i < length ps
    → p ≡ get_or ps i p → Waits i (length ps) areas p.node
waits_here ps areas i p sync first within is =
    let there : i < length (states ps) = omega (arith, count_of ps) in
    let same : get_or (states ps) i p.node ≡ p.node = state_at ps i p p.node within ∙ ap (λ (q : PreparedNode). q.node) (sym is) in (
      ap (λ (q : PreparedNode). q.node.hart.rank) is
          ∙ sym (rank_at ps i p within)
          ∙ ap (λ rs. get_or rs i 0) sync.ranks
          ∙ get_or-range_with_len 0 (length (states ps)) i 0 there
          ∙ zero-add i,
      ap (λ (n : NodeState). n.hart.nprocs) (sym same) ∙ sync.counts i p.node there ∙ count_of ps,
      ap (λ (n : NodeState). n.state) (sym same) ∙ sync.waiting i p.node there,
      ap (λ (q : PreparedNode). length q.node.hart.communication.registrations.in_effect) is ∙ as_the_first ps areas i p sync first within,
    )
