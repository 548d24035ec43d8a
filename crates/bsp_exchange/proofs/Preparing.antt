-- Nodes that are prepared one after another for their parts.
use Rattle.std.proofs.Common.{◌≡◌, ℕ, ◌+◌, ◌<◌, ◌≤◌, zero, suc, inl, inr, List, [], ◌∷◌, length, get_or, set, refl, sym, ap, ◌∙◌, arith}
use Rattle.std.proofs.Common.{Some}
use Rattle.std.specs.Prelude.{slice_get, option_map}
use Rattle.std.specs.List.{AllZip}
use Rattle.std.proofs.lemmas.Bool.{cases_eq}
use Rattle.std.proofs.lemmas.List.{length-set, get_or-set_same, get_or-set_other}
use Rattle.std.proofs.lemmas.Option.{none-some, same_Some, slice_get_within, get_or_from_slice_get, slice_get-map}
use Rattle.std.proofs.lemmas.Slice.Zip.{AllZip-long}
use Rattle.node_core.specs.Node.{NodeState, PreparedNode}
use Rattle.bsp_exchange.specs.Exchange.{states}
use Rattle.bsp_exchange.specs.Parts.{PartState, CanLand, CanPrepare}
use Rattle.bsp_exchange.proofs.Gathered.{length-states}
use Rattle.bsp_exchange.proofs.Planned.{zip_each}

-- a node that is only made ready keeps its state
pub states_kept : (ps : List PreparedNode) (i : ℕ) (p q : PreparedNode) → slice_get ps i ≡ Some p → q.node ≡ p.node
    → states (set ps i q) ≡ states ps
states_kept [] i p q is same = refl
states_kept (x ∷ ps) zero p q is same =
    let head : x ≡ p = same_Some x p is in
    ap (λ n. n ∷ states ps) (same ∙ ap (λ (y : PreparedNode). y.node) (sym head))
states_kept (x ∷ ps) (suc i) p q is same = ap (λ ns. x.node ∷ ns) (states_kept ps i p q is same)

-- the first of the nodes are prepared for their parts
abbrev pub ArePreparedBelow : List PartState → List PreparedNode → ℕ → Type 0
ArePreparedBelow parts ps i =
    (k : ℕ) (part : PartState) (d : PreparedNode) → k < i → k < length ps → slice_get parts k ≡ Some part → CanLand part (get_or ps k d)

pub prepared_none : (parts : List PartState) (ps : List PreparedNode) → ArePreparedBelow parts ps 0
prepared_none parts ps k part d less within received = absurd (omega arith)

pub prepared_more : (parts : List PartState) (ps : List PreparedNode) (i : ℕ) (part : PartState) (q : PreparedNode) → i < length ps
    → slice_get parts i ≡ Some part → CanLand part q → ArePreparedBelow parts ps i → ArePreparedBelow parts (set ps i q) (i + 1)
prepared_more parts ps i part q there planned prepared below k x d less within received =
    elim (cases_eq k i) [
      | inl same ↦
          let here : x ≡ part = same_Some x part (sym received ∙ ap (slice_get parts) same ∙ planned) in
          rw (same) (rw (get_or-set_same ps i q d there) (rw here prepared))
      | inr other ↦ rw (get_or-set_other ps i k q d other) (below k x d (omega (arith, other)) (rw (← length-set ps i q) within) received)
    ]

-- all of them are
pub prepared_all : (parts : List PartState) (ps : List PreparedNode) (i : ℕ) → length parts ≡ length ps → length ps ≤ i
    → ArePreparedBelow parts ps i → AllZip CanLand parts ps
prepared_all parts ps i long past below = zip_each CanLand parts ps long (λ k part p received here.
    let there : k < length ps = slice_get_within ps k p here in
    rw (← get_or_from_slice_get ps k p p here) (below k part p (omega arith) there received))

-- as many parts as nodes
pub as_many_states : (parts : List PartState) (ps : List PreparedNode) (ns : List NodeState) → states ps ≡ ns
    → AllZip CanPrepare parts ns → length parts ≡ length ps
as_many_states parts ps ns same can = sym (AllZip-long CanPrepare parts ns can) ∙ ap length (sym same) ∙ length-states ps

can_prepare_in : (parts : List PartState) (ns : List NodeState) (i : ℕ) (part : PartState) (n : NodeState) → AllZip CanPrepare parts ns
    → slice_get parts i ≡ Some part → slice_get ns i ≡ Some n → CanPrepare part n
can_prepare_in [] ns i part n can first second = absurd (none-some part first)
can_prepare_in (x ∷ parts) [] i part n can first second = absurd can
can_prepare_in (x ∷ parts) (y ∷ ns) zero part n can first second = rw (← same_Some x part first) (rw (← same_Some y n second) can.0)
can_prepare_in (x ∷ parts) (y ∷ ns) (suc i) part n can first second = can_prepare_in parts ns i part n can.1 first second

-- the node at a place can be prepared while those before it are
pub can_prepare_at : (parts : List PartState) (ps : List PreparedNode) (ns : List NodeState) (i : ℕ) (part : PartState)
    (p : PreparedNode) → AllZip CanPrepare parts ns → states ps ≡ ns → slice_get parts i ≡ Some part → slice_get ps i ≡ Some p
    → CanPrepare part p.node
can_prepare_at parts ps ns i part p can same first second =
    let here : slice_get ns i ≡ Some p.node =
    ap (λ (xs : List NodeState). slice_get xs i) (sym same)
    ∙ slice_get-map (λ (q : PreparedNode). q.node) ps i
    ∙ ap (option_map (λ (q : PreparedNode). q.node)) second in
    can_prepare_in parts ns i part p.node can first here
