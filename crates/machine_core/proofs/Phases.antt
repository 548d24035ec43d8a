-- The local parts of a superstep, after some of their steps.
use Rattle.std.proofs.Common.{◌≡◌, ℕ, zero, suc, ◌+◌, ◌-◌, Bool, true, false, ◌||◌, List, [], ◌∷◌, map, All, refl, sym, ap, ap₂, ◌∙◌, arith}
use Rattle.std.specs.Prelude.{slice_get}
use Rattle.std.specs.List.{AllZip}
use Rattle.std.specs.Option.{option_map_or}
use Rattle.std.proofs.lemmas.List.Elements.{All-map, All-weaker}
use Rattle.node_core.specs.Node.{NodeState, IsNode, is_running, local_step, local_steps, phase}
use Rattle.node_core.proofs.Steps.{local_step-stopped, local_steps-stopped, local_steps-zero, local_steps-suc}
use Rattle.node_core.proofs.Sound.{IsLater-local_step, local_step-ticks, local_steps-end}
use Rattle.machine_core.specs.Events.{runs, some_runs}

-- a node that has made a step of its local part makes the rest of it
pub phase-local_step : (input : List ℕ) (n : NodeState) → IsNode n → phase input (local_step input n) ≡ phase input n
phase-local_step input n sound = by (is_running n.state) refl
  where
    by : (r : Bool) → is_running n.state ≡ r → phase input (local_step input n) ≡ phase input n
    by true is =
        let ticks = local_step-ticks input n is in
        let limit = (IsLater-local_step input n).limit in
        let before = sound.has_ticks_left is in
        let left : (local_step input n).limit - (local_step input n).ticks ≡ n.limit - (n.ticks + 1) = rw (ticks, limit) refl in
        let all : suc (n.limit - (n.ticks + 1)) ≡ n.limit - n.ticks = omega arith in
        ap (λ k. local_steps input k (local_step input n)) left
        ∙ sym (local_steps-suc input (n.limit - (n.ticks + 1)) n)
        ∙ ap (λ k. local_steps input k n) all
    by false is = ap (λ (x : NodeState). phase input x) (local_step-stopped input n is)

-- where no node runs, the local parts are over
pub map-phase-stopped : (input : List ℕ) (nodes : List NodeState) → some_runs nodes ≡ false → map (phase input) nodes ≡ nodes
map-phase-stopped input [] stopped = refl
map-phase-stopped input (n ∷ rest) stopped =
    let here : is_running n.state ≡ false = grind arith in
    let there : some_runs rest ≡ false = grind arith in
    ap₂ (λ (x : NodeState) (xs : List NodeState). x ∷ xs) (local_steps-stopped input (n.limit - n.ticks) n here)
    (map-phase-stopped input rest there)

-- after its local part no node runs
pub some_runs-phases : (input : List ℕ) (nodes : List NodeState) → All IsNode nodes → some_runs (map (phase input) nodes) ≡ false
some_runs-phases input [] sound = refl
some_runs-phases input (n ∷ rest) sound =
    let here = local_steps-end input (n.limit - n.ticks) n (sound 0 n (omega arith)) (omega arith) in
    let there = some_runs-phases input rest (λ k d within. sound (suc k) d (omega arith)) in
    ap₂ ◌||◌ here there

-- a node that runs is one of those that run
pub some_runs-at : (nodes : List NodeState) (rank : ℕ) → option_map_or runs (slice_get nodes rank) false ≡ true → some_runs nodes ≡ true
some_runs-at [] rank here = here
some_runs-at (n ∷ rest) zero here = rw here refl
some_runs-at (n ∷ rest) (suc rank) here = let there = some_runs-at rest rank here in rw there (grind arith)

-- what each step keeps of a node, local parts keep of all
module _ (input : List ℕ) where
  pub kept_by_steps : (P : NodeState → Type 0) → ((n : NodeState) → P n → P (local_step input n)) → (k : ℕ) (n : NodeState) → P n
      → P (local_steps input k n)
  kept_by_steps P keeps zero n holds = rw (local_steps-zero input n) holds
  kept_by_steps P keeps (suc k) n holds = rw (local_steps-suc input k n) (kept_by_steps P keeps k (local_step input n) (keeps n holds))

  pub All-phases : (P : NodeState → Type 0) → ((n : NodeState) → P n → P (local_step input n)) → (nodes : List NodeState) → All P nodes
      → All P (map (phase input) nodes)
  All-phases P keeps nodes all =
      All-map P (phase input) nodes
      (All-weaker P (λ n. P (phase input n)) (λ n holds. kept_by_steps P keeps (n.limit - n.ticks) n holds) nodes all)

  pub AllZip-phases : {Y : Type 0} (R : NodeState → Y → Type 0) → ((n : NodeState) (y : Y) → R n y → R (local_step input n) y)
      → (nodes : List NodeState) (ys : List Y) → AllZip R nodes ys → AllZip R (map (phase input) nodes) ys
  AllZip-phases R keeps [] ys all = all
  AllZip-phases R keeps (n ∷ rest) [] all = absurd all
  AllZip-phases R keeps (n ∷ rest) (y ∷ ys) all =
      (kept_by_steps (λ x. R x y) (λ x holds. keeps x y holds) (n.limit - n.ticks) n all.0, AllZip-phases R keeps rest ys all.1)

  pub map-phases : {Y : Type 0} (f : NodeState → Y) → ((n : NodeState) → f (local_step input n) ≡ f n) → (nodes : List NodeState)
      → map f (map (phase input) nodes) ≡ map f nodes
  map-phases f same [] = refl
  map-phases f same (n ∷ rest) =
      ap₂ ◌∷◌ (kept_by_steps (λ x. f x ≡ f n) (λ x holds. same x ∙ holds) (n.limit - n.ticks) n refl) (map-phases f same rest)
