-- The walk and its stops, event by event.
use Rattle.std.proofs.Common.{◌≡◌, ℕ, zero, suc, ◌+◌, inl, inr, true, false, List, [], ◌∷◌, ◌++◌, Option, Some, None, option_map, refl, sym}
use Rattle.std.proofs.Common.{ap, ap₂, ◌∙◌, arith, zero-add, suc-add}
use Rattle.std.specs.Prelude.{slice_get, ◌&&◌, if◌then◌else◌}
use Rattle.std.specs.Option.{option_map_or, option_and_then}
use Rattle.std.proofs.lemmas.Bool.{cases_order}
use Rattle.node_core.specs.Node.{NodeState}
use Rattle.machine_core.specs.declared.event.Event.{Event}
use Rattle.machine_core.specs.declared.event.Event.TheVariants.{Step}
use Rattle.machine_core.specs.Machine.{MachineState}
use Rattle.machine_core.specs.Events.{runs, some_runs, is_enabled, event}
use Rattle.machine_core.specs.Sound.{IsSoundMachine}
use Rattle.machine_core.specs.Walk.{next_event, walk, walked}
use Rattle.machine_core.proofs.Supersteps.{none_is_lowest}
use Rattle.machine_core.proofs.Walks.{walk-zero, walk-none, walk-some, walked-zero, walked-some}
use Rattle.machine_core.proofs.Walks.{walked-none, walked-add, lowest_running, rank-at}
use Rattle.bsp_debug.specs.declared.point.Point.{Point}
use Rattle.bsp_debug.specs.declared.point.Point.TheVariants.{Address}
use Rattle.bsp_debug.specs.Going.{HaveStoppedBelow}
use Rattle.bsp_debug.specs.Points.{is_set}
use Rattle.bsp_debug.specs.Reply.{stopped}
use Rattle.bsp_debug.specs.Stops.{stop_if_set, address_stop, stop_at, stop_after, Passes}
use Rattle.bsp_debug.specs.Trace.{point_at}

pub walk-add : (j k : ℕ) (m : MachineState) → walk (j + k) m ≡ walk j m ++ walk k (walked j m)
walk-add zero k m =
    ap (λ n. walk n m) (zero-add k) ∙ ap (walk k) (sym (walked-zero m)) ∙ ap (λ xs. xs ++ walk k (walked 0 m)) (sym (walk-zero m))
walk-add (suc j) k m = by (λ x. walk-add j k x) (next_event m) refl
  where
    by : ((x : MachineState) → walk (j + k) x ≡ walk j x ++ walk k (walked j x)) → (o : Option Event) → next_event m ≡ o
        → walk (suc j + k) m ≡ walk (suc j) m ++ walk k (walked (suc j) m)
    by fewer None is =
        walk-none (suc j + k) m is
        ∙ sym (ap₂ (λ xs ys. xs ++ ys) (walk-none (suc j) m is) (ap (walk k) (walked-none (suc j) m is) ∙ walk-none k m is))
    by fewer (Some e) is =
        ap (λ n. walk n m) (suc-add j k) ∙ walk-some (j + k) m e is ∙ ap (λ xs. e ∷ xs) (fewer (event m e))
        ∙ sym (ap₂ (λ xs ys. xs ++ ys) (walk-some j m e is) (ap (walk k) (walked-some j m e is)))

-- the event after the first k
module _ (k : ℕ) (m : MachineState) (e : Event) (next : next_event (walked k m) ≡ Some e) where
  pub walk-next : walk (k + 1) m ≡ walk k m ++ e ∷ []
  walk-next =
      walk-add k 1 m ∙ ap (λ xs. walk k m ++ xs) (walk-some 0 (walked k m) e next ∙ ap (λ xs. e ∷ xs) (walk-zero (event (walked k m) e)))

  pub walked-next : walked (k + 1) m ≡ event (walked k m) e
  walked-next = sym (walked-add k 1 m) ∙ walked-some 0 (walked k m) e next ∙ walked-zero (event (walked k m) e)

  pub stop-next : (points : List Point) → stop_after points k m ≡ stop_at points e (event (walked k m) e)
  stop-next points = ap (option_and_then (λ x. stop_at points x (event (walked k m) x))) next

pub Passes-none : (points : List Point) (m : MachineState) → Passes points 0 m
Passes-none points m j below = absurd (omega (arith, below))

pub Passes-next : (points : List Point) (k : ℕ) (m : MachineState) → Passes points k m → stop_after points k m ≡ None
    → Passes points (k + 1) m
Passes-next points k m passes none j below = elim (cases_order j k) [
  | inl same ↦ rw same none
  | inr other ↦ elim other [
    | inl before ↦ passes j before
    | inr past ↦ absurd (omega (arith, below, past))
  ]
]

-- the next step, if it is that of the lowest rank that runs, is looked at where its node stands
module _ (points : List Point) (m : MachineState) (rank : ℕ) (sound : IsSoundMachine m) (below : HaveStoppedBelow rank m) where
  pub address_stop-at : is_enabled m (Step rank) ≡ true → address_stop points m ≡ option_map stopped (point_at points m rank)
  address_stop-at enabled =
      let found = lowest_running m.nodes rank enabled below in
      let n = found.0 in
      let here = rank-at m rank n sound found.2 in
      ap (option_and_then (λ (x : NodeState). stop_if_set points (Address x.hart.rank x.hart.pc))) found.1
      ∙ ap (λ r. stop_if_set points (Address r n.hart.pc)) here
      ∙ by n (ap (λ (o : Option NodeState). option_map_or runs o false) (sym found.2) ∙ enabled) (is_set points (Address rank n.hart.pc))
      refl
      ∙ sym (ap
      (λ (o : Option NodeState).
      option_map stopped
      (option_and_then (λ (x : NodeState). if runs x && is_set points (Address rank x.hart.pc) then Some (Address rank x.hart.pc)
      else None) o)) found.2)
    where
      by : (n : NodeState) → runs n ≡ true → (set : _) → is_set points (Address rank n.hart.pc) ≡ set
          → stop_if_set points (Address rank n.hart.pc)
          ≡ option_map stopped (if runs n && is_set points (Address rank n.hart.pc) then Some (Address rank n.hart.pc) else None)
      by n on true is = rw (on, is) refl
      by n on false is = rw (on, is) refl

-- where no node runs there is no next step
pub address_stop-none : (points : List Point) (m : MachineState) → some_runs m.nodes ≡ false → address_stop points m ≡ None
address_stop-none points m none =
    ap (option_and_then (λ (x : NodeState). stop_if_set points (Address x.hart.rank x.hart.pc))) (none_is_lowest m.nodes none)

-- a node that does not run stands at no point
pub point_at-stopped : (points : List Point) (m : MachineState) (rank : ℕ) → is_enabled m (Step rank) ≡ false
    → point_at points m rank ≡ None
point_at-stopped points m rank off = by (slice_get m.nodes rank) off
  where
    by : (o : Option NodeState) → option_map_or runs o false ≡ false
        → option_and_then (λ (x : NodeState). if runs x && is_set points (Address rank x.hart.pc) then Some (Address rank x.hart.pc)
        else None) o ≡ None
    by None off = refl
    by (Some n) off = rw off refl

pub point_at-enabled : (points : List Point) (m : MachineState) (rank : ℕ) (p : Point) → point_at points m rank ≡ Some p
    → is_enabled m (Step rank) ≡ true
point_at-enabled points m rank p found = by (is_enabled m (Step rank)) refl
  where
    by : (enabled : _) → is_enabled m (Step rank) ≡ enabled → is_enabled m (Step rank) ≡ true
    by true is = is
    by false is = absurd (let same : None ≡ Some p = sym (point_at-stopped points m rank is) ∙ found in cc)

-- a step leads to no stop but one at an address
pub stop_at-step : (points : List Point) (rank : ℕ) (m : MachineState) → m.outcome ≡ None
    → stop_at points (Step rank) m ≡ address_stop points m
stop_at-step points rank m open_yet = rw open_yet refl
