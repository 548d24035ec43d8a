-- The walk, event by event.
use Rattle.std.proofs.Common.{◌≡◌, ◌≢◌, ℕ, zero, suc, ◌+◌, ◌<◌, Bool, true, false, cond, List, [], ◌∷◌, length, Option, Some, None}
use Rattle.std.proofs.Common.{option_map, refl, sym, ap, ◌∙◌, arith, zero-add, suc-add}
use Rattle.std.specs.Prelude.{slice_get, IsSome, if◌then◌else◌}
use Rattle.std.specs.List.{range_with_len}
use Rattle.std.specs.Option.{option_map_or}
use Rattle.std.proofs.lemmas.Bool.{false≢true}
use Rattle.std.proofs.lemmas.Option.{same_Some, slice_get-map, slice_get_within, slice_get-get_or, get_or_from_slice_get}
use Rattle.std.proofs.lemmas.List.FromFn.{length-range_with_len, get_or-range_with_len}
use Rattle.node_core.specs.Node.{NodeState, is_running, local_steps}
use Rattle.node_core.proofs.Sound.{local_steps-end}
use Rattle.machine_core.specs.declared.event.Event.{Event}
use Rattle.machine_core.specs.declared.event.Event.TheVariants.{Step, Turn}
use Rattle.machine_core.specs.Machine.{MachineState}
use Rattle.machine_core.specs.Turn.{lowest}
use Rattle.machine_core.specs.Events.{runs, some_runs, stepped_often, is_enabled, event, after, MakeNoTurn}
use Rattle.machine_core.specs.Sound.{IsNodeOf, IsSoundMachine}
use Rattle.machine_core.specs.Walk.{next_event, walk, walked, IsOnPhase}
use Rattle.machine_core.proofs.Rows.{slice_get-stepped_other}
use Rattle.machine_core.proofs.Runs.{steps_of, after-often}
use Rattle.machine_core.proofs.Sound.{enabled_open, length-nodes, IsSoundMachine-event}
use Rattle.machine_core.proofs.States.{often-found, often-none, slice_get-slice_set}
use Rattle.machine_core.proofs.Steps.{after-nil, after-cons, event-step, event-disabled}

walk-suc : (k : ℕ) (m : MachineState) → walk (suc k) m ≡ option_map_or (λ e. e ∷ walk k (event m e)) (next_event m) []
unfolding walk
walk-suc k m = refl

pub walk-zero : (m : MachineState) → walk zero m ≡ []
unfolding walk
walk-zero m = refl

pub walk-none : (k : ℕ) (m : MachineState) → next_event m ≡ None → walk k m ≡ []
walk-none zero m none = walk-zero m
walk-none (suc k) m none = walk-suc k m ∙ ap (λ (o : Option Event). option_map_or (λ e. e ∷ walk k (event m e)) o []) none

pub walk-some : (k : ℕ) (m : MachineState) (e : Event) → next_event m ≡ Some e → walk (suc k) m ≡ e ∷ walk k (event m e)
walk-some k m e some = walk-suc k m ∙ ap (λ (o : Option Event). option_map_or (λ e. e ∷ walk k (event m e)) o []) some

pub walked-zero : (m : MachineState) → walked 0 m ≡ m
walked-zero m = ap (after m) (walk-zero m) ∙ after-nil m

pub walked-some : (k : ℕ) (m : MachineState) (e : Event) → next_event m ≡ Some e → walked (suc k) m ≡ walked k (event m e)
walked-some k m e some = ap (after m) (walk-some k m e some) ∙ after-cons m e (walk k (event m e))

pub walked-none : (k : ℕ) (m : MachineState) → next_event m ≡ None → walked k m ≡ m
walked-none k m none = ap (after m) (walk-none k m none) ∙ after-nil m

-- after the outcome nothing is left
pub walked-over : (m : MachineState) (k : ℕ) → IsSome m.outcome → walked k m ≡ m
walked-over m k over = walked-none k m (rw over refl)

-- j events of the walk, and then k more
pub walked-add : (j k : ℕ) (m : MachineState) → walked k (walked j m) ≡ walked (j + k) m
walked-add zero k m = ap (walked k) (walked-zero m) ∙ ap (λ n. walked n m) (sym (zero-add k))
walked-add (suc j) k m = by (λ x. walked-add j k x) (next_event m) refl
  where
    by : ((x : MachineState) → walked k (walked j x) ≡ walked (j + k) x) → (o : Option Event) → next_event m ≡ o
        → walked k (walked (suc j) m) ≡ walked (suc j + k) m
    by fewer None is = ap (walked k) (walked-none (suc j) m is) ∙ walked-none k m is ∙ sym (walked-none (suc j + k) m is)
    by fewer (Some e) is =
        ap (walked k) (walked-some j m e is) ∙ fewer (event m e)
        ∙ sym (walked-some (j + k) m e is) ∙ ap (λ n. walked n m) (sym (suc-add j k))

MakeNoTurn-walk-add : (j k : ℕ) (m : MachineState) → MakeNoTurn m (walk j m) → MakeNoTurn (walked j m) (walk k (walked j m))
    → MakeNoTurn m (walk (j + k) m)
MakeNoTurn-walk-add zero k m first next = rw (zero-add k) (rw (walked-zero m) at next)
MakeNoTurn-walk-add (suc j) k m first next = by (λ x here there. MakeNoTurn-walk-add j k x here there) (next_event m) refl
  where
    by : ((x : MachineState) → MakeNoTurn x (walk j x) → MakeNoTurn (walked j x) (walk k (walked j x)) → MakeNoTurn x (walk (j + k) x))
        → (o : Option Event) → next_event m ≡ o → MakeNoTurn m (walk (suc j + k) m)
    by fewer None is = rw (walk-none (suc j + k) m is) tt
    by fewer (Some e) is =
        let here : MakeNoTurn m (e ∷ walk j (event m e)) = rw (walk-some j m e is) at first in
        let there = rw (walked-some j m e is) at next in
        rw (suc-add j k, walk-some (j + k) m e is) (here.0, fewer (event m e) here.1 there)

pub IsOnPhase-refl : (m n : MachineState) → n ≡ m → IsOnPhase m n
IsOnPhase-refl m n same = record { made = 0; is = same ∙ sym (walked-zero m); steps = rw (walk-zero m) tt }

pub IsOnPhase-trans : (m n o : MachineState) → IsOnPhase m n → IsOnPhase n o → IsOnPhase m o
IsOnPhase-trans m n o first next = record {
  made = first.made + next.made;
  is = next.is ∙ ap (walked next.made) first.is ∙ walked-add first.made next.made m;
  steps = MakeNoTurn-walk-add first.made next.made m first.steps (rw first.is at next.steps);
}

-- whether the node of a rank runs
abbrev runs_at : List NodeState → ℕ → Bool
runs_at nodes rank = option_map_or runs (slice_get nodes rank) false

-- the first that runs is the lowest
pub lowest_running : (nodes : List NodeState) (rank : ℕ) → runs_at nodes rank ≡ true → ((j : ℕ) → j < rank → runs_at nodes j ≡ false)
    → (n : NodeState) × (lowest is_running nodes ≡ Some n) × (slice_get nodes rank ≡ Some n)
lowest_running [] rank here before = absurd (false≢true here)
lowest_running (n ∷ rest) zero here before = (n, ap (λ b. cond b (Some n) (lowest is_running rest)) here, refl)
lowest_running (n ∷ rest) (suc rank) here before =
    let first : is_running n.state ≡ false = before 0 (omega arith) in
    let there = lowest_running rest rank here (λ j below. before (suc j) (omega arith)) in
    (there.0, ap (λ b. cond b (Some n) (lowest is_running rest)) first ∙ there.1, there.2)

pub none_runs : (nodes : List NodeState) → ((j : ℕ) → j < length nodes → runs_at nodes j ≡ false) → some_runs nodes ≡ false
none_runs [] stopped = refl
none_runs (n ∷ rest) stopped =
    let first : is_running n.state ≡ false = stopped 0 (omega arith) in
    let there = none_runs rest (λ j below. stopped (suc j) (omega arith)) in
    rw (first, there) refl

some_of : (o : Option NodeState) → option_map_or runs o false ≡ true → (n : NodeState) × (o ≡ Some n)
some_of None here = absurd (false≢true here)
some_of (Some n) here = (n, refl)

module _ (m : MachineState) where
  -- a node stands at the place of its rank
  pub rank-at : (rank : ℕ) (n : NodeState) → IsSoundMachine m → slice_get m.nodes rank ≡ Some n → n.hart.rank ≡ rank
  rank-at rank n sound found =
      let within = slice_get_within m.nodes rank n found in
      let long = length-nodes m sound in
      let all = range_with_len 0 m.settings.nodes in
      let here : slice_get all rank ≡ Some n.hart.rank =
      ap (λ (xs : List ℕ). slice_get xs rank) (sym sound.ranks) ∙ slice_get-map (λ (x : NodeState). x.hart.rank) m.nodes rank
      ∙ ap (option_map (λ (x : NodeState). x.hart.rank)) found in
      let below : rank < m.settings.nodes = omega arith in
      let there = slice_get-get_or all rank 0 (rw (length-range_with_len 0 m.settings.nodes) below) in
      same_Some n.hart.rank rank
      (sym here ∙ there ∙ ap (λ k. Some k) (get_or-range_with_len 0 m.settings.nodes rank 0 below ∙ zero-add rank))

  pub next_event-step : (rank : ℕ) → IsSoundMachine m → is_enabled m (Step rank) ≡ true
      → ((j : ℕ) → j < rank → is_enabled m (Step j) ≡ false) → next_event m ≡ Some (Step rank)
  next_event-step rank sound enabled before =
      let found = lowest_running m.nodes rank enabled before in
      let open_yet = enabled_open m (Step rank) sound enabled in
      ap (λ b. if b then None else Some (option_map_or (λ (n : NodeState). Step n.hart.rank) (lowest is_running m.nodes) Turn)) open_yet
      ∙ ap (λ (o : Option NodeState). Some (option_map_or (λ (n : NodeState). Step n.hart.rank) o Turn)) found.1
      ∙ ap (λ r. Some (Step r)) (rank-at rank found.0 sound found.2)

  IsOnPhase-event : (rank : ℕ) → IsSoundMachine m → is_enabled m (Step rank) ≡ true → ((j : ℕ) → j < rank → is_enabled m (Step j) ≡ false)
      → IsOnPhase m (event m (Step rank))
  IsOnPhase-event rank sound enabled before =
      let next = next_event-step rank sound enabled before in
      record {
        made = 1;
        is = sym (walked-some 0 m (Step rank) next ∙ walked-zero (event m (Step rank)));
        steps = rw (walk-some 0 m (Step rank) next, walk-zero (event m (Step rank))) (refl, tt);
      }

  -- a step changes nothing at another rank
  pub enabled-other : (rank j : ℕ) → rank ≢ j → is_enabled (event m (Step rank)) (Step j) ≡ is_enabled m (Step j)
  enabled-other rank j other =
      ap (λ (x : MachineState). is_enabled x (Step j)) (event-step m rank)
      ∙ ap (λ (o : Option NodeState). option_map_or runs o false) (slice_get-stepped_other m.input j rank m.nodes other)

pub enabled-others : (k : ℕ) (m : MachineState) (rank j : ℕ) → rank ≢ j
    → is_enabled (after m (steps_of rank k)) (Step j) ≡ is_enabled m (Step j)
enabled-others zero m rank j other = ap (λ (x : MachineState). is_enabled x (Step j)) (after-nil m)
enabled-others (suc k) m rank j other =
    ap (λ (x : MachineState). is_enabled x (Step j)) (after-cons m (Step rank) (steps_of rank k))
    ∙ enabled-others k (event m (Step rank)) rank j other ∙ enabled-other m rank j other

-- steps of the lowest rank that runs are the first events of the walk
pub IsOnPhase-steps : (k : ℕ) (m : MachineState) (rank : ℕ) → IsSoundMachine m → ((j : ℕ) → j < rank → is_enabled m (Step j) ≡ false)
    → IsOnPhase m (after m (steps_of rank k))
IsOnPhase-steps zero m rank sound before = IsOnPhase-refl m (after m []) (after-nil m)
IsOnPhase-steps (suc k) m rank sound before =
    by (λ x sound' before'. IsOnPhase-steps k x rank sound' before') (is_enabled m (Step rank)) refl
  where
    by : ((x : MachineState) → IsSoundMachine x → ((j : ℕ) → j < rank → is_enabled x (Step j) ≡ false)
        → IsOnPhase x (after x (steps_of rank k))) → (enabled : Bool) → is_enabled m (Step rank) ≡ enabled
        → IsOnPhase m (after m (steps_of rank (suc k)))
    by fewer false is =
        rw (after-cons m (Step rank) (steps_of rank k), event-disabled m (Step rank) is) (fewer m sound before)
    by fewer true is =
        let n = event m (Step rank) in
        let rest =
        fewer n (IsSoundMachine-event m (Step rank) sound)
        (λ j below. enabled-other m rank j (λ same. omega (arith, same, below)) ∙ before j below) in
        rw (after-cons m (Step rank) (steps_of rank k))
        (IsOnPhase-trans m n (after n (steps_of rank k)) (IsOnPhase-event m rank sound is before) rest)

node-of : (m : MachineState) (rank : ℕ) (n : NodeState) → IsSoundMachine m → slice_get m.nodes rank ≡ Some n → IsNodeOf m.settings n
node-of m rank n sound found =
    let within = slice_get_within m.nodes rank n found in
    let is = get_or_from_slice_get m.nodes rank n n found in
    rw is at (sound.nodes rank n within)

-- after as many steps as a node may make, it does not run
pub stopped-after : (m : MachineState) (rank : ℕ) → IsSoundMachine m
    → is_enabled (after m (steps_of rank m.settings.limit)) (Step rank) ≡ false
stopped-after m rank sound =
    ap (λ (x : MachineState). is_enabled x (Step rank)) (after-often m.settings.limit m rank) ∙ by (slice_get m.nodes rank) refl
  where
    by : (o : Option NodeState) → slice_get m.nodes rank ≡ o → runs_at (stepped_often m.input rank m.settings.limit m.nodes) rank ≡ false
    by None is = ap (λ (o : Option NodeState). option_map_or runs o false) (often-none m.input m.settings.limit rank m.nodes is)
    by (Some n) is =
        let of = node-of m rank n sound is in
        let after_all = local_steps m.input m.settings.limit n in
        ap (λ (xs : List NodeState). runs_at xs rank) (often-found m.input m.settings.limit rank m.nodes n is)
        ∙ ap (λ (o : Option NodeState). option_map_or runs o false) (slice_get-slice_set m.nodes rank n after_all is)
        ∙ local_steps-end m.input m.settings.limit n of.sound.node (omega (arith, of.limit))
