-- The steps of a rank, counted one after another.
use Rattle.std.proofs.Common.{◌≡◌, ℕ, zero, suc, ◌+◌, ◌-◌, ◌<◌, ◌≤◌, ◌^◌, ◌==◌, true, false, cond, List, [], ◌∷◌, ◌++◌, length, drop}
use Rattle.std.proofs.Common.{get_or, take, Option, Some, None, inl, inr, refl, sym, ap, subst, ◌∙◌, arith, suc-add, zero-add}
use Rattle.std.specs.Prelude.{slice_get, if◌then◌else◌}
use Rattle.std.specs.Option.{option_map_or}
use Rattle.std.proofs.lemmas.Bool.{cases_lt, false≢true}
use Rattle.std.proofs.lemmas.List.{drop_more, get_or-take, length-append, length-take-le}
use Rattle.std.proofs.lemmas.Option.{slice_get_within, get_or_from_slice_get}
use Rattle.node_core.specs.Addresses.{next_addresses}
use Rattle.node_core.specs.Node.{NodeState, local_step, local_steps}
use Rattle.node_core.proofs.Addresses.{next-running}
use Rattle.machine_core.specs.declared.event.Event.TheVariants.{Step}
use Rattle.machine_core.specs.Machine.{MachineState}
use Rattle.machine_core.specs.Events.{runs, is_enabled, event, after, next_addresses_at, stepped_often}
use Rattle.machine_core.specs.Sound.{IsNodeOf, IsSoundMachine}
use Rattle.machine_core.proofs.Runs.{steps_of, after-often}
use Rattle.machine_core.proofs.Sound.{IsSoundMachine-after}
use Rattle.machine_core.proofs.States.{often-found, often-none, slice_get-slice_set}
use Rattle.machine_core.proofs.Steps.{after-nil, after-cons}
use Rattle.step_counts.specs.Counts.{addresses, count_in}
use Rattle.step_counts.specs.Parts.{addresses_at}
use Rattle.step_counts.specs.Table.{TableState, told, IsEmpty}
use Rattle.step_counts.proofs.Addresses.{LastOutside, addresses-few, addresses-split, addresses-stopped}
use Rattle.step_counts.proofs.Addresses.{count_in-cons, count_in-le, last-outside}

-- j steps, and then k
pub after-more : (j k : ℕ) (m : MachineState) (rank : ℕ)
    → after (after m (steps_of rank j)) (steps_of rank k) ≡ after m (steps_of rank (j + k))
after-more zero k m rank =
    ap (λ (x : MachineState). after x (steps_of rank k)) (after-nil m) ∙ ap (λ n. after m (steps_of rank n)) (sym (zero-add k))
after-more (suc j) k m rank =
    ap (λ (x : MachineState). after x (steps_of rank k)) (after-cons m (Step rank) (steps_of rank j))
    ∙ after-more j k (event m (Step rank)) rank
    ∙ sym (after-cons m (Step rank) (steps_of rank (j + k)))
    ∙ ap (λ n. after m (steps_of rank n)) (sym (suc-add j k))

-- the node of a rank of a sound machine
node-of : (m : MachineState) (rank : ℕ) (n : NodeState) → IsSoundMachine m → slice_get m.nodes rank ≡ Some n → IsNodeOf m.settings n
node-of m rank n sound found =
    let within = slice_get_within m.nodes rank n found in
    let is = get_or_from_slice_get m.nodes rank n n found in
    rw is at (sound.nodes rank n within)

few-at : (m : MachineState) (rank : ℕ) → IsSoundMachine m → length (addresses_at m rank) ≤ 2 ^ 40
few-at m rank sound = by (slice_get m.nodes rank) refl
  where
    by : (o : Option NodeState) → slice_get m.nodes rank ≡ o → length (option_map_or (λ (n : NodeState). addresses m.input n) o []) ≤ 2 ^ 40
    by None is = omega arith
    by (Some n) is = addresses-few m.input n (node-of m rank n sound is).sound.node

last-at : (m : MachineState) (rank : ℕ) → IsSoundMachine m → LastOutside m.settings.memory (addresses_at m rank)
last-at m rank sound = by (slice_get m.nodes rank) refl
  where
    by : (o : Option NodeState) → slice_get m.nodes rank ≡ o
        → LastOutside m.settings.memory (option_map_or (λ (n : NodeState). addresses m.input n) o [])
    by None is = tt
    by (Some n) is = last-outside m.input (n.limit - n.ticks) m.settings.memory n (node-of m rank n sound is).memory

none-left : (m : MachineState) (rank : ℕ) → is_enabled m (Step rank) ≡ false → addresses_at m rank ≡ []
none-left m rank off = by (slice_get m.nodes rank) off
  where
    by : (o : Option NodeState) → option_map_or runs o false ≡ false → option_map_or (λ (n : NodeState). addresses m.input n) o [] ≡ []
    by None off = refl
    by (Some n) off = addresses-stopped m.input n off

-- a rank that runs makes a step
some-next : (m : MachineState) (rank k : ℕ) → 0 < k → is_enabled m (Step rank) ≡ true
    → 0 < length (next_addresses_at m.input rank k m.nodes)
some-next m rank zero some on = absurd (omega (arith, some))
some-next m rank (suc k) some on = by (slice_get m.nodes rank) on
  where
    by : (o : Option NodeState) → option_map_or runs o false ≡ true → 0 < length (option_map_or (next_addresses m.input (suc k)) o [])
    by None on = absurd (false≢true on)
    by (Some n) on =
        let one : length (next_addresses m.input (suc k) n) ≡ suc (length (next_addresses m.input k (local_step m.input n))) =
        ap length (next-running m.input k n on) in
        omega (arith, one)

-- the addresses of the next k steps, and then those that are left
left-after : (m : MachineState) (rank k : ℕ) → IsSoundMachine m
    → addresses_at m rank ≡ next_addresses_at m.input rank k m.nodes ++ addresses_at (after m (steps_of rank k)) rank
left-after m rank k sound = by (slice_get m.nodes rank) refl ∙ ap (λ xs. next_addresses_at m.input rank k m.nodes ++ xs) (sym next)
  where
    all : List ℕ → Option NodeState → List ℕ
    all input o = option_map_or (λ (n : NodeState). addresses input n) o []

    next : addresses_at (after m (steps_of rank k)) rank ≡ all m.input (slice_get (stepped_often m.input rank k m.nodes) rank)
    next = ap (λ (x : MachineState). addresses_at x rank) (after-often k m rank)

    by : (o : Option NodeState) → slice_get m.nodes rank ≡ o
        → all m.input (slice_get m.nodes rank) ≡ next_addresses_at m.input rank k m.nodes
        ++ all m.input (slice_get (stepped_often m.input rank k m.nodes) rank)
    by None is =
        let none = often-none m.input k rank m.nodes is in
        rw (is, none) refl
    by (Some n) is =
        let found : slice_get (stepped_often m.input rank k m.nodes) rank ≡ Some (local_steps m.input k n) =
        ap (λ (xs : List NodeState). slice_get xs rank) (often-found m.input k rank m.nodes n is)
        ∙ slice_get-slice_set m.nodes rank n (local_steps m.input k n) is in
        rw (is, found) (addresses-split m.input k n (node-of m rank n sound is).sound.node)

-- of these steps some are left, and the table has the others
pub record Counted (steps left : List ℕ) (t : TableState) : Type 0 where
  pub told : (address : ℕ) → told t address + count_in left address ≡ count_in steps address
  pub few : length steps ≤ 2 ^ 40
  pub last : LastOutside t.memory left
  pub inside : 0 < length left → t.outside ≡ None

pub all-told : (steps : List ℕ) (t : TableState) → Counted steps [] t → (address : ℕ) → told t address ≡ count_in steps address
all-told steps t done address = omega (arith, done.told address)

module _ (steps left : List ℕ) (first : ℕ) (t : TableState) (so_far : Counted steps (first ∷ left) t) where
  -- there is room for one more
  pub few-told : told t first < 2 ^ 63
  few-told = omega (arith, so_far.told first, count_in-le steps first, so_far.few)

  pub none-outside : t.outside ≡ None
  none-outside = so_far.inside (omega arith)

  pub Counted-next : (u : TableState) → ((other : ℕ) → told u other ≡ told t other + (if first == other then 1 else 0))
      → u.memory ≡ t.memory
      → (first < t.memory → u.outside ≡ t.outside) → Counted steps left u
  Counted-next u more memory inside = record {
    told = λ other.
        let one : told u other ≡ told t other + cond (first == other) 1 0 = more other in
        omega (arith, so_far.told other, count_in-cons first left other, one);
    few = so_far.few;
    last = rw memory so_far.last.1;
    inside = λ some. elim (cases_lt first t.memory) [
      | inl within ↦ inside within ∙ none-outside
      | inr past ↦ absurd (let none : length left ≡ 0 = ap length (so_far.last.0 past) in omega (arith, none, some))
    ];
  }

-- so many steps of a rank were made, and the table has them
pub record Counting (old new : MachineState) (rank : ℕ) (t : TableState) : Type 0 where
  pub count : ℕ
  pub is : new ≡ after old (steps_of rank count)
  pub counted : Counted (addresses_at old rank) (addresses_at new rank) t

pub Counting-start : (m : MachineState) (rank : ℕ) (t : TableState) → IsSoundMachine m → IsEmpty t → t.memory ≡ m.settings.memory
    → Counting m m rank t
Counting-start m rank t sound empty memory = record {
  count = 0;
  is = sym (after-nil m);
  counted = record {
    told = λ address. omega (arith, empty.none address);
    few = few-at m rank sound;
    last = rw memory (last-at m rank sound);
    inside = λ some. empty.outside;
  };
}

module _ (old new : MachineState) (rank : ℕ) (t : TableState) (sound : IsSoundMachine old) (so_far : Counting old new rank t) where
  still-sound : IsSoundMachine new
  still-sound = rw so_far.is (IsSoundMachine-after old (steps_of rank so_far.count) sound)

  -- once the rank has stopped, the table has all of them
  pub stopped-told : is_enabled new (Step rank) ≡ false → (address : ℕ) → told t address ≡ count_in (addresses_at old rank) address
  stopped-told off =
      all-told (addresses_at old rank) t (subst (λ xs. Counted (addresses_at old rank) xs t) (none-left new rank off) so_far.counted)

  module _ (next : MachineState) (k : ℕ) (made : next ≡ after new (steps_of rank k)) where
    pub made-more : (n : ℕ) × (next ≡ after old (steps_of rank n))
    made-more =
        (so_far.count + k, made ∙ ap (λ (x : MachineState). after x (steps_of rank k)) so_far.is ∙ after-more so_far.count k old rank)

    -- steps that were made and are not counted yet
    split : addresses_at new rank ≡ next_addresses_at new.input rank k new.nodes ++ addresses_at next rank
    split =
        left-after new rank k still-sound
        ∙ ap (λ (x : MachineState). next_addresses_at new.input rank k new.nodes ++ addresses_at x rank) (sym made)

    pub Counted-made : (made_at : List ℕ) → made_at ≡ next_addresses_at new.input rank k new.nodes
        → Counted (addresses_at old rank) (made_at ++ addresses_at next rank) t
    Counted-made made_at is =
        subst (λ xs. Counted (addresses_at old rank) xs t) (split ∙ ap (λ xs. xs ++ addresses_at next rank) (sym is)) so_far.counted

  -- fewer are left
  pub fewer : (next : MachineState) (k : ℕ) → 0 < k → is_enabled new (Step rank) ≡ true → next ≡ after new (steps_of rank k)
      → length (addresses_at next rank) < length (addresses_at new rank)
  fewer next k some on made =
      let both = ap length (split next k made) ∙ length-append (next_addresses_at new.input rank k new.nodes) (addresses_at next rank) in
      omega (arith, both, some-next new rank k some on)

  -- once all that were made are counted
  pub Counting-more : (next : MachineState) (k : ℕ) (u : TableState) → next ≡ after new (steps_of rank k)
      → Counted (addresses_at old rank) (addresses_at next rank) u → Counting old next rank u
  Counting-more next k u made counted = record { count = (made-more next k made).0; is = (made-more next k made).1; counted = counted }

-- the next address of those that are left
pub next_left : (pcs rest : List ℕ) (made place : ℕ) → place < made → made ≤ length pcs
    → drop place (take made pcs) ++ rest ≡ get_or pcs place 0 ∷ drop (place + 1) (take made pcs) ++ rest
next_left pcs rest made place below within =
    let long = length-take-le made pcs within in
    ap (λ xs. xs ++ rest)
    (drop_more (take made pcs) place 0 (omega (arith, below, long))
    ∙ ap (λ x. x ∷ drop (place + 1) (take made pcs)) (get_or-take made pcs place 0 below))
