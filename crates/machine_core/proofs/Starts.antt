-- Settings without a fault, and the nodes that they ask for.
use Rattle.std.proofs.Common.{◌≡◌, ℕ, ◌+◌, ◌<◌, ◌≤◌, false, List, [], ◌∷◌, ◌++◌, length, map, replicate, get_or, None, refl, sym, ap, ap₂}
use Rattle.std.proofs.Common.{◌∙◌, arith, ◌^◌, Bool, true, nat_le, Option, Some}
use Rattle.std.specs.Prelude.{◌&&◌, if◌then◌else◌, IsTrue}
use Rattle.std.proofs.lemmas.Bool.Decides.{nat_tests}
use Rattle.node_memory.specs.Bytes.{is_memory_size}
use Rattle.std.specs.List.{range_with_len}
use Rattle.std.proofs.lemmas.List.{length-map, map-append}
use Rattle.std.proofs.lemmas.List.FromFn.{length-map-range_with_len, get_or-map-range_with_len, map-range_with_len_more}
use Rattle.std.proofs.lemmas.Option.{get_or_from_slice_get}
use Rattle.node_memory.specs.Image.{Image, is_segment_outside}
use Rattle.node_core.specs.Hart.{max_nodes}
use Rattle.node_core.specs.Node.{NodeState, PreparedNode}
use Rattle.bsp_exchange.specs.Exchange.{states}
use Rattle.cost_ledger.specs.declared.CostRow.{CostRow}
use Rattle.machine_core.specs.declared.error.MachineError.TheVariants.{BadNodes, BadMemory, BadLimit}
use Rattle.machine_core.specs.declared.settings.Settings.{Settings}
use Rattle.machine_core.specs.Machine.{MachineState, fresh, node_at_start, most_memory, most_nodes, settings_fault, machine_fault, start_nodes}
use Rattle.machine_core.specs.Sound.{AreInRange}
use Rattle.machine_core.proofs.States.{state_at_place}

-- what the tests say of the settings that pass them
first_passed : {E : Type 0} (b : Bool) (e : E) (rest : Option E) → (if b then rest else Some e) ≡ None → (b ≡ true) × (rest ≡ None)
first_passed true e rest none = (refl, none)
first_passed false e rest none = absurd cc

all_passed : (s : Settings) → settings_fault s ≡ None
    → ((nat_le 1 s.nodes && nat_le s.nodes (most_nodes s.large)) ≡ true)
    × ((is_memory_size s.memory && nat_le s.memory (most_memory s.large)) ≡ true) × ((nat_le 1 s.limit && nat_le s.limit (2 ^ 40)) ≡ true)
all_passed s good =
    let nodes = first_passed (nat_le 1 s.nodes && nat_le s.nodes (most_nodes s.large)) BadNodes _ good in
    let memory = first_passed (is_memory_size s.memory && nat_le s.memory (most_memory s.large)) BadMemory _ nodes.1 in
    let limit = first_passed (nat_le 1 s.limit && nat_le s.limit (2 ^ 40)) BadLimit _ memory.1 in
    (nodes.0, memory.0, limit.0)

both_true : (a b : Bool) → (a && b) ≡ true → (a ≡ true) × (b ≡ true)
both_true true b is = (refl, is)
both_true false b is = absurd cc

at_most : (a b : ℕ) → nat_le a b ≡ true → a ≤ b
at_most a b is = grind (arith, nat_tests)

pub settings_fault-nodes : (s : Settings) → settings_fault s ≡ None → 1 ≤ s.nodes
settings_fault-nodes s good =
    at_most 1 s.nodes (both_true (nat_le 1 s.nodes) (nat_le s.nodes (most_nodes s.large)) (all_passed s good).0).0

most_nodes-at_most : (large : Bool) → most_nodes large ≤ max_nodes
most_nodes-at_most true = omega arith
most_nodes-at_most false = omega arith

-- a machine of any kind has at most as many nodes as the largest
pub few_in_range : (s : Settings) → AreInRange s → s.nodes ≤ max_nodes
few_in_range s range = omega (arith, range.few, most_nodes-at_most s.large)

pub AreInRange-from : (s : Settings) → settings_fault s ≡ None → AreInRange s
AreInRange-from s good =
    let nodes = both_true (nat_le 1 s.nodes) (nat_le s.nodes (most_nodes s.large)) (all_passed s good).0 in
    let memory = both_true (is_memory_size s.memory) (nat_le s.memory (most_memory s.large)) (all_passed s good).1 in
    let limit = both_true (nat_le 1 s.limit) (nat_le s.limit (2 ^ 40)) (all_passed s good).2 in
    record {
      some = at_most 1 s.nodes nodes.0;
      few = at_most s.nodes (most_nodes s.large) nodes.1;
      memory = memory.0;
      small = at_most s.memory (most_memory s.large) memory.1;
      ticks = at_most 1 s.limit limit.0;
      limit = at_most s.limit (2 ^ 40) limit.1;
    }

-- the nodes of the first ranks
abbrev pub AreFirst : Image → Settings → List PreparedNode → ℕ → Type 0
AreFirst image s ps k = states ps ≡ map (node_at_start image s) (range_with_len 0 k)

pub length-first : (image : Image) (s : Settings) (ps : List PreparedNode) (k : ℕ) → AreFirst image s ps k → length ps ≡ k
length-first image s ps k are =
    sym (length-map ps (λ (p : PreparedNode). p.node)) ∙ ap length are ∙ length-map-range_with_len (node_at_start image s) 0 k

-- of these, the node of rank 0
pub first_of : (image : Image) (s : Settings) (ps : List PreparedNode) (k : ℕ) (p : PreparedNode) → 0 < k → AreFirst image s ps k
    → 0 < length ps → p ≡ get_or ps 0 p → p.node ≡ node_at_start image s 0
first_of image s ps k p some are within is =
    sym (get_or_from_slice_get (states ps) 0 p.node p.node (state_at_place ps 0 p within is))
    ∙ ap (λ (ns : List NodeState). get_or ns 0 p.node) are
    ∙ get_or-map-range_with_len (node_at_start image s) 0 k 0 0 p.node some refl

-- one more
pub first_more : (image : Image) (s : Settings) (ps qs : List PreparedNode) (k : ℕ) (p : PreparedNode) → AreFirst image s ps k
    → qs ≡ ps ++ p ∷ [] → p.node ≡ node_at_start image s k → AreFirst image s qs (k + 1)
first_more image s ps qs k p are more is =
    ap states more
    ∙ map-append (λ (q : PreparedNode). q.node) ps (p ∷ [])
    ∙ ap₂ (λ (ns : List NodeState) (n : NodeState). ns ++ n ∷ []) are is
    ∙ sym (map-range_with_len_more (node_at_start image s) 0 k k (omega arith))

pub machine_fault-none : (image : Image) (s : Settings) → settings_fault s ≡ None → is_segment_outside image s.memory ≡ false
    → machine_fault image s ≡ None
machine_fault-none image s good fits = rw (good, fits) refl

abbrev parts : Settings → List ℕ → List NodeState → List ℕ → List ℕ → List CostRow → MachineState
parts s input nodes started output ledger =
    record {
      settings = s;
      input = input;
      nodes = nodes;
      started = started;
      output = output;
      ledger = ledger;
      exchanges = 0;
      outcome = None;
    }

-- a machine made of these parts is a fresh one
pub fresh-parts : (image : Image) (s : Settings) (input input' : List ℕ) (ps : List PreparedNode) (started output : List ℕ)
    (ledger : List CostRow) → states ps ≡ start_nodes image s → started ≡ replicate s.nodes 0 → input' ≡ input → output ≡ [] → ledger ≡ []
    → record {
      settings = s;
      input = input';
      nodes = states ps;
      started = started;
      output = output;
      ledger = ledger;
      exchanges = 0;
      outcome = None;
    } ≡ fresh image input s
fresh-parts image s input input' ps started output ledger ps_is started_is input_is output_is ledger_is =
    ap₂ (λ (ns : List NodeState) (ts : List ℕ). parts s input' ns ts output ledger) ps_is started_is
    ∙ ap₂ (λ (is os : List ℕ). parts s is (start_nodes image s) (replicate s.nodes 0) os ledger) input_is output_is
    ∙ ap (λ (rs : List CostRow). parts s input (start_nodes image s) (replicate s.nodes 0) [] rs) ledger_is
