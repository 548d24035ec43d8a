-- What the clocks of nodes change, and what they keep.
use Rattle.std.proofs.Common.{◌≡◌, ◌==◌, ℕ, ◌<◌, true, false, List, [], ◌∷◌, length, map, All, get_or, Option, Some, None, refl, sym, ap}
use Rattle.std.proofs.Common.{ap₂, ◌∙◌, arith}
use Rattle.std.proofs.lemmas.Bool.{eqb-true, false≢true}
use Rattle.std.proofs.lemmas.List.{length-map}
use Rattle.std.specs.Prelude.{IfSome}
use Rattle.std.specs.List.{AllZip}
use Rattle.std.specs.Option.{option_map_or}
use Rattle.std.proofs.lemmas.List.Elements.{All-map}
use Rattle.node_core.specs.declared.clock.Clock.{Clock}
use Rattle.node_core.specs.Node.{NodeState, PreparedNode, IsNode, local_step, with_clock}
use Rattle.node_core.proofs.Sound.{IsLater-local_step}
use Rattle.bsp_exchange.specs.Exchange.{exchanged_node, states}
use Rattle.cost_ledger.specs.declared.CostRow.{CostRow}
use Rattle.cost_ledger.specs.CostRow.{total_in}
use Rattle.machine_core.specs.declared.settings.Prices.{Prices}
use Rattle.machine_core.specs.declared.settings.Settings.{Settings}
use Rattle.machine_core.specs.Clock.{HasClock, first_closed}
use Rattle.machine_core.specs.Sound.{IsNodeOf}
use Rattle.machine_core.proofs.Exchanged.{map-exchanged}
use Rattle.machine_core.proofs.States.{state_at_place}

-- what no clock has a part in is the same of all nodes, whatever their clocks
pub map-clocks : {Y : Type 0} (closed : Option ℕ) (f : NodeState → Y) → ((n : NodeState) → f (with_clock closed n) ≡ f n)
    → (nodes : List NodeState) → map f (map (with_clock closed) nodes) ≡ map f nodes
map-clocks closed f same [] = refl
map-clocks closed f same (n ∷ rest) = ap₂ ◌∷◌ (same n) (map-clocks closed f same rest)

pub AllZip-clocks : {Y : Type 0} (closed : Option ℕ) (P : NodeState → Y → Type 0)
    → ((n : NodeState) (y : Y) → P n y → P (with_clock closed n) y) → (nodes : List NodeState) (ys : List Y) → AllZip P nodes ys
    → AllZip P (map (with_clock closed) nodes) ys
AllZip-clocks closed P keeps [] [] all = tt
AllZip-clocks closed P keeps [] (y ∷ ys) all = absurd all
AllZip-clocks closed P keeps (n ∷ rest) [] all = absurd all
AllZip-clocks closed P keeps (n ∷ rest) (y ∷ ys) all = (keeps n y all.0, AllZip-clocks closed P keeps rest ys all.1)

pub All-clocks : (closed : Option ℕ) (P : NodeState → Type 0) → ((n : NodeState) → P n → P (with_clock closed n)) → (nodes : List NodeState)
    → All P nodes → All P (map (with_clock closed) nodes)
All-clocks closed P keeps nodes all = All-map P (with_clock closed) nodes (λ k d within. keeps _ (all k d within))

-- what a turn lands in nodes, and what their clocks count on from, changes nothing of this
pub map-begun : {Y : Type 0} (closed : Option ℕ) (all : List NodeState) (f : NodeState → Y)
    → ((n : NodeState) → f (with_clock closed n) ≡ f n) → ((n : NodeState) → f (exchanged_node all n) ≡ f n) → (nodes : List NodeState)
    → map f (map (with_clock closed) (map (exchanged_node all) nodes)) ≡ map f nodes
map-begun closed all f clock same nodes = map-clocks closed f clock (map (exchanged_node all) nodes) ∙ map-exchanged all f same nodes

IsNode-clock : (closed : Option ℕ) (n : NodeState) → IsNode n → IsNode (with_clock closed n)
IsNode-clock closed n sound =
    record {
      limited = sound.limited;
      within = sound.within;
      has_ticks_left = sound.has_ticks_left;
      has_stepped = sound.has_stepped;
      is_fresh = sound.is_fresh;
    }

pub IsNodeOf-clock : (s : Settings) (closed : Option ℕ) (n : NodeState) → IsNodeOf s n → IsNodeOf s (with_clock closed n)
IsNodeOf-clock s closed n of = record {
  nodes = of.nodes;
  memory = of.memory;
  limit = of.limit;
  unit = of.unit;
  reservation = of.reservation;
  limits = of.limits;
  sound = record { node = IsNode-clock closed n of.sound.node; hart = of.sound.hart };
}

module _ (prices : Option Prices) (rows : List CostRow) where
  -- no step changes a clock
  pub HasClock-local_step : (input : List ℕ) (n : NodeState) (started : ℕ) → HasClock prices rows n started
      → HasClock prices rows (local_step input n) started
  HasClock-local_step input n started has = (IsLater-local_step input n).clock ∙ has

  -- nodes of which a row has the clocks, after an exchange
  pub first_closed-is : (all nodes : List NodeState) (started : List ℕ) → 0 < length nodes → AllZip (HasClock prices rows) nodes started
      → IfSome prices (λ p. first_closed (map (exchanged_node all) nodes) ≡ total_in p.ledger p.g p.l rows)
  first_closed-is all [] started some clocks = absurd (omega arith)
  first_closed-is all (n ∷ rest) [] some clocks = absurd clocks
  first_closed-is all (n ∷ rest) (t ∷ started) some clocks = by prices clocks.0
    where
      by : (prices : Option Prices) → HasClock prices rows n t
          → IfSome prices (λ p. first_closed (map (exchanged_node all) (n ∷ rest)) ≡ total_in p.ledger p.g p.l rows)
      by None has = tt
      by (Some p) has = ap (λ (c : Option Clock). option_map_or (λ (x : Clock). x.closed) c 0) has

-- a prepared node with its clock set
abbrev pub clock_set : Option ℕ → PreparedNode → PreparedNode
clock_set closed p = record p { node = with_clock closed p.node }

pub states-clock_set : (closed : Option ℕ) (ps : List PreparedNode)
    → states (map (clock_set closed) ps) ≡ map (with_clock closed) (states ps)
states-clock_set closed [] = refl
states-clock_set closed (p ∷ ps) = ap (λ (ns : List NodeState). with_clock closed p.node ∷ ns) (states-clock_set closed ps)

-- the first clock of a row
abbrev closed_of : Option Clock → ℕ
closed_of clock = option_map_or (λ (c : Clock). c.closed) clock 0

pub first_closed-none : (ps : List PreparedNode) → (length ps == 0) ≡ true → 0 ≡ first_closed (states ps)
first_closed-none [] empty = refl
first_closed-none (p ∷ ps) empty = absurd (omega (arith, eqb-true (length (p ∷ ps)) 0 empty))

pub some_nodes : (ps : List PreparedNode) → (length ps == 0) ≡ false → 0 < length ps
some_nodes [] some = absurd (false≢true (sym some))
some_nodes (p ∷ ps) some = omega arith

pub first_closed-at : (ps : List PreparedNode) (p : PreparedNode) → 0 < length ps → p ≡ get_or ps 0 p
    → first_closed (states ps) ≡ option_map_or (λ (c : Clock). c.closed) p.node.clock 0
first_closed-at ps p within is =
    ap (λ (o : Option NodeState). option_map_or (λ (n : NodeState). closed_of n.clock) o 0) (state_at_place ps 0 p within is)

-- a row whose clocks were set has as many nodes
pub as_many_nodes : (old new : List PreparedNode) (closed : Option ℕ) → states new ≡ map (with_clock closed) (states old)
    → length old ≡ length new
as_many_nodes old new closed is =
    sym (length-map old (λ (p : PreparedNode). p.node))
    ∙ sym (length-map (states old) (with_clock closed))
    ∙ sym (ap length is)
    ∙ length-map new (λ (p : PreparedNode). p.node)
