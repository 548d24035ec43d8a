-- The turn, field by field.
use Rattle.std.proofs.Common.{◌≡◌, ℕ, ◌+◌, ◌^◌, ◌<◌, Bool, true, false, List, [], ◌∷◌, ◌++◌, length, map, take, Option, Some, None, refl}
use Rattle.std.proofs.Common.{sym, ap, ap₂, subst, ◌∙◌, arith}
use mir.Syntax.{w64}
use mir.Val.{Fits}
use Rattle.std.specs.Prelude.{is_some, is_none, if◌then◌else◌, IfSome}
use Rattle.std.proofs.Math.Seq.{take-append_seam}
use Rattle.std.proofs.lemmas.Bool.{false≢true}
use Rattle.std.proofs.lemmas.Slice.Zip.{AllZip-long}
use Rattle.node_core.specs.Node.{NodeState}
use Rattle.bsp_exchange.specs.Exchange.{exchanged}
use Rattle.bsp_exchange.specs.Parts.{CanExchange}
use Rattle.bsp_exchange.specs.Traffic.{traffic_of}
use Rattle.bsp_exchange.specs.declared.traffic.Traffic.{Traffic}
use Rattle.cost_ledger.specs.CostRow.{IsBounded, total_in}
use Rattle.cost_ledger.specs.declared.CostRow.{CostRow}
use Rattle.machine_core.specs.declared.outcome.Outcome.{Outcome}
use Rattle.machine_core.specs.declared.event.Event.TheVariants.{Turn}
use Rattle.machine_core.specs.Clock.{first_closed, with_clocks}
use Rattle.machine_core.specs.ExchangingMachine.{AwaitsRow}
use Rattle.machine_core.specs.Machine.{MachineState}
use Rattle.machine_core.specs.Turn.{outcome_of, written, work, no_traffic, cost_row, recorded, decided, turned}
use Rattle.machine_core.specs.Events.{is_enabled}
use Rattle.machine_core.specs.Sound.{IsUnderWay, IsSoundMachine}
use Rattle.machine_core.proofs.Clocks.{first_closed-is}
use Rattle.machine_core.proofs.Costs.{IsBounded-cost_row}
use Rattle.machine_core.proofs.Ends.{exchanges-le-limit, length-ledger}
use Rattle.machine_core.proofs.Exchanged.{map-exchanged}
use Rattle.machine_core.proofs.Options.{none_from}
use Rattle.machine_core.proofs.Sound.{IsSoundMachine-turned, enabled_open, length-nodes, turn_stopped}

abbrev pub row_of : ℕ → Traffic → Bool → CostRow
row_of w moved exchanged = record { w = w; h = moved.h; h_all = moved.h_all; messages = moved.messages; turned = exchanged }

-- the row of the superstep's cost, by whether there is an outcome
abbrev row_by : MachineState → Option Outcome → CostRow
row_by m o = row_of (work m) (if is_none o then traffic_of m.nodes else no_traffic) (is_none o)

turned-by : (m : MachineState) → decided (outcome_of m.nodes) (recorded m) ≡ turned m
unfolding turned
turned-by m = refl

module _ (m : MachineState) where
  pub cost-over : (o : Outcome) (w : ℕ) → outcome_of m.nodes ≡ Some o → w ≡ work m → row_of w no_traffic false ≡ cost_row m
  cost-over o w is w_is = ap (λ k. row_of k no_traffic false) w_is ∙ ap (row_by m) (sym is)

  pub cost-exchanged : (w : ℕ) (moved : Traffic) → outcome_of m.nodes ≡ None → w ≡ work m → moved ≡ traffic_of m.nodes
      → row_of w moved true ≡ cost_row m
  cost-exchanged w moved is w_is moved_is = ap₂ (λ a b. row_of a b true) w_is moved_is ∙ ap (row_by m) (sym is)

  pub turned-over : (o : Outcome) (nodes : List NodeState) (output : List ℕ) (ledger : List CostRow) → outcome_of m.nodes ≡ Some o
      → nodes ≡ m.nodes → output ≡ m.output ++ written m.nodes → ledger ≡ m.ledger ++ cost_row m ∷ []
      → record m { nodes = nodes; output = output; ledger = ledger; outcome = Some o } ≡ turned m
  turned-over o nodes output ledger is same output_is ledger_is =
      ap (λ (ns : List NodeState). record m { nodes = ns; output = output; ledger = ledger; outcome = Some o }) same
      ∙ ap₂ (λ (xs : List ℕ) (rs : List CostRow). record m { output = xs; ledger = rs; outcome = Some o }) output_is ledger_is
      ∙ ap (λ (x : Option Outcome). decided x (recorded m)) (sym is)
      ∙ turned-by m

  -- what an exchanging machine keeps, with the row that came back
  pub turned-exchanged : (rest : MachineState) (nodes : List NodeState) (started : List ℕ) (ledger : List CostRow)
      → outcome_of m.nodes ≡ None → rest ≡ record m { output = m.output ++ written m.nodes }
      → nodes ≡ with_clocks m.settings.clock (m.ledger ++ cost_row m ∷ []) (exchanged m.nodes)
      → started ≡ map (λ (n : NodeState). n.ticks) (exchanged m.nodes) → ledger ≡ rest.ledger ++ cost_row m ∷ []
      → record rest { nodes = nodes; started = started; ledger = ledger; exchanges = rest.exchanges + 1 } ≡ turned m
  turned-exchanged rest nodes started ledger is rest_is nodes_are started_is ledger_is =
      let ticks : started ≡ map (λ (n : NodeState). n.ticks) m.nodes =
      started_is ∙ map-exchanged m.nodes (λ (n : NodeState). n.ticks) (λ n. refl) m.nodes in
      ap (λ (rs : List CostRow). record rest { nodes = nodes; started = started; ledger = rs; exchanges = rest.exchanges + 1 }) ledger_is
      ∙ ap₂ (λ (xs : List NodeState) (ts : List ℕ). record rest
      { nodes = xs; started = ts; ledger = rest.ledger ++ cost_row m ∷ []; exchanges = rest.exchanges + 1 }) nodes_are ticks
      ∙ ap (λ (x : MachineState). record x {
        nodes = with_clocks m.settings.clock (m.ledger ++ cost_row m ∷ []) (exchanged m.nodes);
        started = map (λ (n : NodeState). n.ticks) m.nodes;
        ledger = x.ledger ++ cost_row m ∷ [];
        exchanges = x.exchanges + 1;
      }) rest_is
      ∙ ap (λ (x : Option Outcome). decided x (recorded m)) (sym is)
      ∙ turned-by m

  -- the first clock of the row that came back counts on from what is kept of the ledger
  pub closed-known : (rest : MachineState) (nodes : List NodeState) → IsSoundMachine m → m.outcome ≡ None
      → rest ≡ record m { output = m.output ++ written m.nodes } → nodes ≡ exchanged m.nodes
      → IfSome rest.settings.clock (λ p. first_closed nodes ≡ total_in p.ledger p.g p.l rest.ledger)
  closed-known rest nodes sound none rest_is nodes_are =
      let some : 0 < length m.nodes = omega (arith, length-nodes m sound, sound.settings.some) in
      let known = first_closed-is m.settings.clock m.ledger m.nodes m.nodes m.started some (sound.clocks none) in
      let read =
      subst (λ (ns : List NodeState). IfSome m.settings.clock (λ p. first_closed ns ≡ total_in p.ledger p.g p.l m.ledger))
      (sym nodes_are) known in
      subst (λ (r : MachineState). IfSome r.settings.clock (λ p. first_closed nodes ≡ total_in p.ledger p.g p.l r.ledger))
      (sym rest_is) read

  -- a machine whose turn is enabled has no outcome
  pub no_outcome : IsSoundMachine m → is_enabled m Turn ≡ true → m.outcome ≡ None
  no_outcome sound enabled = none_from m.outcome (λ o is. absurd (some_is o is (enabled_open m Turn sound enabled)))
    where
      some_is : (o : Outcome) → m.outcome ≡ Some o → is_some m.outcome ≡ false → ⊥
      some_is o is none = false≢true (sym none ∙ ap is_some is)

  -- a machine of which no more than room was changed
  pub as_before : (nodes : List NodeState) (output : List ℕ) (ledger : List CostRow) → nodes ≡ m.nodes → output ≡ m.output
      → ledger ≡ m.ledger → record m { nodes = nodes; output = output; ledger = ledger } ≡ m
  as_before nodes output ledger same output_is ledger_is =
      ap₂ (λ (ns : List NodeState) (xs : List ℕ). record m { nodes = ns; output = xs; ledger = ledger }) same output_is
      ∙ ap (λ (rs : List CostRow). record m { ledger = rs }) ledger_is

  -- what is kept of a machine, whose state before the turn is read elsewhere
  pub awaits : (before : MachineState) (output : List ℕ) (ledger : List CostRow) (cost : CostRow) → m ≡ before → IsSoundMachine m
      → is_enabled m Turn ≡ true → outcome_of m.nodes ≡ None → CanExchange m.nodes → output ≡ m.output ++ written m.nodes
      → ledger ≡ m.ledger → cost ≡ cost_row m
      → AwaitsRow before (record m { nodes = before.nodes; output = output; ledger = ledger; outcome = None }) cost
  awaits before output ledger cost same sound enabled none can output_is ledger_is cost_is =
      subst (λ (b : MachineState). AwaitsRow b (record m { nodes = b.nodes; output = output; ledger = ledger; outcome = None }) cost) same
      record {
        sound = sound;
        enabled = enabled;
        none = none;
        exchanges = can;
        recorded =
            ap₂ (λ (xs : List ℕ) (rs : List CostRow). record m { output = xs; ledger = rs; outcome = None }) output_is ledger_is
            ∙ ap (λ (o : Option Outcome). record m { output = m.output ++ written m.nodes; outcome = o }) (sym (no_outcome sound enabled));
        costs = cost_is;
      }

-- what was appended is cut off again
pub cut : (old more : List ℕ) (k : ℕ) → k ≡ length old → take k (old ++ more) ≡ old
cut old more k is = ap (λ n. take n (old ++ more)) is ∙ take-append_seam old more

-- what is kept of a machine, with its row and without the output of the superstep, is that machine
pub called_off : (m rest : MachineState) {cost : CostRow} (nodes : List NodeState) (output : List ℕ) (before : ℕ) → AwaitsRow m rest cost
    → before ≡ length m.output → nodes ≡ m.nodes → output ≡ take before rest.output → record rest { nodes = nodes; output = output } ≡ m
called_off m rest nodes output before waits len nodes_are output_is =
    let old : output ≡ m.output =
    output_is ∙ ap (λ (x : MachineState). take before x.output) waits.recorded ∙ cut m.output (written m.nodes) before len in
    ap₂ (λ (ns : List NodeState) (xs : List ℕ). record rest { nodes = ns; output = xs }) nodes_are old
    ∙ ap (λ (x : MachineState). record x { nodes = m.nodes; output = m.output }) waits.recorded

pub bounds : (m : MachineState) (cost : CostRow) → IsSoundMachine m → cost ≡ cost_row m → IsBounded cost
bounds m cost sound is = rw is (IsBounded-cost_row m sound)

pub rows-lt : (m : MachineState) → IsSoundMachine m → length m.ledger < 2 ^ 41
rows-lt m sound = omega (arith, length-ledger m sound, sound.settings.limit)

pub exchanges-fit : (m : MachineState) → IsSoundMachine m → Fits w64 (m.exchanges + 1)
exchanges-fit m sound = omega (arith, exchanges-le-limit m sound, sound.settings.limit)

pub length-started : (m : MachineState) → IsSoundMachine m → length m.started ≡ length m.nodes
length-started m sound = AllZip-long (IsUnderWay m.exchanges) m.nodes m.started sound.ticks

pub IsSoundMachine-turn : (m : MachineState) → IsSoundMachine m → is_enabled m Turn ≡ true → IsSoundMachine (turned m)
IsSoundMachine-turn m sound enabled = IsSoundMachine-turned m sound (enabled_open m Turn sound enabled) (turn_stopped m enabled)
