-- What is found out of nodes at the end of a superstep.
use Rattle.std.proofs.Common.{◌≡◌, Bool, true, false, cond, List, [], ◌∷◌, Option, Some, None, option_map, refl, sym, ap, ap₂, ◌∙◌}
use Rattle.std.specs.Prelude.{find}
use Rattle.std.specs.Option.{option_or}
use Rattle.node_core.specs.declared.state.State.{State}
use Rattle.node_core.specs.Node.{NodeState, PreparedNode}
use Rattle.bsp_exchange.specs.Exchange.{states}
use Rattle.bsp_exchange.specs.Faults.{exchange_fault}
use Rattle.machine_core.specs.declared.outcome.Outcome.TheVariants.{Desync, Ended, Refused}
use Rattle.machine_core.specs.Turn.{was_stopped, has_ended, is_waiting, lowest, stopped_by, outcome_of, outcome_unstopped}

-- the lowest node in some state, found in the row
pub lowest-states : (test : State → Bool) (ps : List PreparedNode)
    → lowest test (states ps) ≡ option_map (λ (p : PreparedNode). p.node) (find (λ (p : PreparedNode). test p.node.state) ps)
lowest-states test [] = refl
lowest-states test (p ∷ ps) =
    ap (cond (test p.node.state) (Some p.node)) (lowest-states test ps)
    ∙ moved (test p.node.state) p.node (find (λ (prepared : PreparedNode). test prepared.node.state) ps) p refl
  where
    moved : (holds : Bool) (node : NodeState) (found : Option PreparedNode) (prepared : PreparedNode) → prepared.node ≡ node
        → cond holds (Some node) (option_map (λ (x : PreparedNode). x.node) found) ≡ option_map (λ (x : PreparedNode). x.node)
        (cond holds (Some prepared) found)
    moved true node found prepared is = ap (λ (x : NodeState). Some x) (sym is)
    moved false node found prepared is = refl

module _ (ps : List PreparedNode) where
  pub lowest-is : (test : State → Bool) (o : Option PreparedNode) → o ≡ find (λ (p : PreparedNode). test p.node.state) ps
      → lowest test (states ps) ≡ option_map (λ (p : PreparedNode). p.node) o
  lowest-is test o found = lowest-states test ps ∙ ap (option_map (λ (p : PreparedNode). p.node)) (sym found)

  -- the outcome by what was found of each kind
  pub outcome-is : (stopped ended waiting : Option NodeState) → lowest was_stopped (states ps) ≡ stopped
      → lowest has_ended (states ps) ≡ ended → lowest is_waiting (states ps) ≡ waiting
      → outcome_of (states ps) ≡ option_or (option_map stopped_by stopped) (outcome_unstopped ended waiting (states ps))
  outcome-is stopped ended waiting s e w =
      ap (λ (o : Option NodeState). option_or (option_map stopped_by o)
      (outcome_unstopped (lowest has_ended (states ps)) (lowest is_waiting (states ps)) (states ps))) s
      ∙ ap₂ (λ (a b : Option NodeState). option_or (option_map stopped_by stopped) (outcome_unstopped a b (states ps))) e w

  pub outcome-stopped : (n : NodeState) → lowest was_stopped (states ps) ≡ Some n → outcome_of (states ps) ≡ Some (stopped_by n)
  outcome-stopped n s = outcome-is (Some n) (lowest has_ended (states ps)) (lowest is_waiting (states ps)) s refl refl

  pub outcome-desync : (e w : NodeState) → lowest was_stopped (states ps) ≡ None → lowest has_ended (states ps) ≡ Some e
      → lowest is_waiting (states ps) ≡ Some w → outcome_of (states ps) ≡ Some (Desync e.hart.rank w.hart.rank)
  outcome-desync e w = outcome-is None (Some e) (Some w)

  pub outcome-ended : (e : NodeState) → lowest was_stopped (states ps) ≡ None → lowest has_ended (states ps) ≡ Some e
      → lowest is_waiting (states ps) ≡ None → outcome_of (states ps) ≡ Some Ended
  outcome-ended e = outcome-is None (Some e) None

  pub outcome-exchange : lowest was_stopped (states ps) ≡ None → lowest has_ended (states ps) ≡ None
      → outcome_of (states ps) ≡ option_map Refused (exchange_fault (states ps))
  outcome-exchange s e = outcome-is None None (lowest is_waiting (states ps)) s e refl
