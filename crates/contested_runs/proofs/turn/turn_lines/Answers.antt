-- The lines of a turn are those of the ranges that were found, where it makes an exchange.
use Rattle.std.proofs.Common.{◌∙◌, ◌++◌, ℕ, List, ap, sym, subst}
use Rattle.node_core.specs.Node.{NodeState}
use Rattle.bsp_exchange.specs.Exchange.{AreAtSync}
use Rattle.bsp_exchange.specs.Faults.{exchange_fault}
use Rattle.bsp_exchange.specs.Landings.{landings}
use Rattle.contested_bytes.specs.declared.range.ContestedRange.{ContestedRange}
use Rattle.machine_core.proofs.Sound.{turn_stopped}
use Rattle.settled_runs.proofs.Contested.{can_exchange}
use Rattle.contested_runs.specs.Lines.{range_lines}
use Rattle.contested_runs.specs.Runs.{AreContestedRanges, AreTurnLines}
use Rattle.contested_runs.proofs.Turns.{no-lines, turn-lines}
use Rattle.contested_runs.proofs.turn.turn_lines.Goals.{then-makes_exchange+in_ok-found+in_ok-write_ranges, else-makes_exchange}
use Rattle.contested_runs.proofs.turn.turn_lines.Goals as goal

pub contested_ranges-requires-clause-row : goal.contested_ranges-requires-clause-row
contested_ranges-requires-clause-row g c =
    let m = c.args.machine.now in
    let makes = sym c.makes_exchange.ensures ∙ c.if-makes_exchange.true in
    subst AreAtSync (sym c.nodes.ensures) (can_exchange m c.requires.sound (turn_stopped m c.requires.enabled) makes).row

pub contested_ranges-requires-clause-faultless : goal.contested_ranges-requires-clause-faultless
contested_ranges-requires-clause-faultless g c =
    let m = c.args.machine.now in
    let makes = sym c.makes_exchange.ensures ∙ c.if-makes_exchange.true in
    ap exchange_fault c.nodes.ensures ∙ (can_exchange m c.requires.sound (turn_stopped m c.requires.enabled) makes).faultless

pub returns : goal.returns
returns g c =
    let m = c.args.machine.now in
    elim c.if-makes_exchange.branch [
      | then-makes_exchange+in_ok-found+in_ok-write_ranges w ↦
          let found : List ContestedRange = w.in_ok-found.found.items in
          let makes = sym c.makes_exchange.ensures ∙ w.if-makes_exchange.true in
          let ranges : AreContestedRanges (landings m.nodes) found =
          subst (λ (ns : List NodeState). AreContestedRanges (landings ns) found) w.nodes.ensures
          (record {
            contested = w.in_ok-found.ensures.contested;
            exact = w.in_ok-found.ensures.exact;
            apart = w.in_ok-found.ensures.apart;
          }) in
          let text =
          w.in_ok-write_ranges.ensures
          ∙ ap (λ (bs : List ℕ). bs ++ range_lines w.superstep.result w.deref.result.now) c.new-text.ensures.bytes
          ∙ ap (λ (cs : List ContestedRange). range_lines w.superstep.result cs) w.deref.ensures.value in
          rw w.text-is (subst (AreTurnLines m) (sym text) (turn-lines m w.superstep.result found makes w.superstep.ensures ranges))
      | else-makes_exchange w ↦
          rw w.text-is
          (subst (AreTurnLines m) (sym c.new-text.ensures.bytes)
          (no-lines m (sym c.makes_exchange.ensures ∙ w.if-makes_exchange.false)))
    ]
