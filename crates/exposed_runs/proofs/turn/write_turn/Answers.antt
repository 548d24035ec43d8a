-- The lines of a turn are those of the ranges that were found, where it makes an exchange.
use Rattle.std.proofs.Common.{◌≡◌, ◌∙◌, ◌++◌, ℕ, List, [], None, ap, sym, subst, append-nil, string_bytes}
use Rattle.node_core.specs.Node.{NodeState}
use Rattle.bsp_exchange.specs.Faults.{first_outside}
use Rattle.bsp_exchange.specs.Issued.{issued}
use Rattle.contested_bytes.proofs.Requested.{none_outside}
use Rattle.exposed_bytes.specs.declared.call.Call.{Call}
use Rattle.exposed_bytes.specs.declared.exposure.Exposure.{Exposure}
use Rattle.exposed_bytes.specs.Found.{AreExposures}
use Rattle.machine_core.proofs.Sound.{turn_stopped}
use Rattle.settled_runs.proofs.Contested.{can_exchange}
use Rattle.exposed_runs.specs.Calls.{calls}
use Rattle.exposed_runs.specs.Lines.{exposure_lines}
use Rattle.exposed_runs.proofs.Turns.{no-lines, turn-lines}
use Rattle.exposed_runs.proofs.turn.write_turn.Goals as goal

pub calls-requires : goal.calls-requires
calls-requires g c =
    let m = c.args.machine.now in
    let makes = sym c.makes_exchange.ensures ∙ c.if-makes_exchange.true in
    record {
      inside =
          subst (λ (ns : List NodeState). first_outside ns (issued ns) ≡ None) (sym c.nodes.ensures)
          (none_outside m.nodes (can_exchange m c.requires.sound (turn_stopped m c.requires.enabled) makes).faultless);
    }

pub returns-in_ok-write_exposures : goal.returns-in_ok-write_exposures
returns-in_ok-write_exposures g c =
    let m = c.args.machine.now in
    let notes = c.args.notes.now in
    let number = c.superstep.result in
    let found : List Exposure = c.in_ok-found.found.items in
    let makes = sym c.makes_exchange.ensures ∙ c.if-makes_exchange.true in
    let made : c.deref.result.now ≡ calls m.nodes notes =
    c.deref.ensures.value ∙ c.in_ok-calls.ensures ∙ ap (λ (ns : List NodeState). calls ns notes) c.nodes.ensures in
    let ranges : AreExposures (calls m.nodes notes) found = subst (λ (cs : List Call). AreExposures cs found) made c.in_ok-found.ensures in (
      exposure_lines number found,
      turn-lines m notes number found makes c.superstep.ensures ranges,
      c.in_ok-write_exposures.ensures
          ∙ ap (λ (es : List Exposure). string_bytes c.args.text.now ++ exposure_lines number es) c.deref-then-makes_exchange.ensures.value,
    )

pub returns-else-makes_exchange : goal.returns-else-makes_exchange
returns-else-makes_exchange g c = (
  [],
  no-lines c.args.machine.now c.args.notes.now (sym c.makes_exchange.ensures ∙ c.if-makes_exchange.false),
  sym (append-nil (string_bytes c.args.text.now)),
)
