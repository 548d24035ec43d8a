-- Each rank in turn goes on with the phase, up to the first point; when all ranks have stopped, the phase is whole.
use Rattle.std.proofs.Common.{◌≡◌, None, Ok, refl, ap, ◌∙◌, subst, arith}
use Rattle.machine_core.specs.declared.settings.Settings.{Settings}
use Rattle.machine_core.specs.Machine.{MachineState}
use Rattle.machine_core.specs.Sound.{IsSoundMachine}
use Rattle.machine_core.proofs.Phased.{IsPhasing-start, IsPhasing-more, IsPhasing-done}
use Rattle.machine_core.proofs.Runs.{after-often}
use Rattle.machine_core.proofs.Sound.{length-nodes}
use Rattle.bsp_debug.specs.Trace.{after_steps}
use Rattle.bsp_debug.proofs.trace.Trace.go_through_phase.Goals as goal

pub loop-rank-init : goal.loop-rank-init
loop-rank-init g c =
    let m = c.args.self.now.machine in
    let sound = subst IsSoundMachine c.machine.ensures.value c.settings-rank-end.ensures.sound in
    record {
      trace = c.machine.ensures.trace;
      phasing = IsPhasing-start m sound;
      settings = refl;
      going = c.requires.going;
      outcome = c.requires.open;
      order = c.requires.order;
      start = refl;
    }

pub go_through_node-requires-clause-going : goal.go_through_node-requires-clause-going
go_through_node-requires-clause-going g c = c.loop-rank.invariant.going

pub go_through_node-requires-clause-open : goal.go_through_node-requires-clause-open
go_through_node-requires-clause-open g c = c.loop-rank.invariant.outcome

pub go_through_node-requires-clause-sound : goal.go_through_node-requires-clause-sound
go_through_node-requires-clause-sound g c = c.loop-rank.invariant.phasing.sound

pub go_through_node-requires-clause-below : goal.go_through_node-requires-clause-below
go_through_node-requires-clause-below g c = c.loop-rank.invariant.phasing.stopped

pub go_through_node-requires-clause-order : goal.go_through_node-requires-clause-order
go_through_node-requires-clause-order g c = c.loop-rank.invariant.order

pub returns-in_err-point-clause-start : goal.returns-in_err-point-clause-start
returns-in_err-point-clause-start g c = c.go_through_node.ensures.start ∙ c.loop-rank.invariant.start

pub returns-in-Some-clause-start : goal.returns-in-Some-clause-start
returns-in-Some-clause-start g c = c.go_through_node.ensures.start ∙ c.loop-rank.invariant.start

pub loop-rank-preserved : goal.loop-rank-preserved
loop-rank-preserved g c =
    let so_far = c.loop-rank.invariant in
    let t = c.loop-rank.self in
    let rank = c.loop-rank.rank in
    let none : c.go_through_node.result ≡ Ok None = c.in_ok-point.was ∙ ap Ok c.in_default.is in
    let whole : c.go_through_node.new.self.machine ≡ after_steps t.machine rank t.machine.settings.limit =
    c.go_through_node.ensures.whole none in
    record {
      trace = c.go_through_node.ensures.trace;
      phasing = IsPhasing-more c.args.self.now.machine t.machine c.go_through_node.new.self.machine rank so_far.phasing whole;
      settings = ap (λ (m : MachineState). m.settings) (whole ∙ after-often t.machine.settings.limit t.machine rank) ∙ so_far.settings;
      going = rw none at c.go_through_node.ensures.gone;
      outcome = ap (λ (m : MachineState). m.outcome) (whole ∙ after-often t.machine.settings.limit t.machine rank) ∙ so_far.outcome;
      order = c.go_through_node.ensures.order none;
      start = c.go_through_node.ensures.start ∙ so_far.start;
    }

pub returns-clause-start : goal.returns-clause-start
returns-clause-start g c = c.loop-rank.invariant.start

pub returns-clause-gone : goal.returns-clause-gone
returns-clause-gone g c = c.loop-rank.invariant.going

pub returns-clause-whole : goal.returns-clause-whole
returns-clause-whole g c is =
    let so_far = c.loop-rank.invariant in
    let old = c.args.self.now.machine in
    let sound = subst IsSoundMachine c.machine.ensures.value c.settings-rank-end.ensures.sound in
    let same : c.settings-rank-end.result ≡ old.settings =
    c.settings-rank-end.ensures.value ∙ ap (λ (m : MachineState). m.settings) c.machine.ensures.value in
    let nodes : c.settings-rank-end.result.nodes ≡ old.settings.nodes = ap (λ (s : Settings). s.nodes) same in
    let long = length-nodes c.loop-rank.self.machine so_far.phasing.sound ∙ ap (λ (s : Settings). s.nodes) so_far.settings in
    IsPhasing-done old c.loop-rank.self.machine c.loop-rank.rank sound (omega (arith, long, nodes, c.loop-rank-test.false)) so_far.phasing

pub returns-clause-trace : goal.returns-clause-trace
returns-clause-trace g c = c.loop-rank.invariant.trace
