-- Node by node the row comes to the end of its local parts; at a refusal it is on the way there, and the lowest node that runs refused.
use Rattle.std.proofs.Common.{◌≡◌, ℕ, ◌<◌, ◌≤◌, length, refl, sym, ap, subst, ◌∙◌}
use Rattle.std.proofs.lemmas.List.{length-map}
use Rattle.std.proofs.lemmas.Result.{err_from_is_err_and}
use Rattle.node_core.specs.Node.{PreparedNode}
use Rattle.machine_core.specs.declared.settings.Settings.{Settings}
use Rattle.machine_core.specs.Events.{after}
use Rattle.machine_core.specs.Inside.{machine_view}
use Rattle.machine_core.specs.Machine.{MachineState}
use Rattle.machine_core.specs.Sound.{IsSoundMachine}
use Rattle.machine_core.proofs.Phased.{IsPhasing-start, IsPhasing-more, IsPhasing-done, IsOnPhase-part, IsSoundMachine-part, stopped-part}
use Rattle.machine_core.proofs.Phased.{outcome_from, lowest_from}
use Rattle.machine_core.proofs.Runs.{steps_of, after-often}
use Rattle.machine_core.proofs.Sound.{length-nodes}
use Rattle.machine_core.proofs.machine.Machine.run_phase_plain.Goals as goal

-- places by the length of a row
within : (k a b : ℕ) → a ≡ b → k < a → k < b
within k a b same below = rw (← same) below

all_done : (k a b : ℕ) → a ≡ b → a ≤ k → b ≤ k
all_done k a b same past = rw (← same) past

pub loop-rank-init : goal.loop-rank-init
loop-rank-init g c =
    record { phasing = IsPhasing-start c.args.self.now (subst IsSoundMachine c.self.view_is c.self.invariant); settings = refl }

pub run_at-requires : goal.run_at-requires
run_at-requires g c =
    let end : c.len-rank-end.result ≡ c.args.self.now.settings.nodes =
    c.len-rank-end.ensures ∙ c.self.inside.nodes.ok.0 ∙ sym (length-map c.self.inside.nodes.items (λ (p : PreparedNode). p.node))
    ∙ length-nodes (machine_view c.self.inside) c.self.invariant ∙ ap (λ (m : MachineState). m.settings.nodes) c.self.view_is in
    let long : length c.loop-rank.self.nodes ≡ c.args.self.now.settings.nodes =
    length-nodes c.loop-rank.self c.loop-rank.invariant.phasing.sound ∙ ap (λ (s : Settings). s.nodes) c.loop-rank.invariant.settings in
    within c.loop-rank.rank _ _ (end ∙ sym long) c.loop-rank-test.true

pub returns-in_err-run_at-clause-err : goal.returns-in_err-run_at-clause-err
returns-in_err-run_at-clause-err g c =
    let p = err_from_is_err_and c.from_residual.result c.from_residual.ensures.1 in
    let made = c.in_err-run_at.ensures.steps.err in
    rw p.1 (IsOnPhase-part c.args.self.now c.loop-rank.self c.run_at.new.self c.loop-rank.rank c.loop-rank.invariant.phasing made.0 made.2)

pub returns-in_err-run_at-clause-going : goal.returns-in_err-run_at-clause-going
returns-in_err-run_at-clause-going g c =
    let p = err_from_is_err_and c.from_residual.result c.from_residual.ensures.1 in
    let made = c.in_err-run_at.ensures.steps.err in
    let sound =
    IsSoundMachine-part c.args.self.now c.loop-rank.self c.run_at.new.self c.loop-rank.rank c.loop-rank.invariant.phasing
    made.0 made.2 in
    rw p.1 (outcome_from c.run_at.new.self c.loop-rank.rank sound c.in_err-run_at.ensures.steps.refuses)

pub returns-in_err-run_at-clause-refuses : goal.returns-in_err-run_at-clause-refuses
returns-in_err-run_at-clause-refuses g c =
    let p = err_from_is_err_and c.from_residual.result c.from_residual.ensures.1 in
    let made = c.in_err-run_at.ensures.steps.err in
    let before =
    stopped-part c.args.self.now c.loop-rank.self c.run_at.new.self c.loop-rank.rank c.loop-rank.invariant.phasing made.0 made.2 in
    rw p.1 (lowest_from c.run_at.new.self c.loop-rank.rank before c.in_err-run_at.ensures.steps.refuses)

pub loop-rank-preserved : goal.loop-rank-preserved
loop-rank-preserved g c =
    let m = c.loop-rank.self in
    let made : c.run_at.new.self ≡ after m (steps_of c.loop-rank.rank m.settings.limit) =
    c.in_ok-run_at.ensures.steps.ok
    ∙ ap (λ (x : MachineState). after m (steps_of c.loop-rank.rank x.settings.limit)) c.self-in-loop-rank.view_is in
    record {
      phasing = IsPhasing-more c.args.self.now m c.run_at.new.self c.loop-rank.rank c.loop-rank.invariant.phasing made;
      settings =
          ap (λ (x : MachineState). x.settings) (made ∙ after-often m.settings.limit m c.loop-rank.rank) ∙ c.loop-rank.invariant.settings;
    }

pub returns-clause-ok : goal.returns-clause-ok
returns-clause-ok g c =
    let end : c.len-rank-end.result ≡ c.args.self.now.settings.nodes =
    c.len-rank-end.ensures ∙ c.self.inside.nodes.ok.0 ∙ sym (length-map c.self.inside.nodes.items (λ (p : PreparedNode). p.node))
    ∙ length-nodes (machine_view c.self.inside) c.self.invariant ∙ ap (λ (m : MachineState). m.settings.nodes) c.self.view_is in
    let long : length c.loop-rank.self.nodes ≡ c.args.self.now.settings.nodes =
    length-nodes c.loop-rank.self c.loop-rank.invariant.phasing.sound ∙ ap (λ (s : Settings). s.nodes) c.loop-rank.invariant.settings in
    let sound = subst IsSoundMachine c.self.view_is c.self.invariant in
    IsPhasing-done c.args.self.now c.loop-rank.self c.loop-rank.rank sound
    (all_done c.loop-rank.rank _ _ (end ∙ sym long) c.loop-rank-test.false) c.loop-rank.invariant.phasing
