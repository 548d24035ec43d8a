-- Of a rank past the row there are no steps; any other is a place of the row.
use Rattle.std.proofs.Common.{◌≡◌, length, sym, ap, ◌∙◌, arith}
use Rattle.std.proofs.lemmas.List.{length-map}
use Rattle.node_core.specs.Node.{PreparedNode}
use Rattle.machine_core.specs.Machine.{MachineState}
use Rattle.machine_core.proofs.Runs.{steps-absent}
use Rattle.machine_core.proofs.machine.Machine.run_node.Goals as goal

pub returns-then-rank-len : goal.returns-then-rank-len
returns-then-rank-len g c =
    let long : c.len.result ≡ length c.args.self.now.nodes =
    c.len.ensures ∙ c.self.inside.nodes.ok.0 ∙ sym (length-map c.self.inside.nodes.items (λ (p : PreparedNode). p.node))
    ∙ ap (λ (m : MachineState). length m.nodes) c.self.view_is in
    record { ok = steps-absent c.args.most c.args.self.now c.args.rank (omega (arith, long, c.if-rank-len.true)); err = tt; refuses = tt }

pub run_at-requires : goal.run_at-requires
run_at-requires g c =
    let long : c.len.result ≡ length c.args.self.now.nodes =
    c.len.ensures ∙ c.self.inside.nodes.ok.0 ∙ sym (length-map c.self.inside.nodes.items (λ (p : PreparedNode). p.node))
    ∙ ap (λ (m : MachineState). length m.nodes) c.self.view_is in
    omega (arith, long, c.if-rank-len.false)

pub returns : goal.returns
returns g c = c.run_at.ensures.steps
