-- Of a rank past the row there are no steps and no addresses; any other is a place of the row.
use Rattle.std.proofs.Common.{◌≡◌, length, sym, ap, ◌∙◌, arith, zero-le}
use Rattle.std.proofs.lemmas.List.{length-map}
use Rattle.node_core.specs.Node.{PreparedNode}
use Rattle.machine_core.specs.Machine.{MachineState}
use Rattle.machine_core.proofs.Addresses.{addresses-absent}
use Rattle.machine_core.proofs.Runs.{steps-absent}
use Rattle.machine_core.proofs.machine.Machine.run_node_traced.Goals as goal

pub returns-then-rank-len-clause-steps : goal.returns-then-rank-len-clause-steps
returns-then-rank-len-clause-steps g c =
    let long : c.len.result ≡ length c.args.self.now.nodes =
    c.len.ensures ∙ c.self.inside.nodes.ok.0 ∙ sym (length-map c.self.inside.nodes.items (λ (p : PreparedNode). p.node))
    ∙ ap (λ (m : MachineState). length m.nodes) c.self.view_is in
    record {
      ok = steps-absent (length c.args.pcs.now) c.args.self.now c.args.rank (omega (arith, long, c.if-rank-len.true));
      err = tt;
      refuses = tt;
    }

pub run_traced_at-requires : goal.run_traced_at-requires
run_traced_at-requires g c =
    let long : c.len.result ≡ length c.args.self.now.nodes =
    c.len.ensures ∙ c.self.inside.nodes.ok.0 ∙ sym (length-map c.self.inside.nodes.items (λ (p : PreparedNode). p.node))
    ∙ ap (λ (m : MachineState). length m.nodes) c.self.view_is in
    omega (arith, long, c.if-rank-len.false)

pub returns-clause-steps : goal.returns-clause-steps
returns-clause-steps g c = c.run_traced_at.ensures.steps

pub returns-then-rank-len-clause-addresses : goal.returns-then-rank-len-clause-addresses
returns-then-rank-len-clause-addresses g c =
    let long : c.len.result ≡ length c.args.self.now.nodes =
    c.len.ensures ∙ c.self.inside.nodes.ok.0 ∙ sym (length-map c.self.inside.nodes.items (λ (p : PreparedNode). p.node))
    ∙ ap (λ (m : MachineState). length m.nodes) c.self.view_is in
    record {
      few = zero-le;
      are =
          sym (addresses-absent c.args.self.now.input c.args.rank (length c.args.pcs.now) c.args.self.now.nodes
          (omega (arith, long, c.if-rank-len.true)));
    }

pub returns-clause-addresses : goal.returns-clause-addresses
returns-clause-addresses g c = c.run_traced_at.ensures.addresses
