-- Each node's output comes behind those before it; at a refusal the output is cut at its old length.
use Rattle.std.proofs.Common.{◌≡◌, ◌++◌, take, length, sym, ap, ◌∙◌, arith, append_assoc, append-nil}
use Rattle.std.proofs.Math.Seq.{take-append_seam}
use Rattle.bsp_exchange.specs.Exchange.{states}
use Rattle.machine_core.specs.Turn.{written}
use Rattle.machine_core.proofs.States.{written-more, written-all}
use Rattle.machine_core.proofs.row.append_output.Goals as goal

pub loop-node-preserved : goal.loop-node-preserved
loop-node-preserved g c =
    let old = c.args.output.now.items in
    let ps = c.args.nodes.now in
    let i = c.loop-node.node-index in
    let before = written (states (take i ps)) in
    let next = written-more ps i c.node-item.result (omega arith) c.node-item.is in
    c.in_default.ensures.items
    ∙ ap (λ xs. xs ++ c.output.result.now) c.loop-node.invariant
    ∙ ap (λ ys. (old ++ before) ++ ys) c.output.ensures.value
    ∙ append_assoc old before _
    ∙ ap (λ xs. old ++ xs) (sym next)

pub returns-in-Err-clause-err : goal.returns-in-Err-clause-err
returns-in-Err-clause-err g c =
    let old = c.args.output.now.items in
    let before : c.len-before.result ≡ length old = omega (arith, c.len-before.ensures) in
    c.truncate.ensures.items
    ∙ ap (λ k. take k c.extend_from_slice.new.self.items) before
    ∙ ap (λ xs. take (length old) xs) (c.in-Err.ensures.items ∙ c.loop-node.invariant)
    ∙ take-append_seam old _

pub returns-clause-ok : goal.returns-clause-ok
returns-clause-ok g c =
    c.loop-node.invariant
    ∙ ap (λ xs. c.args.output.now.items ++ xs) (written-all c.args.nodes.now c.loop-node.node-index c.loop-node-test.false)

pub loop-node-init : goal.loop-node-init
loop-node-init g c = sym (append-nil c.args.output.now.items)
