-- Each push adds one part with nothing in it, so past the last node there are as many of them as nodes.
use Rattle.std.proofs.Common.{◌≡◌, List, ◌++◌, ◌∷◌, [], length, replicate, ap, ap₂, ◌∙◌, arith}
use Rattle.std.proofs.lemmas.List.{replicate_more}
use Rattle.std.proofs.lemmas.Result.{IfOk-from_err}
use Rattle.bsp_exchange.specs.Arrivals.{Received, nothing}
use Rattle.bsp_exchange.proofs.gather.empty_parts.Goals as goal

pub returns-in_err-parts : goal.returns-in_err-parts
returns-in_err-parts g c = IfOk-from_err c.from_residual.result _ c.from_residual.ensures.0

pub loop-node-init : goal.loop-node-init
loop-node-init g c = c.in_ok-parts.ensures.items

pub returns-in_err-push : goal.returns-in_err-push
returns-in_err-push g c = IfOk-from_err c.from_residual-in_err-push.result _ c.from_residual-in_err-push.ensures.0

pub loop-node-preserved : goal.loop-node-preserved
loop-node-preserved g c =
    c.in_ok-push.ensures.items
    ∙ ap₂ (λ (ps : List Received) (p : Received). ps ++ p ∷ []) c.loop-node.invariant c.new.ensures
    ∙ replicate_more c.loop-node.node-index nothing

pub returns : goal.returns
returns g c =
    let all : c.loop-node.node-index ≡ length c.args.nodes.now = omega arith in
    c.loop-node.invariant ∙ ap (λ n. replicate n nothing) all
