-- Two nodes with equally many requests, the same at each place, and the same output ask the same of the exchange.
use Rattle.std.proofs.Common.{◌≡◌, ◌∙◌, sym, arith, rules}
use Rattle.std.proofs.lemmas.Bool.Decides.{nat_tests}
use Rattle.same_nodes.proofs.Lists.{same-lists, same-numbers}
use Rattle.same_nodes.proofs.Records.{same-requests}
use Rattle.same_nodes.proofs.have_same_requests.Goals as goal

pub returns : goal.returns
returns g c = λ holds.
    let requests : c.args.requests.now.requests ≡ c.args.others.now.requests =
    same-lists c.args.requests.now.requests c.args.others.now.requests
    (omega (arith, c.len.ensures.len, c.len-2.ensures.len, c.if-len.false))
    (λ k below. c.loop-place.invariant k (omega (arith, below, c.len-place-end.ensures.len, c.loop-place-test.false))) in
    let output : c.args.requests.now.output ≡ c.args.others.now.output =
    sym c.output.ensures ∙ same-numbers c.output.result.now c.output-2.result.now c.eq.result c.eq.ensures holds ∙ c.output-2.ensures in
    let large : c.args.requests.now.large ≡ c.args.others.now.large = search (rules, nat_tests) in
    same-requests c.args.requests.now c.args.others.now requests output large
