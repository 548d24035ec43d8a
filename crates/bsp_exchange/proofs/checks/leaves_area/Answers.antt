-- For a put, `is_outside` is asked with its own target, slot, offset and length, as the definition does.
use Rattle.std.proofs.Common.{ap, sym, ◌∙◌}
use Rattle.bsp_requests.specs.Put.{Put}
use Rattle.bsp_requests.specs.Request.{asked, asks_put}
use Rattle.bsp_exchange.specs.Exchange.{states}
use Rattle.bsp_exchange.specs.Faults.{is_outside, leaves_area}
use Rattle.bsp_exchange.proofs.checks.leaves_area.Goals as goal

pub returns-in-Put : goal.returns-in-Put
returns-in-Put g c =
    let nodes = states c.args.nodes.now in
    let put = c.put.inside in
    c.is_outside.ensures
    ∙ ap (is_outside nodes put.target put.slot put.offset) c.len.ensures
    ∙ ap (λ (p : Put). leaves_area nodes (asks_put p)) c.put.view_is
    ∙ ap (λ r. leaves_area nodes (asked r)) (sym c.in-Put.is)
