-- The put's bytes lie inside the area, from its start and the offset on.
use Rattle.std.proofs.Common.{◌≡◌, ◌∙◌, ap, sym, arith}
use Rattle.bsp_requests.specs.Put.{Put}
use Rattle.bsp_requests.specs.Request.{asks_put}
use Rattle.bsp_exchange.specs.Exchange.{states}
use Rattle.bsp_exchange.specs.Faults.{is_outside, leaves_area}
use Rattle.node_core.specs.Calls.{call_of}
use Rattle.exposed_runs.specs.Calls.{put_call, put_sort}
use Rattle.exposed_runs.proofs.calls.put_call.Goals as goal

pub start_of-target-requires : goal.start_of-target-requires
start_of-target-requires g c =
    let nodes = states c.args.nodes.now in
    let put = c.put.inside in
    record {
      inside = ap (is_outside nodes put.target put.slot put.offset) c.len-len.ensures
          ∙ ap (λ (p : Put). leaves_area nodes (asks_put p)) c.put.view_is
          ∙ c.requires.inside;
    }

pub overflow_cast-result : goal.overflow_cast-result
overflow_cast-result g c = omega (arith, c.start_of-target.ensures.most)

pub returns : goal.returns
returns g c =
    let nodes = states c.args.nodes.now in
    let note = c.args.note.now in
    let sort : c.put_sort.result ≡ put_sort (call_of note.number) = c.put_sort.ensures ∙ ap put_sort c.of_number.ensures in
    rw (c.len-len.ensures, c.start_of-target.ensures.value, sort) (ap (put_call nodes note) c.put.view_is)
