-- The put's bytes lie inside the area, and its landing has them from the area's start and the offset on.
use Rattle.std.proofs.Common.{ℕ, List, ap, ap₂, ◌∙◌}
use Rattle.bsp_requests.specs.Put.{Put}
use Rattle.bsp_requests.specs.Request.{asks_put}
use Rattle.bsp_exchange.specs.Exchange.{states}
use Rattle.bsp_exchange.specs.Faults.{is_outside, leaves_area}
use Rattle.bsp_exchange.specs.Landings.{put_key, put_landing}
use Rattle.contested_bytes.proofs.gather.put_landing.Goals as goal

pub start_of-addr-requires : goal.start_of-addr-requires
start_of-addr-requires g c =
    let nodes = states c.args.nodes.now in
    let put = c.put.inside in
    record {
      inside = ap (is_outside nodes put.target put.slot put.offset) c.len.ensures
          ∙ ap (λ (p : Put). leaves_area nodes (asks_put p)) c.put.view_is
          ∙ c.requires.inside;
    }

pub returns : goal.returns
returns g c =
    let nodes = states c.args.nodes.now in
    let put = c.put.inside in
    ap₂ (λ (a : ℕ) (bs : List ℕ). record { rank = put.target; addr = a; bytes = bs; key = put_key c.args.caller c.args.issue })
    c.start_of-addr.ensures.value c.in_ok-bytes.ensures.ok
    ∙ ap (put_landing nodes c.args.caller c.args.issue) c.put.view_is
