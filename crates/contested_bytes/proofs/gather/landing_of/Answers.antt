-- A put and a get land what their own functions say of them, and a send lands nothing.
use Rattle.std.proofs.Common.{false, ◌≡◌, sym, ap, subst, ◌∙◌, Some}
use Rattle.bsp_requests.specs.Request.{asked}
use Rattle.bsp_exchange.specs.Exchange.{states}
use Rattle.bsp_exchange.specs.Faults.{leaves_area}
use Rattle.contested_bytes.specs.Gathered.{landing_of, HasRoom}
use Rattle.contested_bytes.proofs.gather.landing_of.Goals as goal

pub put_landing-requires : goal.put_landing-requires
put_landing-requires g c =
    record { inside = subst (λ r. leaves_area (states c.args.nodes.now) (asked r) ≡ false) c.in-Put.is c.requires.inside }

pub get_landing-requires-clause-inside : goal.get_landing-requires-clause-inside
get_landing-requires-clause-inside g c = subst (λ r. leaves_area (states c.args.nodes.now) (asked r) ≡ false) c.in-Get.is c.requires.inside

pub get_landing-requires-clause-room : goal.get_landing-requires-clause-room
get_landing-requires-clause-room g c = subst (λ r. HasRoom (asked r)) c.in-Get.is c.requires.room

pub returns-in_ok-put_landing-in-Put : goal.returns-in_ok-put_landing-in-Put
returns-in_ok-put_landing-in-Put g c =
    ap Some c.in_ok-put_landing-in-Put.ensures ∙ ap (λ r. landing_of (states c.args.nodes.now) c.args.caller c.args.issue (asked r))
    (sym c.in-Put.is)

pub returns-in_ok-get_landing-in-Get : goal.returns-in_ok-get_landing-in-Get
returns-in_ok-get_landing-in-Get g c =
    ap Some c.in_ok-get_landing-in-Get.ensures ∙ ap (λ r. landing_of (states c.args.nodes.now) c.args.caller c.args.issue (asked r))
    (sym c.in-Get.is)

pub returns-in-Send : goal.returns-in-Send
returns-in-Send g c = ap (λ r. landing_of (states c.args.nodes.now) c.args.caller c.args.issue (asked r)) (sym c.in-Send.is)
