-- With no outcome before the exchange, the outcome is the fault of the exchange; and where there is none, its draft closes the superstep.
use Rattle.std.proofs.Common.{◌≡◌, Some, refl, ap, ◌∙◌, option_map}
use Rattle.bsp_exchange.specs.Exchange.{states}
use Rattle.bsp_exchange.specs.Faults.{exchange_fault}
use Rattle.bsp_exchange.specs.Parts.{CanExchange}
use Rattle.machine_core.specs.declared.outcome.Outcome.TheVariants.{Refused}
use Rattle.machine_core.proofs.Closings.{outcome-exchange}
use Rattle.machine_core.proofs.closing.close.Goals as goal

pub returns-in-Ok : goal.returns-in-Ok
returns-in-Ok g c =
    let drafted = c.in-Ok.ensures in
    let can : CanExchange (states c.args.nodes.now) = drafted.exchanges in
    record {
      ok = record {
        none =
            outcome-exchange c.args.nodes.now (c.in_default.ensures.stopped refl) (c.in_default.ensures.ended refl)
            ∙ ap (option_map Refused) can.faultless;
        exchanges = can;
        gathered = drafted.parts;
        ready = drafted.ready;
        traffic = drafted.traffic;
      };
    }

pub returns-in-Err-Fault : goal.returns-in-Err-Fault
returns-in-Err-Fault g c =
    let same = rw c.in-Err-Fault.field-0-is at c.in-Err-Fault.ensures.fault in
    let fault : exchange_fault (states c.args.nodes.now) ≡ Some c.in-Err-Fault.fault = (same c.in-Err-Fault.fault).0 refl in
    record {
      ok = outcome-exchange c.args.nodes.now (c.in_default.ensures.stopped refl) (c.in_default.ensures.ended refl)
          ∙ ap (option_map Refused) fault;
    }

pub draft-requires : goal.draft-requires
draft-requires g c = c.requires (c.in_default.ensures.stopped refl) (c.in_default.ensures.ended refl)
