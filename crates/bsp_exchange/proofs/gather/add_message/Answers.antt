-- The target's part is there, and is put back with the message added.
use Rattle.std.proofs.Common.{◌≡◌, ◌<◌, length, set, subst, sym}
use Rattle.std.specs.Prelude.{OnOk}
use Rattle.bsp_requests.specs.Outgoing.{Outgoing}
use Rattle.bsp_exchange.specs.Arrivals.{Received, with_message, message_of}
use Rattle.bsp_exchange.specs.Parts.{changed_at}
use Rattle.bsp_exchange.proofs.Gathered.{put_back}
use borrow.Author.Rules.{scaled_Fits}
use Rattle.bsp_exchange.proofs.gather.add_message.Goals as goal

pub returns : goal.returns
returns g c =
    let parts = c.args.parts.now in
    let target = c.message.inside.target in
    let f : Received → Received = with_message (message_of c.args.sender c.args.message.now) in
    let within = subst (λ (m : Outgoing). m.target < length parts) (sym c.message.view_is) c.requires.target in
    subst (λ (m : Outgoing). OnOk c.add_message.result (set parts target c.add_message.new.self ≡ changed_at f m.target parts)) c.message.view_is
    (put_back f target parts c.index-parts-message.result c.add_message.new.self c.add_message.result within c.index-parts-message.is
    (rw c.index-parts-message.is c.add_message.ensures.ok))

pub bounds-parts-message-inside : goal.bounds-parts-message-inside
bounds-parts-message-inside g c = subst (λ (m : Outgoing). m.target < length c.args.parts.now) (sym c.message.view_is) c.requires.target

pub offset_bounds-parts-message-inside : goal.offset_bounds-parts-message-inside
offset_bounds-parts-message-inside g c =
    let within = subst (λ (m : Outgoing). m.target < length c.args.parts.now) (sym c.message.view_is) c.requires.target in
    scaled_Fits c.message.inside.target (length c.args.parts.now) _ within (search c.well_formed)
