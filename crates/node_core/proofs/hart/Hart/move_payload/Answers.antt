-- The bytes moved are the first ones of the payload, and the message is gone; with no message, or memory refused, nothing changes.
use Rattle.std.proofs.Common.{◌≡◌, None, Err, true, length, take, sym, ap, ◌∙◌}
use Rattle.std.specs.Prelude.{option_copied}
use Rattle.node_memory.specs.Bytes.{fits}
use Rattle.node_core.specs.Calls.{first_message}
use Rattle.node_core.specs.Hart.{After}
use Rattle.node_core.specs.Inside.{hart_view}
use Rattle.node_core.proofs.Harts.{Keeps-memory, Keeps-taken}
use Rattle.node_core.proofs.Moves.{IsMove, IsMove-read, move-none, move-outside, move-refuses, move-done}
use Rattle.node_core.proofs.NotWritten.{not_written-ok, not_written-refuses, true-unless}
use Rattle.node_core.proofs.Room.{room_after-held, room_after-same}
use Rattle.node_core.proofs.hart.Hart.move_payload.Goals as goal

pub returns-in_default-clause-ok : goal.returns-in_default-clause-ok
returns-in_default-clause-ok g c =
    let h = c.args.self.now.hart in
    let none : first_message h ≡ None = rw (← c.self.view_is) (sym c.first.ensures ∙ ap option_copied c.in_default.is) in
    move-none h none ∙ c.advance.ensures.hart

pub returns-in_default-clause-ready : goal.returns-in_default-clause-ready
returns-in_default-clause-ready g c =
    room_after-held c.args.self.now.ready c.args.self.now.private c.args.self.now.hart c.advance.new.self
    (ap (λ (a : After). a.hart.communication.registrations) c.advance.ensures.hart) c.advance.ensures.rest

pub invariant_of-self : goal.invariant_of-self
invariant_of-self g c = (Keeps-memory (hart_view c.self.inside).hart _ c.write_range.ensures.same_size).sound c.self.invariant

pub returns-in-Err-clause-ok : goal.returns-in-Err-clause-ok
returns-in-Err-clause-ok g c =
    let h = (hart_view c.self.inside).hart in
    let read = rw (← c.self.view_is) at c.reg-addr.ensures in
    let asked = rw (← c.self.view_is) at c.reg.ensures in
    let bytes = take c.min-count.result c.payload-payload.result.now in
    let move : IsMove h c.in-Some.message.now c.reg-addr.result bytes =
    IsMove-read h c.in-Some.message.now c.reg-addr.result c.reg.result c.min-count.result c.payload-payload.result.now
    (sym c.first.ensures ∙ ap option_copied c.in-Some.is) read asked c.payload-payload.ensures
    c.min-count.ensures in
    rw (← c.self.view_is) (not_written-ok h _ _ c.in-Err.error c.not_written.result c.not_written.ensures.ok c.in-Err.ensures.err
    (λ outside. move-outside h c.in-Some.message.now c.reg-addr.result bytes move (c.in-Err.ensures.outside.0 (ap Err outside))))

pub returns-in-Err-clause-ready : goal.returns-in-Err-clause-ready
returns-in-Err-clause-ready g c =
    rw (← c.self.view_is) (sym (room_after-same c.self.inside.communication.slots.ready (hart_view c.self.inside).hart))

pub returns-in-Err-clause-private : goal.returns-in-Err-clause-private
returns-in-Err-clause-private g c = rw (← c.self.view_is) c.write_range.ensures.more.keeps

pub returns-in-Err-clause-refuses : goal.returns-in-Err-clause-refuses
returns-in-Err-clause-refuses g c =
    let h = (hart_view c.self.inside).hart in
    let read = rw (← c.self.view_is) at c.reg-addr.ensures in
    let asked = rw (← c.self.view_is) at c.reg.ensures in
    let bytes = take c.min-count.result c.payload-payload.result.now in
    let move : IsMove h c.in-Some.message.now c.reg-addr.result bytes =
    IsMove-read h c.in-Some.message.now c.reg-addr.result c.reg.result c.min-count.result c.payload-payload.result.now
    (sym c.first.ensures ∙ ap option_copied c.in-Some.is) read asked c.payload-payload.ensures
    c.min-count.ensures in
    rw (← c.self.view_is) (not_written-refuses _ c.in-Err.error c.not_written.result c.not_written.ensures.err (λ refused.
    let fit : fits (length h.memory) c.reg-addr.result (length bytes) ≡ true =
    true-unless _ (λ out. let outside = c.in-Err.ensures.outside.1 out in cc) in
    move-refuses h c.in-Some.message.now c.reg-addr.result bytes move fit (c.in-Err.ensures.some (ap Err refused))))

pub invariant_of-self-2 : goal.invariant_of-self-2
invariant_of-self-2 g c =
    let h = (hart_view c.self.inside).hart in
    rw c.drop_first.ensures ((Keeps-taken _).sound ((Keeps-memory h _ c.write_range.ensures.same_size).sound c.self.invariant))

pub returns-clause-ok : goal.returns-clause-ok
returns-clause-ok g c =
    let h = (hart_view c.self.inside).hart in
    let read = rw (← c.self.view_is) at c.reg-addr.ensures in
    let asked = rw (← c.self.view_is) at c.reg.ensures in
    let bytes = take c.min-count.result c.payload-payload.result.now in
    let move : IsMove h c.in-Some.message.now c.reg-addr.result bytes =
    IsMove-read h c.in-Some.message.now c.reg-addr.result c.reg.result c.min-count.result c.payload-payload.result.now
    (sym c.first.ensures ∙ ap option_copied c.in-Some.is) read asked c.payload-payload.ensures
    c.min-count.ensures in
    let fit : fits (length h.memory) c.reg-addr.result (length bytes) ≡ true =
    true-unless _ (λ out. let outside = c.in-Ok.ensures.outside.1 out in cc) in
    rw (← c.self.view_is) (move-done h c.in-Some.message.now c.reg-addr.result bytes move fit _ _ c.in-Ok.ensures.ok c.drop_first.ensures
    ∙ c.advance-2.ensures.hart)

pub returns-clause-ready : goal.returns-clause-ready
returns-clause-ready g c =
    rw (← c.self.view_is) (room_after-held c.self.inside.communication.slots.ready c.write_range.new.self.private
    (hart_view c.self.inside).hart
    c.advance-2.new.self (ap (λ (a : After). a.hart.communication.registrations) c.advance-2.ensures.hart) c.advance-2.ensures.rest)

pub returns-clause-private : goal.returns-clause-private
returns-clause-private g c = rw (← c.self.view_is, c.advance-2.ensures.rest) c.write_range.ensures.more.keeps
