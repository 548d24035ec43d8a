-- The operands fit their fields, so each kind of instruction has its effect; only a store and a call may be refused memory.
use Rattle.std.proofs.Common.{sym, ap, ◌∙◌, SFits, w32, rules, pos, ◌+ℤ◌}
use Rattle.std.proofs.lemmas.Int.{to_z-of_z}
use Rattle.rv_values.specs.Arithmetic.{modulo}
use Rattle.node_core.specs.Communication.{Communication}
use Rattle.node_core.specs.Hart.{After, PreparedHart}
use Rattle.node_core.proofs.Answered.{on_err}
use Rattle.node_core.proofs.PrivateStores.{KeepsPrivate-held}
use Rattle.node_core.proofs.Room.{room_after-held, room_after-still}
use Rattle.node_core.proofs.hart.Hart.effect.Goals as goal

pub reg-requires : goal.reg-requires
reg-requires g c =
    let encodable = rw c.in-R.is at c.requires in
    encodable.1

pub reg-requires-in-R : goal.reg-requires-in-R
reg-requires-in-R g c =
    let encodable = rw c.in-R.is at c.requires in
    encodable.2

pub put-state-requires : goal.put-state-requires
put-state-requires g c =
    let encodable = rw c.in-R.is at c.requires in
    encodable.0

pub reg-requires-in-I : goal.reg-requires-in-I
reg-requires-in-I g c =
    let encodable = rw c.in-I.is at c.requires in
    encodable.1

pub put-state-requires-in-I : goal.put-state-requires-in-I
put-state-requires-in-I g c =
    let encodable = rw c.in-I.is at c.requires in
    encodable.0

pub reg-requires-in-Shift : goal.reg-requires-in-Shift
reg-requires-in-Shift g c =
    let encodable = rw c.in-Shift.is at c.requires in
    encodable.1

pub shift_value-value-requires : goal.shift_value-value-requires
shift_value-value-requires g c =
    let encodable = rw c.in-Shift.is at c.requires in
    encodable.2

pub put-state-requires-in-Shift : goal.put-state-requires-in-Shift
put-state-requires-in-Shift g c =
    let encodable = rw c.in-Shift.is at c.requires in
    encodable.0

pub reg-requires-in-Load : goal.reg-requires-in-Load
reg-requires-in-Load g c =
    let encodable = rw c.in-Load.is at c.requires in
    encodable.1

pub load-state-requires : goal.load-state-requires
load-state-requires g c =
    let encodable = rw c.in-Load.is at c.requires in
    encodable.0

pub reg-requires-in-Store : goal.reg-requires-in-Store
reg-requires-in-Store g c =
    let encodable = rw c.in-Store.is at c.requires in
    encodable.0

pub reg-value-requires : goal.reg-value-requires
reg-value-requires g c =
    let encodable = rw c.in-Store.is at c.requires in
    encodable.1

pub reg-requires-in-Branch : goal.reg-requires-in-Branch
reg-requires-in-Branch g c =
    let encodable = rw c.in-Branch.is at c.requires in
    encodable.0

pub reg-requires-in-Branch-2 : goal.reg-requires-in-Branch-2
reg-requires-in-Branch-2 g c =
    let encodable = rw c.in-Branch.is at c.requires in
    encodable.1

pub upper-state-requires : goal.upper-state-requires
upper-state-requires g c =
    let encodable = rw c.in-Upper.is at c.requires in
    encodable.0

pub jump_and_link-state-requires : goal.jump_and_link-state-requires
jump_and_link-state-requires g c =
    let encodable = rw c.in-Jal.is at c.requires in
    encodable.0

pub reg-requires-in-Jalr : goal.reg-requires-in-Jalr
reg-requires-in-Jalr g c =
    let encodable = rw c.in-Jalr.is at c.requires in
    encodable.1

pub jump_and_link-state-requires-in-Jalr : goal.jump_and_link-state-requires-in-Jalr
jump_and_link-state-requires-in-Jalr g c =
    let encodable = rw c.in-Jalr.is at c.requires in
    encodable.0

pub returns-in_err-state-in-Store-clause-ready : goal.returns-in_err-state-in-Store-clause-ready
returns-in_err-state-in-Store-clause-ready g c =
    c.store.ensures.ready
    ∙ room_after-still c.args.self.now.ready c.args.self.now.hart c.store.new.self.hart
    (sym (ap (λ (m : Communication). m.registrations) c.store.ensures.registrations))

pub returns-in_err-state-in-Store-clause-private : goal.returns-in_err-state-in-Store-clause-private
returns-in_err-state-in-Store-clause-private g c = c.store.ensures.private

pub returns-in_err-state-in-Store-clause-err : goal.returns-in_err-state-in-Store-clause-err
returns-in_err-state-in-Store-clause-err g c =
    on_err c.from_residual.result _ c.in_err-state-in-Store.ensures.err

pub returns-in_err-state-in-Plain-Ecall-clause-ready : goal.returns-in_err-state-in-Plain-Ecall-clause-ready
returns-in_err-state-in-Plain-Ecall-clause-ready g c = c.call.ensures.ready

pub returns-in_err-state-in-Plain-Ecall-clause-private : goal.returns-in_err-state-in-Plain-Ecall-clause-private
returns-in_err-state-in-Plain-Ecall-clause-private g c = c.call.ensures.private

pub returns-in_err-state-in-Plain-Ecall-clause-err : goal.returns-in_err-state-in-Plain-Ecall-clause-err
returns-in_err-state-in-Plain-Ecall-clause-err g c =
    on_err c.from_residual-in_err-state-in-Plain-Ecall.result _ c.in_err-state-in-Plain-Ecall.ensures.err

pub returns-in-R-clause-ok : goal.returns-in-R-clause-ok
returns-in-R-clause-ok g c =
    rw (c.in-R.is, ← c.reg.ensures, ← c.reg-in-R.ensures, ← c.r_value-value.ensures) c.put-state.ensures.hart

pub returns-in-R-clause-ready : goal.returns-in-R-clause-ready
returns-in-R-clause-ready g c =
    room_after-held c.args.self.now.ready c.args.self.now.private c.args.self.now.hart c.put-state.new.self
    (ap (λ (a : After). a.hart.communication.registrations) c.put-state.ensures.hart) c.put-state.ensures.rest

pub returns-in-R-clause-private : goal.returns-in-R-clause-private
returns-in-R-clause-private g c =
    KeepsPrivate-held c.args.self.now c.put-state.new.self c.put-state.ensures.rest

pub returns-in-I-clause-ready : goal.returns-in-I-clause-ready
returns-in-I-clause-ready g c =
    room_after-held c.args.self.now.ready c.args.self.now.private c.args.self.now.hart c.put-state-in-I.new.self
    (ap (λ (a : After). a.hart.communication.registrations) c.put-state-in-I.ensures.hart) c.put-state-in-I.ensures.rest

pub returns-in-I-clause-private : goal.returns-in-I-clause-private
returns-in-I-clause-private g c =
    KeepsPrivate-held c.args.self.now c.put-state-in-I.new.self c.put-state-in-I.ensures.rest

pub returns-in-Shift-clause-ok : goal.returns-in-Shift-clause-ok
returns-in-Shift-clause-ok g c =
    rw (c.in-Shift.is, ← c.reg-in-Shift.ensures, ← c.shift_value-value.ensures) c.put-state-in-Shift.ensures.hart

pub returns-in-Shift-clause-ready : goal.returns-in-Shift-clause-ready
returns-in-Shift-clause-ready g c =
    room_after-held c.args.self.now.ready c.args.self.now.private c.args.self.now.hart c.put-state-in-Shift.new.self
    (ap (λ (a : After). a.hart.communication.registrations) c.put-state-in-Shift.ensures.hart) c.put-state-in-Shift.ensures.rest

pub returns-in-Shift-clause-private : goal.returns-in-Shift-clause-private
returns-in-Shift-clause-private g c =
    KeepsPrivate-held c.args.self.now c.put-state-in-Shift.new.self c.put-state-in-Shift.ensures.rest

pub returns-in-Load-clause-private : goal.returns-in-Load-clause-private
returns-in-Load-clause-private g c =
    KeepsPrivate-held c.args.self.now c.load-state.new.self c.load-state.ensures.rest

pub returns-in_ok-state-in-Store-clause-ready : goal.returns-in_ok-state-in-Store-clause-ready
returns-in_ok-state-in-Store-clause-ready g c =
    c.store.ensures.ready
    ∙ room_after-still c.args.self.now.ready c.args.self.now.hart c.store.new.self.hart
    (sym (ap (λ (m : Communication). m.registrations) c.store.ensures.registrations))

pub returns-in_ok-state-in-Store-clause-private : goal.returns-in_ok-state-in-Store-clause-private
returns-in_ok-state-in-Store-clause-private g c = c.store.ensures.private

pub returns-then-is_taken-clause-ready : goal.returns-then-is_taken-clause-ready
returns-then-is_taken-clause-ready g c =
    room_after-held c.args.self.now.ready c.args.self.now.private c.args.self.now.hart c.jump-then-is_taken.new.self
    (ap (λ (a : After). a.hart.communication.registrations) c.jump-then-is_taken.ensures.hart) c.jump-then-is_taken.ensures.rest

pub returns-then-is_taken-clause-private : goal.returns-then-is_taken-clause-private
returns-then-is_taken-clause-private g c =
    KeepsPrivate-held c.args.self.now c.jump-then-is_taken.new.self c.jump-then-is_taken.ensures.rest

pub returns-else-is_taken-clause-ok : goal.returns-else-is_taken-clause-ok
returns-else-is_taken-clause-ok g c =
    rw (c.in-Branch.is, ← c.reg-in-Branch.ensures, ← c.reg-in-Branch-2.ensures, ← c.is_taken.ensures, c.if-is_taken.false)
    c.pass.ensures.hart

pub returns-else-is_taken-clause-ready : goal.returns-else-is_taken-clause-ready
returns-else-is_taken-clause-ready g c =
    room_after-held c.args.self.now.ready c.args.self.now.private c.args.self.now.hart c.pass.new.self
    (ap (λ (a : After). a.hart.communication.registrations) c.pass.ensures.hart) c.pass.ensures.rest

pub returns-else-is_taken-clause-private : goal.returns-else-is_taken-clause-private
returns-else-is_taken-clause-private g c =
    KeepsPrivate-held c.args.self.now c.pass.new.self c.pass.ensures.rest

pub returns-in-Upper-clause-ok : goal.returns-in-Upper-clause-ok
returns-in-Upper-clause-ok g c =
    rw (c.in-Upper.is) c.upper-state.ensures.hart

pub returns-in-Upper-clause-ready : goal.returns-in-Upper-clause-ready
returns-in-Upper-clause-ready g c =
    room_after-held c.args.self.now.ready c.args.self.now.private c.args.self.now.hart c.upper-state.new.self
    (ap (λ (a : After). a.hart.communication.registrations) c.upper-state.ensures.hart) c.upper-state.ensures.rest

pub returns-in-Upper-clause-private : goal.returns-in-Upper-clause-private
returns-in-Upper-clause-private g c =
    KeepsPrivate-held c.args.self.now c.upper-state.new.self c.upper-state.ensures.rest

pub returns-in-Jal-clause-ready : goal.returns-in-Jal-clause-ready
returns-in-Jal-clause-ready g c =
    room_after-held c.args.self.now.ready c.args.self.now.private c.args.self.now.hart c.jump_and_link-state.new.self
    (ap (λ (a : After). a.hart.communication.registrations) c.jump_and_link-state.ensures.hart) c.jump_and_link-state.ensures.rest

pub returns-in-Jal-clause-private : goal.returns-in-Jal-clause-private
returns-in-Jal-clause-private g c =
    KeepsPrivate-held c.args.self.now c.jump_and_link-state.new.self c.jump_and_link-state.ensures.rest

pub returns-in-Jalr-clause-ready : goal.returns-in-Jalr-clause-ready
returns-in-Jalr-clause-ready g c =
    room_after-held c.args.self.now.ready c.args.self.now.private c.args.self.now.hart c.jump_and_link-state-in-Jalr.new.self
    (ap (λ (a : After). a.hart.communication.registrations) c.jump_and_link-state-in-Jalr.ensures.hart)
    c.jump_and_link-state-in-Jalr.ensures.rest

pub returns-in-Jalr-clause-private : goal.returns-in-Jalr-clause-private
returns-in-Jalr-clause-private g c =
    KeepsPrivate-held c.args.self.now c.jump_and_link-state-in-Jalr.new.self c.jump_and_link-state-in-Jalr.ensures.rest

pub returns-in_ok-state-in-Plain-Ecall-clause-ready : goal.returns-in_ok-state-in-Plain-Ecall-clause-ready
returns-in_ok-state-in-Plain-Ecall-clause-ready g c = c.call.ensures.ready

pub returns-in_ok-state-in-Plain-Ecall-clause-private : goal.returns-in_ok-state-in-Plain-Ecall-clause-private
returns-in_ok-state-in-Plain-Ecall-clause-private g c = c.call.ensures.private

pub returns-in_err-state-in-Store-clause-refuses : goal.returns-in_err-state-in-Store-clause-refuses
returns-in_err-state-in-Store-clause-refuses g c =
    let fits : SFits w32 c.in-Store.imm = search rules in
    let addr = rw (to_z-of_z w32 c.in-Store.imm fits) at c.offset_by-addr-in-Store.ensures in
    on_err c.from_residual.result _
    (rw (c.in-Store.is, ← c.reg-in-Store.ensures, ← addr, ← c.reg-value.ensures) c.in_err-state-in-Store.ensures.refuses)

pub returns-in_err-state-in-Store-clause-shared : goal.returns-in_err-state-in-Store-clause-shared
returns-in_err-state-in-Store-clause-shared g c =
    let fits : SFits w32 c.in-Store.imm = search rules in
    let addr = rw (to_z-of_z w32 c.in-Store.imm fits) at c.offset_by-addr-in-Store.ensures in
    on_err c.from_residual.result _
    (rw (c.in-Store.is, ← c.reg-in-Store.ensures, ← addr, ← c.reg-value.ensures) c.in_err-state-in-Store.ensures.shared)

pub returns-in_ok-state-in-Store-clause-ok : goal.returns-in_ok-state-in-Store-clause-ok
returns-in_ok-state-in-Store-clause-ok g c =
    let fits : SFits w32 c.in-Store.imm = search rules in
    let addr = rw (to_z-of_z w32 c.in-Store.imm fits) at c.offset_by-addr-in-Store.ensures in
    rw (c.in-Store.is, ← c.reg-in-Store.ensures, ← addr, ← c.reg-value.ensures) c.in_ok-state-in-Store.ensures.ok

pub returns-in-Load-clause-ok : goal.returns-in-Load-clause-ok
returns-in-Load-clause-ok g c =
    let fits : SFits w32 c.in-Load.imm = search rules in
    let addr = rw (to_z-of_z w32 c.in-Load.imm fits) at c.offset_by-addr.ensures in
    rw (c.in-Load.is, ← c.reg-in-Load.ensures, ← addr) c.load-state.ensures.hart

pub returns-in-I-clause-ok : goal.returns-in-I-clause-ok
returns-in-I-clause-ok g c =
    let fits : SFits w32 c.in-I.imm = search rules in
    let value = rw (to_z-of_z w32 c.in-I.imm fits) at c.i_value-value.ensures in
    rw (c.in-I.is, ← c.reg-in-I.ensures, ← value) c.put-state-in-I.ensures.hart

pub returns-in-Jalr-clause-ok : goal.returns-in-Jalr-clause-ok
returns-in-Jalr-clause-ok g c =
    let fits : SFits w32 c.in-Jalr.imm = search rules in
    let addr = rw (to_z-of_z w32 c.in-Jalr.imm fits) at c.offset_by-in-Jalr.ensures in
    rw (c.in-Jalr.is, ← c.reg-in-Jalr.ensures, ← addr) c.jump_and_link-state-in-Jalr.ensures.hart

pub returns-then-is_taken-clause-ok : goal.returns-then-is_taken-clause-ok
returns-then-is_taken-clause-ok g c =
    let fits : SFits w32 c.in-Branch.imm = search rules in
    let at = rw (to_z-of_z w32 c.in-Branch.imm fits) at c.offset_by.ensures in
    let target = at ∙ ap (λ (p : PreparedHart). modulo (pos p.hart.pc +ℤ c.in-Branch.imm)) c.jump.view_is in
    rw (c.in-Branch.is, ← c.reg-in-Branch.ensures, ← c.reg-in-Branch-2.ensures, ← c.is_taken.ensures, c.if-is_taken.true, ← target)
    c.jump-then-is_taken.ensures.hart

pub returns-in-Jal-clause-ok : goal.returns-in-Jal-clause-ok
returns-in-Jal-clause-ok g c =
    let fits : SFits w32 c.in-Jal.imm = search rules in
    let at = rw (to_z-of_z w32 c.in-Jal.imm fits) at c.offset_by-target.ensures in
    let target = at ∙ ap (λ (p : PreparedHart). modulo (pos p.hart.pc +ℤ c.in-Jal.imm)) c.self.view_is in
    rw (c.in-Jal.is, ← target) c.jump_and_link-state.ensures.hart
