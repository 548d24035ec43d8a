-- What is got of the list is at the place of the number.
use Rattle.std.proofs.Common.{◌≡◌, None, rules}
use Rattle.std.specs.Prelude.{slice_get}
use Rattle.bsp_debug.specs.Inside.{debugger_view}
use Rattle.bsp_debug.proofs.Keeps.{got-kept, state-found, state-forgotten, state-none}
use Rattle.bsp_debug.proofs.debugger.Debugger.state.Goals.{in_default-via-in-Some+in_default, in_default-via-in_default}
use Rattle.bsp_debug.proofs.debugger.Debugger.state.Goals as goal

pub returns-in-Some-Some : goal.returns-in-Some-Some
returns-in-Some-Some g c =
    let got = got-kept (debugger_view c.self.inside) c.args.self.now c.deref.result.now c.args.number c.get.result c.get.ensures.lookup
    c.deref.ensures.value c.self.view_is in
    state-found c.get.result (slice_get c.args.self.now.kept c.args.number) c.in-Some-Some.field-0 c.in-Some-Some.state c.in-Some-Some.is
    c.in-Some-Some.field-0-is got

pub returns-in_default : goal.returns-in_default
returns-in_default g c =
    let got = got-kept (debugger_view c.self.inside) c.args.self.now c.deref.result.now c.args.number c.get.result c.get.ensures.lookup
    c.deref.ensures.value c.self.view_is in
    elim c.in_default.branch [
      | in_default-via-in-Some+in_default w ↦ let none : w.in_default.field-0.now ≡ None =
          search rules in
          state-forgotten c.get.result (slice_get c.args.self.now.kept c.args.number) w.in_default.field-0 w.in_default.is none got
      | in_default-via-in_default w ↦ state-none c.get.result (slice_get c.args.self.now.kept c.args.number) w.in_default.is got
    ]
