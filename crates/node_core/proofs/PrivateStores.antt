-- Stores into private pages, where more pages become private.
use Rattle.std.proofs.Common.{◌≡◌, Bool, List, Option, Some, None, refl}
use Rattle.node_memory.specs.Pages.{KeepsPrivate}
use Rattle.node_memory.proofs.Owned.{Owns-kept}
use Rattle.rv_tables.specs.declared.instr.Instr.{Instr}
use Rattle.rv_tables.specs.declared.instr.Instr.TheVariants.{R, I, Shift, Load, Store, Branch, Upper, Jal, Jalr, Plain}
use Rattle.node_core.specs.Hart.{Hart, PreparedHart}
use Rattle.rv_tables.specs.declared.code.Code.{Code}
use Rattle.rv_tables.specs.Codes.{decoded}
use Rattle.rv_float_tables.specs.declared.instr.FloatInstr.{FloatInstr}
use Rattle.rv_float_tables.specs.declared.instr.FloatInstr.TheVariants as float
use Rattle.node_core.specs.Effects.{StoresInPrivate}
use Rattle.node_core.specs.Floats.{FloatStoresInPrivate}
use Rattle.float_unit.specs.State.{FloatState}
use Rattle.rv_float_tables.specs.Codes.{float_decoded}
use Rattle.rv_atomics.specs.Codes.{atomic_decoded}
use Rattle.rv_atomics.specs.declared.instr.AtomicInstr.{AtomicInstr}
use Rattle.rv_atomics.specs.declared.instr.AtomicInstr.TheVariants as atomic
use Rattle.rv_atomics.specs.declared.reservation.Reservation.{Reservation}
use Rattle.node_core.specs.Atomics.{AtomicStoresInPrivate}
use Rattle.node_core.specs.Executed.{IsPrivateStore, StoresInPrivateIfAny, FloatStoresInPrivateIfAny, AtomicStoresInPrivateIfAny}
use Rattle.node_core.specs.Executed.{StoresInPrivateOnUnit, StoresInPrivateOnReservation}

StoresInPrivate-kept : (i : Instr) (old new : List Bool) (h : Hart) → KeepsPrivate old new → StoresInPrivate i old h
    → StoresInPrivate i new h
StoresInPrivate-kept (R op rd rs1 rs2) old new h keeps stores = stores
StoresInPrivate-kept (I op rd rs1 imm) old new h keeps stores = stores
StoresInPrivate-kept (Shift op rd rs1 shamt) old new h keeps stores = stores
StoresInPrivate-kept (Load op rd rs1 imm) old new h keeps stores = stores
StoresInPrivate-kept (Store op rs1 rs2 imm) old new h keeps stores = Owns-kept old new _ _ keeps stores
StoresInPrivate-kept (Branch op rs1 rs2 imm) old new h keeps stores = stores
StoresInPrivate-kept (Upper op rd imm) old new h keeps stores = stores
StoresInPrivate-kept (Jal rd imm) old new h keeps stores = stores
StoresInPrivate-kept (Jalr rd rs1 imm) old new h keeps stores = stores
StoresInPrivate-kept (Plain op) old new h keeps stores = stores

FloatStoresInPrivate-kept : (i : FloatInstr) (old new : List Bool) (h : Hart) → KeepsPrivate old new → FloatStoresInPrivate i old h
    → FloatStoresInPrivate i new h
FloatStoresInPrivate-kept (float.Store format rs1 rs2 imm) old new h keeps stores = Owns-kept old new _ _ keeps stores
FloatStoresInPrivate-kept _ old new h keeps stores = stores

AtomicStoresInPrivate-kept : (i : AtomicInstr) (old new : List Bool) (h : Hart) → KeepsPrivate old new → AtomicStoresInPrivate i old h
    → AtomicStoresInPrivate i new h
AtomicStoresInPrivate-kept (atomic.LoadReserved order rd rs1) old new h keeps stores = stores
AtomicStoresInPrivate-kept (atomic.StoreConditional order rd rs1 rs2) old new h keeps stores = Owns-kept old new _ _ keeps stores
AtomicStoresInPrivate-kept (atomic.Amo op order rd rs1 rs2) old new h keeps stores = Owns-kept old new _ _ keeps stores

on_reservation-kept : (r : Option Reservation) (i : AtomicInstr) (old new : List Bool) (h : Hart) → KeepsPrivate old new
    → StoresInPrivateOnReservation r i old h → StoresInPrivateOnReservation r i new h
on_reservation-kept None i old new h keeps stores = stores
on_reservation-kept (Some r) i old new h keeps stores = AtomicStoresInPrivate-kept i old new h keeps stores

atomic_if_any-kept : (i : Option AtomicInstr) (old new : List Bool) (h : Hart) → KeepsPrivate old new
    → AtomicStoresInPrivateIfAny i old h → AtomicStoresInPrivateIfAny i new h
atomic_if_any-kept None old new h keeps stores = stores
atomic_if_any-kept (Some i) old new h keeps stores = on_reservation-kept h.reservation i old new h keeps stores

on_unit-kept : (u : Option FloatState) (i : FloatInstr) (old new : List Bool) (h : Hart) → KeepsPrivate old new
    → StoresInPrivateOnUnit u i old h → StoresInPrivateOnUnit u i new h
on_unit-kept None i old new h keeps stores = stores
on_unit-kept (Some u) i old new h keeps stores = FloatStoresInPrivate-kept i old new h keeps stores

float_if_any-kept : (i : Option FloatInstr) (code : Code) (old new : List Bool) (h : Hart) → KeepsPrivate old new
    → FloatStoresInPrivateIfAny i code old h → FloatStoresInPrivateIfAny i code new h
float_if_any-kept None code old new h keeps stores = atomic_if_any-kept (atomic_decoded code) old new h keeps stores
float_if_any-kept (Some i) code old new h keeps stores = on_unit-kept h.unit i old new h keeps stores

if_any-kept : (i : Option Instr) (code : Code) (old new : List Bool) (h : Hart) → KeepsPrivate old new → StoresInPrivateIfAny i code old h
    → StoresInPrivateIfAny i code new h
if_any-kept None code old new h keeps stores = float_if_any-kept (float_decoded code) code old new h keeps stores
if_any-kept (Some i) code old new h keeps stores = StoresInPrivate-kept i old new h keeps stores

pub IsPrivateStore-kept : (old new : List Bool) (h : Hart) → KeepsPrivate old new → IsPrivateStore old h → IsPrivateStore new h
IsPrivateStore-kept old new h keeps private =
    record {
      code = private.code;
      there = private.there;
      stores = if_any-kept
          (decoded private.code) private.code old new h keeps private.stores;
    }

-- what keeps the list of private pages keeps each of them
pub KeepsPrivate-held : (start after : PreparedHart) → after ≡ record start { hart = after.hart } → KeepsPrivate start.private after.private
KeepsPrivate-held start after rest = rw rest (record { pages = refl; kept = λ page private. private })
