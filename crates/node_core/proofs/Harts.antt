-- What the parts of an instruction keep of a hart.
use Rattle.std.proofs.Common.{◌≡◌, ℕ, ◌≤◌, Bool, true, false, List, [], ◌∷◌, ◌++◌, length, drop, Option, Some, None, refl, sym, ap, ◌∙◌}
use Rattle.std.proofs.Common.{arith, append_assoc}
use Rattle.std.specs.Prelude.{IsSomeAnd, is_some, slice_index}
use Rattle.std.proofs.lemmas.Grind.{common_steps}
use Rattle.std.proofs.lemmas.List.{append-nil}
use Rattle.bsp_slots.specs.declared.area.Area.{Area}
use Rattle.bsp_slots.specs.Area.{last_position}
use Rattle.bsp_slots.specs.Registrations.{PreparedRegistrations, next_list, is_full, pushed, popped}
use Rattle.bsp_requests.specs.Request.{Asked, size_of}
use Rattle.bsp_requests.specs.Requests.{with_request, with_output, are_too_many, is_full_for}
use Rattle.node_core.specs.Communication.{Communication, IsCommunication, LiesIn, IsWellAddressed, HasLimits, max_tag_size}
use Rattle.float_unit.specs.State.{FloatState}
use Rattle.rv_atomics.specs.declared.reservation.Reservation.{Reservation}
use Rattle.node_core.specs.Hart.{Hart, IsHart, room_after, with_reg, unit_becomes, reserves, unreserved, with_nothing_reserved}
use Rattle.node_core.specs.Hart.{with_memory, with_registrations, with_requests}
use Rattle.node_core.specs.Node.{Extends}
use Rattle.node_core.proofs.Communications.{IsCommunication-pushed, IsCommunication-popped, IsCommunication-requested}
use Rattle.node_core.proofs.Communications.{IsCommunication-written, IsCommunication-taken, IsCommunication-sized}

pub Extends-same : {X : Type 0} (xs : List X) → Extends xs xs
Extends-same xs = ([], sym (append-nil xs))

pub Extends-one_more : {X : Type 0} (xs : List X) (ys : List X) → Extends xs (xs ++ ys)
Extends-one_more xs ys = (ys, refl)

pub Extends-then : {X : Type 0} (xs ys zs : List X) → Extends xs ys → Extends ys zs → Extends xs zs
Extends-then xs ys zs first second =
    (first.0 ++ second.0, second.1 ∙ ap (λ list. list ++ second.0) first.1 ∙ append_assoc xs first.0 second.0)

-- no call changes the areas in effect, the size of tags and the limits, and pushes, pops, requests and output are added at the end
pub record KeepsCommunication (old new : Communication) : Type 0 where
  pub in_effect : new.registrations.in_effect ≡ old.registrations.in_effect
  pub tag_size : new.tag_size ≡ old.tag_size
  pub changes : Extends old.registrations.changes new.registrations.changes
  pub requests : Extends old.requests.requests new.requests.requests
  pub output : Extends old.requests.output new.requests.output
  pub limits : (large : Bool) → HasLimits large old → HasLimits large new

pub KeepsCommunication-same : (c : Communication) → KeepsCommunication c c
KeepsCommunication-same c =
    record {
      in_effect = refl;
      tag_size = refl;
      changes = Extends-same c.registrations.changes;
      requests = Extends-same c.requests.requests;
      output = Extends-same c.requests.output;
      limits = λ large has. has;
    }

pub KeepsCommunication-then : (a b c : Communication) → KeepsCommunication a b → KeepsCommunication b c → KeepsCommunication a c
KeepsCommunication-then a b c first second = record {
  in_effect = second.in_effect ∙ first.in_effect;
  tag_size = second.tag_size ∙ first.tag_size;
  changes = Extends-then a.registrations.changes b.registrations.changes c.registrations.changes first.changes second.changes;
  requests = Extends-then a.requests.requests b.requests.requests c.requests.requests first.requests second.requests;
  output = Extends-then a.requests.output b.requests.output c.requests.output first.output second.output;
  limits = λ large has. second.limits large (first.limits large has);
}

-- no instruction changes these, or only adds to them; and a sound hart stays sound
pub record Keeps (old new : Hart) : Type 0 where
  pub rank : new.rank ≡ old.rank
  pub nprocs : new.nprocs ≡ old.nprocs
  pub memory_size : length new.memory ≡ length old.memory
  pub communication : KeepsCommunication old.communication new.communication
  pub unit : is_some new.unit ≡ is_some old.unit
  pub reservation : is_some new.reservation ≡ is_some old.reservation
  pub sound : IsHart old → IsHart new

pub Keeps-then : (a b c : Hart) → Keeps a b → Keeps b c → Keeps a c
Keeps-then a b c first second = record {
  rank = second.rank ∙ first.rank;
  nprocs = second.nprocs ∙ first.nprocs;
  memory_size = second.memory_size ∙ first.memory_size;
  communication = KeepsCommunication-then a.communication b.communication c.communication first.communication second.communication;
  unit = second.unit ∙ first.unit;
  reservation = second.reservation ∙ first.reservation;
  sound = λ sound. second.sound (first.sound sound);
}

-- another pc, place in the input and registers
with_rest : (h : Hart) (pc cursor : ℕ) (registers : List ℕ) → (length h.registers ≡ 32 → length registers ≡ 32)
    → (length h.registers ≡ 32 → slice_index h.registers 0 ≡ 0 → slice_index registers 0 ≡ 0)
    → Keeps h (record h { pc = pc; cursor = cursor; registers = registers })
with_rest h pc cursor registers len x0 = record {
  rank = refl;
  nprocs = refl;
  memory_size = refl;
  communication = KeepsCommunication-same h.communication;
  unit = refl;
  reservation = refl;
  sound =
      λ sound. record {
        ranked = sound.ranked;
        few = sound.few;
        thirty_two = len sound.thirty_two;
        x0 = x0 sound.thirty_two sound.x0;
        memory = sound.memory;
        communication = sound.communication;
      };
}

pub Keeps-pc : (h : Hart) (pc : ℕ) → Keeps h (record h { pc = pc })
Keeps-pc h pc = with_rest h pc h.cursor h.registers (λ len. len) (λ len x0. x0)

pub Keeps-same : (h : Hart) → Keeps h h
Keeps-same h = Keeps-pc h h.pc

pub Keeps-cursor : (h : Hart) (cursor : ℕ) → Keeps h (record h { cursor = cursor })
Keeps-cursor h cursor = with_rest h h.pc cursor h.registers (λ len. len) (λ len x0. x0)

pub Keeps-reg : (h : Hart) (rd value : ℕ) → Keeps h (with_reg rd value h)
Keeps-reg h rd value =
    with_rest h h.pc h.cursor (with_reg rd value h).registers (λ len. grind (arith, common_steps))
    (λ len x0. grind (arith, common_steps))

pub Keeps-unit : (h : Hart) (u : FloatState) → is_some h.unit ≡ true → Keeps h (unit_becomes u h)
Keeps-unit h u has = record {
  rank = refl;
  nprocs = refl;
  memory_size = refl;
  communication = KeepsCommunication-same h.communication;
  unit = sym has;
  reservation = refl;
  sound =
      λ sound. record {
        ranked = sound.ranked;
        few = sound.few;
        thirty_two = sound.thirty_two;
        x0 = sound.x0;
        memory = sound.memory;
        communication = sound.communication;
      };
}

-- another reservation
with_reservation : (h : Hart) (r : Option Reservation) → is_some r ≡ is_some h.reservation → Keeps h (record h { reservation = r })
with_reservation h r has = record {
  rank = refl;
  nprocs = refl;
  memory_size = refl;
  communication = KeepsCommunication-same h.communication;
  unit = refl;
  reservation = has;
  sound =
      λ sound. record {
        ranked = sound.ranked;
        few = sound.few;
        thirty_two = sound.thirty_two;
        x0 = sound.x0;
        memory = sound.memory;
        communication = sound.communication;
      };
}

pub Keeps-reserves : (h : Hart) (r : Reservation) → is_some h.reservation ≡ true → Keeps h (reserves r h)
Keeps-reserves h r has = with_reservation h (Some r) (sym has)

pub Keeps-unreserved : (h : Hart) → Keeps h (with_nothing_reserved h)
Keeps-unreserved h = with_reservation h (unreserved h.reservation) (kept h.reservation) where
  kept : (r : Option Reservation) → is_some (unreserved r) ≡ is_some r
  kept None = refl
  kept (Some r) = refl

pub Keeps-memory : (h : Hart) (bytes : List ℕ) → length bytes ≡ length h.memory → Keeps h (with_memory bytes h)
Keeps-memory h bytes len = record {
  rank = refl;
  nprocs = refl;
  memory_size = len;
  communication = KeepsCommunication-same h.communication;
  unit = refl;
  reservation = refl;
  sound =
      λ sound. record {
        ranked = sound.ranked;
        few = sound.few;
        thirty_two = sound.thirty_two;
        x0 = sound.x0;
        memory = rw len sound.memory;
        communication = rw len sound.communication;
      };
}

-- another communication
with_communication : (h : Hart) (c : Communication) → KeepsCommunication h.communication c
    → (IsCommunication h.nprocs (length h.memory) h.communication → IsCommunication h.nprocs (length h.memory) c)
    → Keeps h (record h { communication = c })
with_communication h c keeps sound = record {
  rank = refl;
  nprocs = refl;
  memory_size = refl;
  communication = keeps;
  unit = refl;
  reservation = refl;
  sound =
      λ hart. record {
        ranked = hart.ranked;
        few = hart.few;
        thirty_two = hart.thirty_two;
        x0 = hart.x0;
        memory = hart.memory;
        communication = sound hart.communication;
      };
}

module _ (h : Hart) where
  pub Keeps-pushed : (area : Area) → is_full h.communication.registrations ≡ false → LiesIn (length h.memory) area
      → Keeps h (with_registrations (pushed h.communication.registrations area) h)
  Keeps-pushed area room lies =
      with_communication h (record h.communication { registrations = pushed h.communication.registrations area })
      (record {
        in_effect = refl;
        tag_size = refl;
        changes = Extends-one_more h.communication.registrations.changes _;
        requests = Extends-same h.communication.requests.requests;
        output = Extends-same h.communication.requests.output;
        limits = λ large has. has;
      }) (λ sound. IsCommunication-pushed h.nprocs (length h.memory) h.communication sound area room lies)

  pub Keeps-popped : (addr slot : ℕ) → last_position (next_list h.communication.registrations) addr ≡ Some slot
      → Keeps h (with_registrations (popped h.communication.registrations addr slot) h)
  Keeps-popped addr slot found =
      with_communication h (record h.communication { registrations = popped h.communication.registrations addr slot })
      (record {
        in_effect = refl;
        tag_size = refl;
        changes = Extends-one_more h.communication.registrations.changes _;
        requests = Extends-same h.communication.requests.requests;
        output = Extends-same h.communication.requests.output;
        limits = λ large has. has;
      }) (λ sound. IsCommunication-popped h.nprocs (length h.memory) h.communication sound addr slot found)

  pub Keeps-requested : (request : Asked) (n : ℕ) → size_of request ≡ n → is_full_for h.communication.requests n ≡ false
      → IsWellAddressed h.nprocs (length h.communication.registrations.in_effect) (length h.memory) request
      → Keeps h (with_requests (with_request h.communication.requests request) h)
  Keeps-requested request n counts room met =
      with_communication h (record h.communication { requests = with_request h.communication.requests request })
      (record {
        in_effect = refl;
        tag_size = refl;
        changes = Extends-same h.communication.registrations.changes;
        requests = Extends-one_more h.communication.requests.requests (request ∷ []);
        output = Extends-same h.communication.requests.output;
        limits = λ large has. has;
      }) (λ sound. IsCommunication-requested h.nprocs (length h.memory) h.communication sound request n counts room met)

  pub Keeps-written : (bytes : List ℕ) (n : ℕ) → length bytes ≡ n → are_too_many h.communication.requests n ≡ false
      → Keeps h (with_requests (with_output h.communication.requests bytes) h)
  Keeps-written bytes n len room =
      with_communication h (record h.communication { requests = with_output h.communication.requests bytes })
      (record {
        in_effect = refl;
        tag_size = refl;
        changes = Extends-same h.communication.registrations.changes;
        requests = Extends-same h.communication.requests.requests;
        output = Extends-one_more h.communication.requests.output bytes;
        limits = λ large has. has;
      }) (λ sound. IsCommunication-written h.nprocs (length h.memory) h.communication sound bytes n len room)

  pub Keeps-taken : Keeps h (record h { communication = record h.communication { queue = drop 1 h.communication.queue } })
  Keeps-taken =
      with_communication h (record h.communication { queue = drop 1 h.communication.queue })
      (record {
        in_effect = refl;
        tag_size = refl;
        changes = Extends-same h.communication.registrations.changes;
        requests = Extends-same h.communication.requests.requests;
        output = Extends-same h.communication.requests.output;
        limits = λ large has. has;
      }) (λ sound. IsCommunication-taken h.nprocs (length h.memory) h.communication sound)

  pub Keeps-sized : (size : ℕ) → size ≤ max_tag_size
      → Keeps h (record h { communication = record h.communication { next_tag_size = size } })
  Keeps-sized size fits =
      with_communication h (record h.communication { next_tag_size = size })
      (record {
        in_effect = refl;
        tag_size = refl;
        changes = Extends-same h.communication.registrations.changes;
        requests = Extends-same h.communication.requests.requests;
        output = Extends-same h.communication.requests.output;
        limits = λ large has. has;
      }) (λ sound. IsCommunication-sized h.nprocs (length h.memory) h.communication sound size fits)

-- what holds of the value in a `Some`, with that value
some_and : (o : Option ℕ) (P : ℕ → Type 0) → IsSomeAnd o P → (n : ℕ) × ((o ≡ Some n) × P n)
some_and (Some n) P holds = (n, (refl, holds))
some_and None P holds = absurd holds

-- what a pop that was not refused leaves
module _ (h : Hart) (addr : ℕ) (slots : PreparedRegistrations)
    (pop : IsSomeAnd (last_position (next_list h.communication.registrations) addr)
    (λ slot. slots ≡ record { registrations = popped h.communication.registrations addr slot; ready = false })) where
  pub IsHart-popped : IsHart h → IsHart (with_registrations slots.registrations h)
  IsHart-popped sound =
      let made =
      some_and (last_position (next_list h.communication.registrations) addr)
      (λ slot. slots ≡ record { registrations = popped h.communication.registrations addr slot; ready = false }) pop in
      rw made.1.1 ((Keeps-popped h addr made.0 made.1.0).sound sound)

  pub not_ready-popped : (ready : Bool) → slots.ready ≡ room_after ready h (with_registrations slots.registrations h)
  not_ready-popped ready =
      let made =
      some_and (last_position (next_list h.communication.registrations) addr)
      (λ slot. slots ≡ record { registrations = popped h.communication.registrations addr slot; ready = false }) pop in
      rw made.1.1 (grind (arith, common_steps))
