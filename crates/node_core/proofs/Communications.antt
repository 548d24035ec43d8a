-- What each kind of call keeps true of what a node communicates.
use Rattle.std.proofs.Common.{◌≡◌, ℕ, suc, ◌<◌, ◌≤◌, Bool, false, List, [], ◌∷◌, ◌++◌, length, take, drop, Some, arith}
use Rattle.std.specs.Prelude.{All, remove}
use Rattle.std.proofs.lemmas.Bool.Decides.{nat_tests}
use Rattle.std.proofs.lemmas.Grind.{common_steps}
use Rattle.std.proofs.lemmas.List.Elements.{All-append, All-cons, All-drop, All-nil, All-take}
use Rattle.bsp_slots.specs.declared.area.Area.{Area}
use Rattle.bsp_slots.specs.declared.change.Change.TheVariants.{Push, Pop}
use Rattle.bsp_slots.specs.Area.{last_position}
use Rattle.bsp_slots.specs.Registrations.{next_list, max_entries, max_pushes, push_count, is_full, pushed, popped}
use Rattle.bsp_slots.proofs.Soundness.{IsSound-pushed, IsSound-popped, next_list-more}
use Rattle.bsp_requests.specs.Message.{IsShort}
use Rattle.bsp_requests.specs.Request.{Asked, size_of}
use Rattle.bsp_requests.specs.Requests.{Requests, with_request, with_output, are_too_many, is_full_for, IsWithinLimits}
use Rattle.node_core.specs.Communication.{Communication, no_communication, IsCommunication, LiesIn, IsWellAddressed, max_tag_size}

pub All-remove : {X : Type 0} (P : X → Type 0) (xs : List X) (n : ℕ) → All P xs → All P (remove xs n)
All-remove P xs n all = All-append P (take n xs) (drop (suc n) xs) (All-take P n xs all) (All-drop P (suc n) xs all)

pub All-one_more : {X : Type 0} (P : X → Type 0) (xs : List X) (x : X) → All P xs → P x → All P (xs ++ x ∷ [])
All-one_more P xs x all this = All-append P xs (x ∷ []) all (All-cons P x [] this (All-nil P))

IsWithinLimits-with_request : (r : Requests) (request : Asked) (n : ℕ) → size_of request ≡ n → IsWithinLimits r
    → is_full_for r n ≡ false → IsWithinLimits (with_request r request)
IsWithinLimits-with_request r request n size within room =
    record { requests = grind (arith, common_steps, within.requests); bytes = grind (arith, common_steps, within.bytes) }

IsWithinLimits-with_output : (r : Requests) (bytes : List ℕ) (n : ℕ) → length bytes ≡ n → IsWithinLimits r → are_too_many r n ≡ false
    → IsWithinLimits (with_output r bytes)
IsWithinLimits-with_output r bytes n len within room =
    record { requests = within.requests; bytes = grind (arith, common_steps, within.bytes) }

module _ (nprocs size : ℕ) (c : Communication) (sound : IsCommunication nprocs size c) where
  pub IsCommunication-pushed : (area : Area) → is_full c.registrations ≡ false → LiesIn size area
      → IsCommunication nprocs size (record c { registrations = pushed c.registrations area })
  IsCommunication-pushed area room lies =
      let fits : length (next_list c.registrations) < max_entries c.registrations.large = grind (arith, nat_tests) in
      let few : push_count c.registrations < max_pushes c.registrations.large = grind (arith, nat_tests) in
      record {
        registrations = IsSound-pushed c.registrations area sound.registrations fits few;
        areas = sound.areas;
        next_areas =
            rw (next_list-more c.registrations (Push area))
            (All-one_more (LiesIn size) (next_list c.registrations) area sound.next_areas lies);
        requests = sound.requests;
        targets = sound.targets;
        few = sound.few;
        short = sound.short;
        tag_size = sound.tag_size;
        next_tag_size = sound.next_tag_size;
      }

  pub IsCommunication-popped : (addr slot : ℕ) → last_position (next_list c.registrations) addr ≡ Some slot
      → IsCommunication nprocs size (record c { registrations = popped c.registrations addr slot })
  IsCommunication-popped addr slot found = record {
    registrations = IsSound-popped c.registrations addr slot sound.registrations found;
    areas = sound.areas;
    next_areas =
        rw (next_list-more c.registrations (Pop addr slot), found)
        (All-remove (LiesIn size) (next_list c.registrations) slot sound.next_areas);
    requests = sound.requests;
    targets = sound.targets;
    few = sound.few;
    short = sound.short;
    tag_size = sound.tag_size;
    next_tag_size = sound.next_tag_size;
  }

  pub IsCommunication-requested : (request : Asked) (n : ℕ) → size_of request ≡ n → is_full_for c.requests n ≡ false
      → IsWellAddressed nprocs (length c.registrations.in_effect) size request
      → IsCommunication nprocs size (record c { requests = with_request c.requests request })
  IsCommunication-requested request n counts room met = record {
    registrations = sound.registrations;
    areas = sound.areas;
    next_areas = sound.next_areas;
    requests = IsWithinLimits-with_request c.requests request n counts sound.requests room;
    targets = All-one_more (IsWellAddressed nprocs (length c.registrations.in_effect) size) c.requests.requests request sound.targets met;
    few = sound.few;
    short = sound.short;
    tag_size = sound.tag_size;
    next_tag_size = sound.next_tag_size;
  }

  pub IsCommunication-written : (bytes : List ℕ) (n : ℕ) → length bytes ≡ n → are_too_many c.requests n ≡ false
      → IsCommunication nprocs size (record c { requests = with_output c.requests bytes })
  IsCommunication-written bytes n len room = record {
    registrations = sound.registrations;
    areas = sound.areas;
    next_areas = sound.next_areas;
    requests = IsWithinLimits-with_output c.requests bytes n len sound.requests room;
    targets = sound.targets;
    few = sound.few;
    short = sound.short;
    tag_size = sound.tag_size;
    next_tag_size = sound.next_tag_size;
  }

  pub IsCommunication-taken : IsCommunication nprocs size (record c { queue = drop 1 c.queue })
  IsCommunication-taken = record {
    registrations = sound.registrations;
    areas = sound.areas;
    next_areas = sound.next_areas;
    requests = sound.requests;
    targets = sound.targets;
    few = grind (arith, common_steps, sound.few);
    short = All-drop IsShort 1 c.queue sound.short;
    tag_size = sound.tag_size;
    next_tag_size = sound.next_tag_size;
  }

  pub IsCommunication-sized : (next : ℕ) → next ≤ max_tag_size → IsCommunication nprocs size (record c { next_tag_size = next })
  IsCommunication-sized next fits = record {
    registrations = sound.registrations;
    areas = sound.areas;
    next_areas = sound.next_areas;
    requests = sound.requests;
    targets = sound.targets;
    few = sound.few;
    short = sound.short;
    tag_size = sound.tag_size;
    next_tag_size = fits;
  }

pub IsCommunication-none : (nprocs size : ℕ) (large : Bool) → IsCommunication nprocs size (no_communication large)
IsCommunication-none nprocs size large = record {
  registrations = record { in_effect_fits = omega arith; next_fits = omega arith; pushes_fit = omega arith; names_removals = tt };
  areas = All-nil (LiesIn size);
  next_areas = All-nil (LiesIn size);
  requests = record { requests = omega arith; bytes = omega arith };
  targets = All-nil (IsWellAddressed nprocs 0 size);
  few = omega arith;
  short = All-nil IsShort;
  tag_size = omega arith;
  next_tag_size = omega arith;
}
