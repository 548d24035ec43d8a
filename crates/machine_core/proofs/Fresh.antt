-- A machine at its start is sound.
use Rattle.std.proofs.Common.{◌≡◌, ℕ, zero, suc, ◌+◌, ◌<◌, Bool, true, false, List, [], ◌∷◌, length, map, replicate, get_or, Some, None}
use Rattle.std.proofs.Common.{refl, ap, arith}
use Rattle.std.specs.Prelude.{is_some, if◌then◌else◌}
use Rattle.std.specs.List.{AllZip, range_with_len}
use Rattle.std.proofs.lemmas.Bool.{false≢true}
use Rattle.std.proofs.lemmas.List.Elements.{All-map}
use Rattle.std.proofs.lemmas.List.FromFn.{length-range_with_len, get_or-range_with_len}
use Rattle.node_memory.specs.Image.{Image}
use Rattle.node_memory.proofs.ImageBytes.{length-image_bytes}
use Rattle.float_unit.specs.State.{start as unit_at_start}
use Rattle.rv_atomics.specs.declared.reservation.Reservation.TheVariants.{Nothing}
use Rattle.node_core.specs.Node.{NodeState, IsSoundNode}
use Rattle.node_core.proofs.Communications.{IsCommunication-none}
use Rattle.machine_core.specs.declared.settings.Settings.{Settings}
use Rattle.machine_core.specs.Clock.{HasClock}
use Rattle.machine_core.specs.Machine.{fresh, node_at_start}
use Rattle.machine_core.specs.Sound.{AreInRange, IsNodeOf, IsUnderWay, IsSoundMachine}
use Rattle.machine_core.proofs.Starts.{few_in_range}

has : {X : Type 0} (x : X) (asked : Bool) → is_some (if asked then Some x else None) ≡ asked
has x true = refl
has x false = refl

module _ (image : Image) (s : Settings) where
  abbrev at_start : ℕ → NodeState
  at_start rank = node_at_start image s rank

  IsSoundNode-start : (rank : ℕ) → AreInRange s → rank < s.nodes → IsSoundNode (at_start rank)
  IsSoundNode-start rank range within = record {
    node = record {
      limited = range.limit;
      within = omega arith;
      has_ticks_left = λ _. range.ticks;
      has_stepped = λ stopped. absurd cc;
      is_fresh = λ _. refl;
    };
    hart = record {
      ranked = within;
      few = few_in_range s range;
      thirty_two = refl;
      x0 = refl;
      memory = rw (length-image_bytes image s.memory) range.memory;
      communication = IsCommunication-none _ _ s.large;
    };
  }

  ranks-start : (ranks : List ℕ) → map (λ n. n.hart.rank) (map at_start ranks) ≡ ranks
  ranks-start [] = refl
  ranks-start (rank ∷ ranks) = ap (λ (xs : List ℕ). rank ∷ xs) (ranks-start ranks)

  IsUnderWay-start : (from n : ℕ) → AllZip (IsUnderWay 0) (map at_start (range_with_len from n)) (replicate n 0)
  IsUnderWay-start from zero = tt
  IsUnderWay-start from (suc n) =
      (record { exchanged = omega arith; kept = omega arith; waited = λ waits. absurd cc }, IsUnderWay-start (from + 1) n)

  HasClock-start : (from n : ℕ) → AllZip (HasClock s.clock []) (map at_start (range_with_len from n)) (replicate n 0)
  HasClock-start from zero = tt
  HasClock-start from (suc n) = (refl, HasClock-start (from + 1) n)

  pub IsSoundMachine-fresh : (input : List ℕ) → AreInRange s → IsSoundMachine (fresh image input s)
  IsSoundMachine-fresh input range = record {
    settings = range;
    ranks = ranks-start (range_with_len 0 s.nodes);
    nodes = All-map (IsNodeOf s) at_start (range_with_len 0 s.nodes) (λ k d within.
        let long = length-range_with_len 0 s.nodes in
        let below : k < s.nodes = omega arith in
        let here = get_or-range_with_len 0 s.nodes k d below in
        record {
          nodes = refl;
          memory = length-image_bytes image s.memory;
          limit = refl;
          unit = has unit_at_start s.float;
          reservation = has Nothing s.atomic;
          limits = (refl, refl);
          sound = IsSoundNode-start (get_or (range_with_len 0 s.nodes) k d) range (omega arith);
        });
    ticks = IsUnderWay-start 0 s.nodes;
    clocks = λ _. HasClock-start 0 s.nodes;
    areas = (
      0,
      All-map (λ (n : NodeState). length n.hart.communication.registrations.in_effect ≡ 0) at_start (range_with_len 0 s.nodes)
          (λ k d within. refl),
    );
    outcome = λ over. absurd (false≢true over);
    ledger = refl;
  }
