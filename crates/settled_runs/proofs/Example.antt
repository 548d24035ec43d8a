-- The machine of the example.
use Rattle.std.proofs.Common.{◌≡◌, ℕ, ◌<◌, true, List, [], ◌∷◌, length, refl, sym, ap, subst, arith}
use Rattle.std.specs.Prelude.{Contains}
use Rattle.std.proofs.lemmas.Bool.{false≢true}
use Rattle.std.proofs.lemmas.List.{length-replicate}
use Rattle.std.proofs.lemmas.List.Elements.{All-cons, All-nil}
use Rattle.bsp_requests.specs.Message.{IsShort}
use Rattle.node_core.specs.Communication.{IsCommunication, IsWellAddressed, LiesIn}
use Rattle.node_core.specs.Hart.{IsHart}
use Rattle.node_core.specs.Node.{NodeState, IsNode}
use Rattle.bsp_exchange.specs.Landings.{Landing, landings, put_landing}
use Rattle.bsp_exchange.specs.Parts.{CanExchange}
use Rattle.contested_bytes.specs.Contested.{IsContested, MayLie}
use Rattle.contested_bytes.proofs.Inside.{may_lie}
use Rattle.machine_core.specs.Sound.{IsNodeOf, IsSoundMachine}
use Rattle.machine_core.specs.Turn.{makes_exchange, with_phases}
use Rattle.machine_core.proofs.Phases.{map-phase-stopped}
use Rattle.settled_runs.specs.Examples.{area, empty_memory, has_put, put, put_of, two_puts, waiting}
use Rattle.settled_runs.specs.Orders.{IsContestedNext, MayLieAfter}
use Rattle.settled_runs.proofs.Contested.{can_exchange_next, may_lie_after}

-- ---- it is sound

memory_size : length empty_memory ≡ 4096
unfolding empty_memory
memory_size = length-replicate {A = ℕ} 4096 0

communicates : (byte : ℕ) → IsCommunication 2 4096 (has_put byte)
communicates byte = record {
  registrations = record { in_effect_fits = omega arith; next_fits = omega arith; pushes_fit = omega arith; names_removals = tt };
  areas = All-cons (LiesIn 4096) area [] refl (All-nil (LiesIn 4096));
  next_areas = All-cons (LiesIn 4096) area [] refl (All-nil (LiesIn 4096));
  requests = record { requests = omega arith; bytes = omega arith };
  targets = All-cons (IsWellAddressed 2 1 4096) (put_of byte) [] (omega arith, omega arith) (All-nil (IsWellAddressed 2 1 4096));
  few = omega arith;
  short = All-nil IsShort;
  tag_size = omega arith;
  next_tag_size = omega arith;
}

is_hart : (rank byte : ℕ) → rank < 2 → IsHart (waiting rank byte).hart
is_hart rank byte ranked = record {
  ranked = ranked;
  few = omega arith;
  thirty_two = refl;
  x0 = refl;
  memory = rw memory_size refl;
  communication = rw memory_size (communicates byte);
}

is_node : (rank byte : ℕ) → IsNode (waiting rank byte)
is_node rank byte = record {
  limited = omega arith;
  within = omega arith;
  has_ticks_left = λ runs. absurd (false≢true runs);
  has_stepped = λ stands. omega arith;
  is_fresh = λ none. absurd (omega (arith, none));
}

is_node_of : (rank byte : ℕ) → rank < 2 → IsNodeOf two_puts.settings (waiting rank byte)
is_node_of rank byte ranked = record {
  nodes = refl;
  memory = memory_size;
  limit = refl;
  unit = refl;
  reservation = refl;
  limits = (refl, refl);
  sound = record { node = is_node rank byte; hart = is_hart rank byte ranked };
}

abbrev HasOneArea : NodeState → Type 0
HasOneArea n = length n.hart.communication.registrations.in_effect ≡ 1

pub is_sound : IsSoundMachine two_puts
is_sound = record {
  settings = record { some = omega arith; few = omega arith; memory = refl; small = omega arith; ticks = omega arith; limit = omega arith };
  ranks = refl;
  nodes =
      All-cons (IsNodeOf two_puts.settings) (waiting 0 4) (waiting 1 9 ∷ []) (is_node_of 0 4 (omega arith))
      (All-cons (IsNodeOf two_puts.settings) (waiting 1 9) [] (is_node_of 1 9 (omega arith)) (All-nil (IsNodeOf two_puts.settings)));
  ticks = (
    record { exchanged = omega arith; kept = omega arith; waited = λ waits. omega arith },
    (record { exchanged = omega arith; kept = omega arith; waited = λ waits. omega arith }, tt),
  );
  clocks = λ going. (refl, (refl, tt));
  areas = (1, All-cons HasOneArea (waiting 0 4) (waiting 1 9 ∷ []) refl (All-cons HasOneArea (waiting 1 9) [] refl (All-nil HasOneArea)));
  outcome = λ over. absurd (false≢true over);
  ledger = refl;
}

-- ---- and what its puts land is contested

phased : (with_phases two_puts).nodes ≡ two_puts.nodes
phased = map-phase-stopped [] two_puts.nodes refl

made : makes_exchange (with_phases two_puts).nodes ≡ true
made = ap makes_exchange phased

abbrev first : Landing
first = put_landing two_puts.nodes 0 0 (put 4)

abbrev second : Landing
second = put_landing two_puts.nodes 1 0 (put 9)

first_lands : Contains (landings two_puts.nodes) first
first_lands = (0, omega arith, refl)

second_lands : Contains (landings two_puts.nodes) second
second_lands = (1, omega arith, refl)

pub is_contested : IsContestedNext two_puts 1 16
is_contested = record {
  going = refl;
  made = made;
  bytes = subst (λ (nodes : List NodeState). IsContested (landings nodes) 1 16) (sym phased)
      (first, second, first_lands, second_lands, record { first = refl; second = refl; bytes = λ same. omega (arith, same) });
}

can : CanExchange two_puts.nodes
can = subst CanExchange phased (can_exchange_next two_puts is_sound made)

lies_after : (byte : ℕ) → MayLie two_puts.nodes 1 16 byte → MayLieAfter 1 two_puts 1 16 byte
lies_after byte lies =
    may_lie_after 0 two_puts two_puts 1 16 byte refl refl made
    (subst (λ (nodes : List NodeState). MayLie nodes 1 16 byte) (sym phased) lies)

pub one_lies : MayLieAfter 1 two_puts 1 16 4
one_lies = lies_after 4 (may_lie two_puts.nodes first 1 16 can first_lands refl)

pub other_lies : MayLieAfter 1 two_puts 1 16 9
other_lies = lies_after 9 (may_lie two_puts.nodes second 1 16 can second_lands refl)
