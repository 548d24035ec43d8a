-- The row of a rank.
use Rattle.std.proofs.Common.{◌≡◌, ℕ, ◌+◌, ◌-◌, ◌<◌, min, List, length, get_or, map, Some, option_map, sym, ap, ap₂, ◌∙◌, refl, arith}
use Rattle.std.specs.Prelude.{slice_get, slice_index, sum_by, zip}
use Rattle.std.specs.List.{range_with_len}
use Rattle.std.proofs.lemmas.List.{get_or-map}
use Rattle.std.proofs.lemmas.List.FromFn.{get_or-range_with_len}
use Rattle.std.proofs.lemmas.Option.{slice_get-map, slice_get_read}
use Rattle.std.proofs.lemmas.Slice.Zip.{AllZip-long, get_or-zip, length-zip}
use Rattle.node_core.specs.declared.state.State.{State}
use Rattle.node_core.specs.Node.{NodeState, PreparedNode}
use Rattle.bsp_exchange.specs.Exchange.{states}
use Rattle.machine_core.specs.Machine.{MachineState}
use Rattle.machine_core.specs.Sound.{IsSoundMachine, IsUnderWay}
use Rattle.machine_core.proofs.Sound.{length-nodes}
use Rattle.bsp_exchange.specs.Queues.{from_others}
use Rattle.bsp_profile.specs.Moves.{moves, moved, moved_in, moved_out, others, arrivals, row_of, rows}
use Rattle.bsp_profile.specs.Tally.{place, Tells}
use Rattle.bsp_profile.proofs.Others.{others_same}

pub length-started : (m : MachineState) → IsSoundMachine m → length m.started ≡ length m.nodes
length-started m sound = AllZip-long (IsUnderWay m.exchanges) m.nodes m.started sound.ticks

-- the node at a place of the row
pub node_at : (m : MachineState) (ps : List PreparedNode) (i : ℕ) (p : PreparedNode) → states ps ≡ m.nodes → i < length ps
    → p ≡ get_or ps i p → get_or m.nodes i p.node ≡ p.node
node_at m ps i p row within is =
    ap (λ (ns : List NodeState). get_or ns i p.node) (sym row)
    ∙ get_or-map (λ (q : PreparedNode). q.node) ps i p p.node within
    ∙ ap (λ (q : PreparedNode). q.node) (sym is)

-- has that place as its rank
pub rank_at : (m : MachineState) (i : ℕ) (n : NodeState) → IsSoundMachine m → i < length m.nodes → get_or m.nodes i n ≡ n → n.hart.rank ≡ i
rank_at m i n sound within is =
    let here : get_or (map (λ (x : NodeState). x.hart.rank) m.nodes) i 0 ≡ (get_or m.nodes i n).hart.rank =
    get_or-map (λ (x : NodeState). x.hart.rank) m.nodes i n 0 within in
    let there : get_or (range_with_len 0 m.settings.nodes) i 0 ≡ 0 + i =
    get_or-range_with_len 0 m.settings.nodes i 0 (omega (arith, length-nodes m sound)) in
    let ranks = ap (λ rs. get_or rs i 0) sound.ranks in
    let own = ap (λ (x : NodeState). x.hart.rank) is in
    omega (arith, here, there, ranks, own)

-- and its row, with the ticks at which it began, is the one at that place
pub row_there : (m : MachineState) (i : ℕ) (n : NodeState) (s : ℕ) → IsSoundMachine m → i < length m.nodes → get_or m.nodes i n ≡ n
    → get_or m.started i s ≡ s → slice_get (rows m) i ≡ Some (row_of m (n, s))
row_there m i n s sound within is began =
    let long = length-started m sound in
    let both : length (zip m.nodes m.started) ≡ min (length m.nodes) (length m.started) = length-zip m.nodes m.started in
    let here : get_or (zip m.nodes m.started) i (n, s) ≡ (get_or m.nodes i n, get_or m.started i s) =
    get_or-zip m.nodes m.started i (n, s) within (omega (arith, long)) in
    let pair : (n, s) ≡ get_or (zip m.nodes m.started) i (n, s) = sym (here ∙ ap₂ (λ (x : NodeState) (y : ℕ). (x, y)) is began) in
    slice_get-map (row_of m) (zip m.nodes m.started) i
    ∙ ap (option_map (row_of m))
    (slice_get_read (zip m.nodes m.started) (length (zip m.nodes m.started)) i (n, s) refl (omega (arith, both, long)) pair)

-- what the cells tell of a rank is what its row says
module _ (m : MachineState) (count : ℕ) (cells : List ℕ) (tells : Tells m.nodes count cells) (rank : ℕ) (within : rank < count) where
  pub sent_told : sum_by (λ to. slice_index cells (place count (rank + 1) to)) (others count rank)
      ≡ moved_out (length m.nodes) (moves m.nodes) rank
  sent_told =
      others_same (λ to. slice_index cells (place count (rank + 1) to)) (λ to. moved (moves m.nodes) rank to) count rank
      (λ to below. tells.bytes rank to within below)
      ∙ ap (λ n. moved_out n (moves m.nodes) rank) (sym tells.long)

  pub received_told : sum_by (λ from. slice_index cells (place count (from + 1) rank)) (others count rank)
      ≡ moved_in (length m.nodes) (moves m.nodes) rank
  received_told =
      others_same (λ from. slice_index cells (place count (from + 1) rank)) (λ from. moved (moves m.nodes) from rank) count rank
      (λ from below. tells.bytes from rank below within)
      ∙ ap (λ n. moved_in n (moves m.nodes) rank) (sym tells.long)

  pub row_is : (n : NodeState) (s superstep rank_of ticks sent received kept messages requests : ℕ) (state : State) → n.hart.rank ≡ rank
      → superstep ≡ m.exchanges → rank_of ≡ n.hart.rank → ticks ≡ n.ticks - s
      → sent ≡ sum_by (λ to. slice_index cells (place count (rank + 1) to)) (others count rank)
      → received ≡ sum_by (λ from. slice_index cells (place count (from + 1) rank)) (others count rank)
      → kept ≡ slice_index cells (place count (rank + 1) rank) → messages ≡ slice_index cells rank
      → requests ≡ length n.hart.communication.requests.requests → state ≡ n.state
      → row_of m (n, s) ≡ record {
        superstep = superstep;
        rank = rank_of;
        ticks = ticks;
        sent = sent;
        received = received;
        kept = kept;
        messages = messages;
        requests = requests;
        state = state;
      }
  row_is n s superstep rank_of ticks sent received kept messages requests state own e1 e2 e3 e4 e5 e6 e7 e8 e9 =
      let s1 : moved_out (length m.nodes) (moves m.nodes) n.hart.rank ≡ sent =
      ap (moved_out (length m.nodes) (moves m.nodes)) own ∙ sym sent_told ∙ sym e4 in
      let s2 : moved_in (length m.nodes) (moves m.nodes) n.hart.rank ≡ received =
      ap (moved_in (length m.nodes) (moves m.nodes)) own ∙ sym received_told ∙ sym e5 in
      let s3 : moved (moves m.nodes) n.hart.rank n.hart.rank ≡ kept =
      ap (λ r. moved (moves m.nodes) r r) own ∙ sym (tells.bytes rank rank within within) ∙ sym e6 in
      let s4 : length (from_others n.hart.rank (arrivals m.nodes n.hart.rank)) ≡ messages =
      ap (λ r. length (from_others r (arrivals m.nodes r))) own ∙ sym (tells.messages rank within) ∙ sym e7 in
      cc
