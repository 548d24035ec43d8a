-- A rank is reserved, its node put in, and its word says whether the node runs: each step is one that the rule allows the keeper.
use Rattle.std.proofs.Common.{◌≡◌, ◌∷◌, Some, None, sym, ap, ◌∙◌, arith}
use mathlib.Core.Option.{some}
use Rattle.atomic_table.specs.Table.{rest}
use Rattle.node_core.specs.Node.{is_running}
use Rattle.claim_table.specs.Claims.{word_of}
use Rattle.claim_table.specs.Start.{start_of}
use Rattle.claim_table.proofs.Keeping.{reserve_allowed, return_allowed, reserved, put_in, returned, word_runs, word_stopped}
use Rattle.claim_table.proofs.keeper.fill.Goals.{then-is_running, else-is_running}
use Rattle.claim_table.proofs.keeper.fill.Goals as goal

pub compare_exchange_with-requires : goal.compare_exchange_with-requires
compare_exchange_with-requires g c = (
  c.requires.seated.0,
  omega (arith, c.requires.sized.0, c.requires.sized.1),
  reserve_allowed (start_of c.args.shared.now.key) c.args.shared.now.table_id.slots c.args.seat.now.id c.args.rank c.args.node
      c.args.seat.now.me c.requires.seated.1 c.requires.sized.0 c.requires.stepped,
)

pub exchange-requires : goal.exchange-requires
exchange-requires g c =
    let told = c.compare_exchange_with.ensures in
    let out =
    reserved c.args.shared.now.table_id.slots c.args.rank c.compare_exchange_with.result c.args.node c.args.seat.now.me
    c.compare_exchange_with.new.seat.me c.requires.seated.1 told.2 in
    (told.0 ∙ c.requires.seated.0, (None, ap (λ m. m.1) out ∙ ap (λ m. (c.args.rank, None) ∷ rest m.1) (sym out)))

pub store-requires : goal.store-requires
store-requires g c =
    let told = c.compare_exchange_with.ensures in
    let n = c.args.node in
    let out =
    reserved c.args.shared.now.table_id.slots c.args.rank c.compare_exchange_with.result n c.args.seat.now.me
    c.compare_exchange_with.new.seat.me c.requires.seated.1 told.2 in
    let full = put_in c.args.rank n c.compare_exchange_with.new.seat.me c.exchange.new.seat.me out c.exchange.ensures.3 in
    let runs : c.is_running.result ≡ is_running n.node.state = c.is_running.ensures ∙ ap is_running c.state.ensures in
    let word : c.if-is_running.word ≡ word_of (some (Some n)) = elim c.if-is_running.branch [
      | then-is_running w ↦ word_runs (is_running n.node.state) _ (sym runs ∙ w.if-is_running.true) w.word-is
      | else-is_running w ↦ word_stopped (is_running n.node.state) _ (sym runs ∙ w.if-is_running.false) w.word-is
    ] in (
      c.exchange.ensures.0 ∙ told.0 ∙ c.requires.seated.0,
      omega (arith, c.requires.sized.0, c.requires.sized.1),
      return_allowed (start_of c.args.shared.now.key) c.args.shared.now.table_id.slots c.exchange.new.seat.id c.args.rank
          c.if-is_running.word n c.exchange.new.seat.me full c.requires.sized.0 word,
    )

pub returns : goal.returns
returns g c =
    let told = c.compare_exchange_with.ensures in
    let n = c.args.node in
    let out =
    reserved c.args.shared.now.table_id.slots c.args.rank c.compare_exchange_with.result n c.args.seat.now.me
    c.compare_exchange_with.new.seat.me c.requires.seated.1 told.2 in
    let full = put_in c.args.rank n c.compare_exchange_with.new.seat.me c.exchange.new.seat.me out c.exchange.ensures.3 in
    record {
      seated = (
        c.store.ensures.0 ∙ c.exchange.ensures.0 ∙ told.0
            ∙ c.requires.seated.0,
        returned c.args.shared.now.table_id.slots c.args.rank c.if-is_running.word n c.exchange.new.seat.me
            c.store.new.seat.me full c.store.ensures.2,
      );
    }
