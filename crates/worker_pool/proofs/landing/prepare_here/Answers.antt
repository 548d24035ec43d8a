-- Nodes and parts are as they were, and where none was refused, each part can land in its node.
use Rattle.std.proofs.Common.{refl, sym, ap, ◌∙◌, arith}
use Rattle.std.proofs.lemmas.List.{with_items_is}
use Rattle.bsp_exchange.specs.Exchange.{states}
use Rattle.worker_pool.proofs.Landings.{on_ok_where}
use Rattle.worker_pool.proofs.landing.prepare_here.Goals as goal

pub returns-clause-done : goal.returns-clause-done
returns-clause-done g c =
    let row = with_items_is c.args.share.nodes c.prepare_all.new.nodes (omega arith) in (
      refl,
      ap states row ∙ c.prepare_all.ensures.same ∙ ap states c.deref_mut.ensures.value,
      λ complete.
          let can =
          rw c.deref.ensures.value at
          (on_ok_where c.prepare_all.result (sym c.is_ok-complete.ensures.value ∙ complete) c.prepare_all.ensures.ok) in
          rw row can,
    )

pub prepare_all-requires : goal.prepare_all-requires
prepare_all-requires g c = rw (c.deref.ensures.value, c.deref_mut.ensures.value) c.requires
