-- The node comes back after some steps of its own, with the word that says whether it runs, as the rule allows.
use Rattle.std.proofs.Common.{◌≡◌, ℕ, List, [], ◌∷◌, Some, arith, ap, ◌∙◌}
use Rattle.atomic_table.specs.Table.{rest}
use Rattle.node_core.specs.Node.{local_steps}
use Rattle.claim_table.specs.ClaimSteps.{ViewAndSlots, view_at_work, after_take}
use Rattle.claim_table.specs.Start.{start_of}
use Rattle.claim_table.proofs.Allowed.{can_return}
use Rattle.claim_table.proofs.worker.Worker.give.Goals as goal

pub store-requires : goal.store-requires
store-requires g c =
    let this = c.args.self.now in
    let node = c.args.node in
    let out = c.requires.out in
    let seat = c.exchange.new.seat in
    let me : seat.me ≡ (after_take c.args.rank out.0 view_at_work, (c.args.rank, Some node) ∷ []) =
    c.exchange.ensures.3 ∙ ap (λ (m : ViewAndSlots). (m.0, (c.args.rank, Some node) ∷ rest m.1)) out.1 in
    let later = out.2.1 ∙ ap (λ (i : List ℕ). local_steps i out.2.0 out.0) this.reads in (
      c.exchange.ensures.0 ∙ this.seated,
      omega (arith, this.sized.0, c.requires.within),
      can_return (start_of this.shared.now.key) this.shared.now.table_id.slots seat.id seat.me c.args.rank c.word_at_home-word.result
          out.2.0 node out.0 view_at_work [] (omega (arith, this.sized.1, c.requires.within)) later c.word_at_home-word.ensures me,
    )
