-- The pages that the bytes land in are private, and nothing else of the hart changes.
use Rattle.std.proofs.Common.{◌≡◌, ℕ, List, Bool, take, ap, ap₂, ◌∙◌}
use Rattle.node_memory.specs.Bytes.{with_bytes}
use Rattle.node_core.specs.Hart.{PreparedHart, with_memory}
use Rattle.node_core.specs.Inside.{hart_view}
use Rattle.node_core.proofs.hart.Hart.land_few.Goals as goal

pub write_few-requires : goal.write_few-requires
write_few-requires g c =
    let private : c.self.inside.memory.private ≡ c.args.self.now.private = ap (λ (h : PreparedHart). h.private) c.self.view_is in
    record { few = c.requires.few; private = rw private c.requires.private }

pub returns : goal.returns
returns g c =
    let there : List ℕ → List Bool → PreparedHart =
    λ bytes pages. record {
      hart = with_memory bytes (hart_view c.self.inside).hart;
      ready = c.self.inside.communication.slots.ready;
      private = pages;
    } in
    ap₂ there c.write_few.ensures.bytes c.write_few.ensures.same_private
    ∙ ap (λ (h : PreparedHart). record h { hart = with_memory (with_bytes h.hart.memory c.args.addr (take c.args.len c.args.few)) h.hart })
    c.self.view_is
