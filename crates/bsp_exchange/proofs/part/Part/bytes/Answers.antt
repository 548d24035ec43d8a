-- The patches of a part are its gets and then its puts, so their bytes add up to those of both.
use Rattle.std.proofs.Common.{sym, ap, ◌∙◌}
use Rattle.std.proofs.lemmas.List.Sums.{sum_by-append}
use Rattle.std.specs.Prelude.{length}
use Rattle.bsp_exchange.specs.Parts.{Patch, PartState, bytes_in}
use Rattle.bsp_exchange.proofs.part.Part.bytes.Goals as goal

pub returns : goal.returns
returns g c =
    let arrived = c.self.inside.arrivals in
    c.bytes.ensures
    ∙ sym (sum_by-append (λ (p : Patch). length p.bytes) arrived.gets arrived.puts)
    ∙ ap (λ (part : PartState). bytes_in part.patches) c.self.view_is
