-- There is room for the second elements, so to append them succeeds.
use Rattle.std.proofs.Common.{not, sym, ap, ◌∙◌}
use Rattle.std.proofs.lemmas.Bool.{false≢true}
use Rattle.worker_pool.proofs.landing.joined.Goals as goal

pub unreachable-requires : goal.unreachable-requires
unreachable-requires g c = false≢true (sym (c.is_err.ensures.negation ∙ ap not c.if-is_err.true) ∙ c.append.ensures.succeeds c.requires)

pub returns-clause-items : goal.returns-clause-items
returns-clause-items g c = rw (c.append.ensures.succeeds c.requires) at c.append.ensures.items

pub returns-clause-room : goal.returns-clause-room
returns-clause-room g c = c.append.ensures.capacity
