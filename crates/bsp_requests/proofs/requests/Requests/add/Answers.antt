-- A full node refuses the request as too much, and the sum of bytes stays counted; written out, to refuse a wrong body without a search.
use Rattle.std.proofs.Common.{rules}
use Rattle.bsp_requests.proofs.requests.Requests.add.Goals as goal

pub returns-then-is_full_for : goal.returns-then-is_full_for
returns-then-is_full_for g c = record { ok = tt; too_much = search rules; err = search rules }

pub invariant_of-self : goal.invariant_of-self
invariant_of-self g c = search rules
