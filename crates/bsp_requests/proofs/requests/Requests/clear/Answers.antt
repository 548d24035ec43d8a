-- A node that was cleared has no requests and no output; written out, so that a wrong body is refused without another search.
use Rattle.std.proofs.Common.{rules}
use Rattle.bsp_requests.proofs.requests.Requests.clear.Goals as goal

pub returns : goal.returns
returns g c = search rules
