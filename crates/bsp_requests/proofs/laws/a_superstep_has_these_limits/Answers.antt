-- Each limit is one of two numbers.
use Rattle.bsp_requests.proofs.Limits.{most_requests, most_bytes}
use Rattle.bsp_requests.proofs.laws.a_superstep_has_these_limits.Goals as goal

pub returns-clause-requests : goal.returns-clause-requests
returns-clause-requests c = most_requests

pub returns-clause-bytes : goal.returns-clause-bytes
returns-clause-bytes c = most_bytes
