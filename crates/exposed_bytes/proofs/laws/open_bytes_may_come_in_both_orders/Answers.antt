-- In one course every call reads as early and writes as late as it may; in the other the byte is written early and read late.
use Rattle.exposed_bytes.proofs.Courses.{open-is_both}
use Rattle.exposed_bytes.proofs.laws.open_bytes_may_come_in_both_orders.Goals as goal

pub returns : goal.returns
returns c = open-is_both
