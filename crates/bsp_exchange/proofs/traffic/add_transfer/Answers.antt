-- Bytes that stay with a rank are added to what it keeps; others are added to what one rank sent and the other received.
use Rattle.bsp_exchange.specs.Loads.{no_load}
use Rattle.bsp_exchange.proofs.Loads.{kept_added, transfer_added}
use Rattle.bsp_exchange.proofs.traffic.add_transfer.Goals as goal

pub returns-then-from-to : goal.returns-then-from-to
returns-then-from-to c =
    kept_added c.args.loads.now (record { from = c.args.from; to = c.args.to; bytes = c.args.bytes; messages = c.args.messages }) no_load
    c.if-from-to.true

pub returns-else-from-to : goal.returns-else-from-to
returns-else-from-to c =
    transfer_added c.args.loads.now (record { from = c.args.from; to = c.args.to; bytes = c.args.bytes; messages = c.args.messages })
    no_load c.if-from-to.false
