-- The bytes lie in one page, which is private.
use Rattle.std.proofs.Common.{length, take, ap, ◌∙◌, arith}
use Rattle.node_memory.proofs.Owned.{IsPrivate-at}
use Rattle.node_memory.proofs.Writes.{length-with_bytes}
use Rattle.node_memory.proofs.memory.Memory.write_first.Goals as goal

pub write_window-requires-clause-private : goal.write_window-requires-clause-private
write_window-requires-clause-private g c =
    IsPrivate-at c.args.self.now.private c.args.addr c.args.len c.args.addr c.requires.private (omega arith) (omega (arith, c.requires.some))

pub returns : goal.returns
returns g c =
    let written = c.write_window.ensures in
    record {
      within = written.within;
      bytes = written.bytes;
      same_private = written.same_private;
      same_size = ap length written.bytes ∙ length-with_bytes c.args.self.now.bytes c.args.addr (take c.args.len c.args.few.now) written.within;
    }
