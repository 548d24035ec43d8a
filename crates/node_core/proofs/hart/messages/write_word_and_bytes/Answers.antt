-- Once all pages are private no write is refused, so an error comes before any byte has changed.
use Rattle.std.proofs.Common.{length}
use Rattle.node_memory.specs.Pages.{Owns}
use Rattle.node_memory.proofs.Owned.{Owns-kept}
use Rattle.node_core.proofs.Answered.{not_err}
use Rattle.node_core.proofs.hart.messages.write_word_and_bytes.Goals as goal

pub returns-clause-err : goal.returns-clause-err
returns-clause-err g c =
    let first = c.make_private.new.self.private in
    let both = c.make_private-2.new.self.private in
    let word : Owns both c.args.word_addr 4 =
    Owns-kept first both c.args.word_addr 4 c.make_private-2.ensures.more.keeps c.in_ok-make_private.ensures.owned in
    let bytes : Owns c.store32.new.self.private c.args.addr (length c.args.bytes.now) =
    rw (c.store32.ensures.same_private word) c.in_ok-make_private-2.ensures.owned in
    not_err c.write_range.result _ (c.write_range.ensures.sure bytes)
