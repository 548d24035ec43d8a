-- A new page that copies a private one is shared; written out, so that a wrong body is refused without another search.
use Rattle.std.proofs.Common.{rules}
use Rattle.node_memory.proofs.page.Page.share.Goals as goal

pub returns-in_ok-new-in-Private-clause-shared : goal.returns-in_ok-new-in-Private-clause-shared
returns-in_ok-new-in-Private-clause-shared g c = search rules
