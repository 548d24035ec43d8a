-- A memory's size is that of its table of pages, which has a flag for each.
use Rattle.node_memory.proofs.Shown.{most-shown, paged-shown}
use Rattle.node_memory.proofs.Table.{table}
use Rattle.node_memory.proofs.memory.Memory.recall_size.Goals as goal

pub returns-clause-most : goal.returns-clause-most
returns-clause-most g c = most-shown (table _ _ c.self.view_is c.self.invariant)

pub returns-clause-pages : goal.returns-clause-pages
returns-clause-pages g c = paged-shown (table _ _ c.self.view_is c.self.invariant)
