-- More cells, which tell the same.
use Rattle.std.proofs.Common.{◌≡◌, ◌-◌, ◌∙◌, vec_len, ap, sym, arith}
use Rattle.std.specs.Prelude.{is_ok, slice_index}
use Rattle.step_counts.specs.Table.{TableState}
use Rattle.step_counts.proofs.Tables.{still-table, still-told}
use Rattle.step_counts.proofs.table.Table.reach.Goals as goal

pub invariant_of-self : goal.invariant_of-self
invariant_of-self g c =
    let t : TableState = record {
      memory = c.self.inside.memory;
      cells = c.self.inside.cells.items;
      low = c.self.inside.low;
      high = c.self.inside.high;
      outside = c.self.inside.outside;
    } in
    let end = c.min-end.result in
    let memory : c.args.self.now.memory ≡ c.self.inside.memory = sym (ap (λ (x : TableState). x.memory) c.self.view_is) in
    still-table t c.self.invariant end (end - vec_len c.self.inside.cells)
    (omega (arith, c.if-at-len.true, c.len.ensures, c.min-end.ensures)) (is_ok c.resize.result) c.resize.new.self.items
    (omega (arith, c.requires, memory, c.if-at-len.true, c.len.ensures)) c.resize.ensures.items

pub returns-in_ok-resize-clause-cells : goal.returns-in_ok-resize-clause-cells
returns-in_ok-resize-clause-cells g c k =
    let end = c.min-end.result in
    let t : TableState = record {
      memory = c.self.inside.memory;
      cells = c.self.inside.cells.items;
      low = c.self.inside.low;
      high = c.self.inside.high;
      outside = c.self.inside.outside;
    } in
    still-told t c.self.invariant end (end - vec_len c.self.inside.cells)
    (omega (arith, c.if-at-len.true, c.len.ensures, c.min-end.ensures)) (is_ok c.resize.result) c.resize.new.self.items
    c.resize.ensures.items k
    ∙ ap (λ (x : TableState). slice_index x.cells k) c.self.view_is
