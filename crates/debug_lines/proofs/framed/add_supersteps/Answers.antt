-- Each superstep adds its line.
use Rattle.std.proofs.Common.{◌≡◌, ℕ, ◌+◌, ◌<◌, false, List, ◌++◌, get_or, length, string_bytes, append_assoc, sym, ap, ◌∙◌}
use Rattle.std.specs.List.{flat_map, enumerate_from}
use Rattle.std.proofs.lemmas.List.{drop_more}
use Rattle.cost_ledger.specs.declared.CostRow.{CostRow}
use Rattle.cost_ledger.specs.declared.LedgerText.{LedgerText}
use Rattle.cost_ledger.specs.CostRow.{superstep_line}
use Rattle.debug_lines.specs.Framed.{superstep_lines_from}
use Rattle.debug_lines.proofs.framed.add_supersteps.Goals as goal

-- what is read where there is no row
abbrev no_row : CostRow
no_row = record { w = 0; h = 0; h_all = 0; messages = 0; turned = false }

more : (version : LedgerText) (rows : List CostRow) (k : ℕ) (before after whole : List ℕ) → k < length rows
    → after ≡ before ++ superstep_line version (k, get_or rows k no_row) → before ++ superstep_lines_from version k rows ≡ whole
    → after ++ superstep_lines_from version (k + 1) rows ≡ whole
more version rows k before after whole within written so_far =
    let line = superstep_line version (k, get_or rows k no_row) in
    let rest = superstep_lines_from version (k + 1) rows in
    ap (λ bs. bs ++ rest) written ∙ append_assoc before line rest
    ∙ ap (λ rs. before ++ flat_map (superstep_line version) (enumerate_from k rs)) (sym (drop_more rows k no_row within)) ∙ so_far

pub loop-number-preserved : goal.loop-number-preserved
loop-number-preserved g c =
    more c.args.version c.args.rows.now c.loop-number.number (string_bytes c.loop-number.text) (string_bytes c.add_superstep.new.text) _
    c.loop-number-test.true (c.in_ok-add_superstep.ensures {u = tt}) c.loop-number.invariant
