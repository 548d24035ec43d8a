-- The addresses within the memory, and then the one past it.
use Rattle.std.proofs.Common.{◌≡◌, ◌+◌, ◌<◌, ◌≤◌, ◌∙◌, ◌++◌, ◌^◌, List, ℕ, None}
use Rattle.std.proofs.Common.{Some, length, get_or, ap, sym, subst, arith, append_assoc, append-nil, string_bytes}
use Rattle.std.proofs.lemmas.List.{get_or_default}
use Rattle.step_counts.specs.Counts.{line_of, lines_below}
use Rattle.step_counts.specs.Table.{TableState, IsTable, told}
use Rattle.step_counts.proofs.Lines.{all-inside, all-outside, next_below, skip-first, told-at, told-below}
use Rattle.step_counts.proofs.table.Table.write_lines.Goals as goal

pub loop-address-init : goal.loop-address-init
loop-address-init g c =
    let t = c.args.self.now in
    let table : IsTable t = subst IsTable c.self.view_is c.self.invariant in
    let low : c.self.inside.low ≡ t.low = ap (λ (x : TableState). x.low) c.self.view_is in
    let first = string_bytes c.args.text.now in
    record {
      within = omega (arith, low, table.low);
      text =
          sym (append-nil first)
          ∙ ap (λ (ls : List ℕ). first ++ ls)
          (sym (skip-first c.args.superstep c.args.rank (told t) c.self.inside.low
          (λ address less. told-below t table address (omega (arith, less, low)))));
    }

pub loop-address-preserved : goal.loop-address-preserved
loop-address-preserved g c =
    let t = c.args.self.now in
    let table : IsTable t = subst IsTable c.self.view_is c.self.invariant in
    let high : c.self.inside.high ≡ t.high = ap (λ (x : TableState). x.high) c.self.view_is in
    let cells : c.self.inside.cells.items ≡ t.cells = ap (λ (x : TableState). x.cells) c.self.view_is in
    let address = c.loop-address.address in
    let n = c.index.result.now in
    let below : address < t.high = omega (arith, c.loop-address-test.true, high) in
    let inside : address < length t.cells = omega (arith, below, table.high) in
    let address_within : address + 1 ≤ t.memory = omega (arith, inside, table.within) in
    let is : n ≡ told t address =
    c.index.ensures ∙ ap (λ (cs : List ℕ). get_or cs address n) cells ∙ get_or_default t.cells address n 0 inside
    ∙ told-at t table address below in
    record {
      within = address_within;
      text =
          next_below c.args.superstep c.args.rank (told t) address n (string_bytes c.args.text.now) (string_bytes c.loop-address.text)
          (string_bytes c.write_count.new.text)
          is c.loop-address.invariant.text c.in_ok-write_count.ensures;
    }

pub returns-in_ok-write_count-2 : goal.returns-in_ok-write_count-2
returns-in_ok-write_count-2 g c =
    let t = c.args.self.now in
    let table : IsTable t = subst IsTable c.self.view_is c.self.invariant in
    let high : c.self.inside.high ≡ t.high = ap (λ (x : TableState). x.high) c.self.view_is in
    let from = c.loop-address.address in
    let there = c.in-Some.address in
    let is : t.outside ≡ Some there = sym (ap (λ (x : TableState). x.outside) c.self.view_is) ∙ c.in-Some.is in
    let past = table.outside there is in
    let first = string_bytes c.args.text.now in
    let line = line_of c.args.superstep c.args.rank there 1 in
    c.in_ok-write_count-2.ensures
    ∙ ap (λ (bs : List ℕ). bs ++ line) c.loop-address.invariant.text
    ∙ append_assoc first (lines_below from c.args.superstep c.args.rank (told t)) line
    ∙ ap (λ (ls : List ℕ). first ++ ls)
    (sym (all-outside t table c.args.superstep c.args.rank from (2 ^ 32) there is (omega (arith, c.loop-address-test.false, high))
    (omega (arith, c.loop-address.invariant.within, past.0)) past.1))

pub returns-in_default : goal.returns-in_default
returns-in_default g c =
    let t = c.args.self.now in
    let table : IsTable t = subst IsTable c.self.view_is c.self.invariant in
    let high : c.self.inside.high ≡ t.high = ap (λ (x : TableState). x.high) c.self.view_is in
    let none : t.outside ≡ None = sym (ap (λ (x : TableState). x.outside) c.self.view_is) ∙ c.in_default.is in
    c.loop-address.invariant.text
    ∙ ap (λ (ls : List ℕ). string_bytes c.args.text.now ++ ls)
    (sym (all-inside t table c.args.superstep c.args.rank c.loop-address.address (2 ^ 32) none
    (omega (arith, c.loop-address-test.false, high)) (omega (arith, c.loop-address.invariant.within, table.few))))
