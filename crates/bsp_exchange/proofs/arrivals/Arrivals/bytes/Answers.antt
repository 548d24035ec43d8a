-- The bytes of small gets and of other gets add up to those of all gets, as do those of puts; so no sum overflows, and the last sum is
-- the result.
use Rattle.std.proofs.Common.{◌≡◌, ◌+◌, ◌++◌, List, length, sym, ap, ◌∙◌, arith}
use Rattle.std.proofs.lemmas.List.Sums.{sum_by-append}
use Rattle.bsp_exchange.specs.Arrivals.{Received}
use Rattle.bsp_exchange.specs.Parts.{Patch, bytes_in}
use Rattle.bsp_exchange.proofs.arrivals.Arrivals.bytes.Goals as goal

sum_of : (a b all : List Patch) → a ++ b ≡ all → bytes_in a + bytes_in b ≡ bytes_in all
sum_of a b all is = sym (sum_by-append (λ (p : Patch). length p.bytes) a b) ∙ ap bytes_in is

pub bytes-requires : goal.bytes-requires
bytes-requires g c =
    let part = c.self.inside in
    let gets = sum_of part.small_gets part.gets c.args.self.now.gets (ap (λ (r : Received). r.gets) c.self.view_is) in
    let puts = sum_of part.small_puts part.puts c.args.self.now.puts (ap (λ (r : Received). r.puts) c.self.view_is) in
    omega (arith, gets, puts, c.requires)

pub bytes-requires-2 : goal.bytes-requires-2
bytes-requires-2 g c =
    let part = c.self.inside in
    let gets = sum_of part.small_gets part.gets c.args.self.now.gets (ap (λ (r : Received). r.gets) c.self.view_is) in
    let puts = sum_of part.small_puts part.puts c.args.self.now.puts (ap (λ (r : Received). r.puts) c.self.view_is) in
    omega (arith, gets, puts, c.requires)

pub bytes-requires-3 : goal.bytes-requires-3
bytes-requires-3 g c =
    let part = c.self.inside in
    let gets = sum_of part.small_gets part.gets c.args.self.now.gets (ap (λ (r : Received). r.gets) c.self.view_is) in
    let puts = sum_of part.small_puts part.puts c.args.self.now.puts (ap (λ (r : Received). r.puts) c.self.view_is) in
    omega (arith, gets, puts, c.requires)

pub overflow_add-gets : goal.overflow_add-gets
overflow_add-gets g c =
    let part = c.self.inside in
    let gets = sum_of part.small_gets part.gets c.args.self.now.gets (ap (λ (r : Received). r.gets) c.self.view_is) in
    let puts = sum_of part.small_puts part.puts c.args.self.now.puts (ap (λ (r : Received). r.puts) c.self.view_is) in
    omega (arith, gets, puts, c.requires, c.bytes.ensures, c.len.ensures.value)

pub overflow_add-puts : goal.overflow_add-puts
overflow_add-puts g c =
    let part = c.self.inside in
    let gets = sum_of part.small_gets part.gets c.args.self.now.gets (ap (λ (r : Received). r.gets) c.self.view_is) in
    let puts = sum_of part.small_puts part.puts c.args.self.now.puts (ap (λ (r : Received). r.puts) c.self.view_is) in
    omega (arith, gets, puts, c.requires, c.bytes-2.ensures, c.bytes-3.ensures)

pub overflow_add-result : goal.overflow_add-result
overflow_add-result g c =
    let part = c.self.inside in
    let gets = sum_of part.small_gets part.gets c.args.self.now.gets (ap (λ (r : Received). r.gets) c.self.view_is) in
    let puts = sum_of part.small_puts part.puts c.args.self.now.puts (ap (λ (r : Received). r.puts) c.self.view_is) in
    omega (arith, gets, puts, c.requires, c.bytes.ensures, c.len.ensures.value, c.bytes-2.ensures, c.bytes-3.ensures)

pub returns : goal.returns
returns g c =
    let part = c.self.inside in
    let gets = sum_of part.small_gets part.gets c.args.self.now.gets (ap (λ (r : Received). r.gets) c.self.view_is) in
    let puts = sum_of part.small_puts part.puts c.args.self.now.puts (ap (λ (r : Received). r.puts) c.self.view_is) in
    omega (arith, gets, puts, c.requires, c.bytes.ensures, c.len.ensures.value, c.bytes-2.ensures, c.bytes-3.ensures)
