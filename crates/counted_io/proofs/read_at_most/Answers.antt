-- Where it ends early, it consumed what was read before, and the bytes of the last read.
use Rattle.std.proofs.Common.{◌≡◌, ℕ, ◌+◌, ◌-◌, ◌<◌, ◌≤◌, List, length, ◌++◌, take, refl, arith, rules, length-append}
use Rattle.std.proofs.KnownBytes.{Consumes-kept, Consumes-trans}
use Rattle.std.proofs.lemmas.List.{length-take-le}
use Rattle.std.proofs.lemmas.Result.{err_from_is_err_and}
use Rattle.counted_io.proofs.TransfersLemmas.{past_room}
use Rattle.counted_io.proofs.read_at_most.Goals as goal

pub returns-then-count-most-clause-err : goal.returns-then-count-most-clause-err
returns-then-count-most-clause-err g c =
    let read = c.loop-input.input.items in
    let past =
    past_room read c.read_retrying.new.chunk c.in_ok-count.count
    (c.args.most - c.len.result) c.in_ok-count.ensures.bound.0 c.if-count-most.true in (
      read ++ take c.in_ok-count.count c.read_retrying.new.chunk,
      omega (arith, past, c.len.ensures, c.loop-input.invariant.limit),
      Consumes-trans _ _ _ _ _ c.loop-input.invariant.consumed c.in_ok-count.ensures.bytes.0,
    )

pub returns-in_err-count-clause-err : goal.returns-in_err-count-clause-err
returns-in_err-count-clause-err g c =
    let returned = err_from_is_err_and c.from_residual.result c.from_residual.ensures.1 in
    rw (returned.1, returned.2, c.in_err-count.ensures.kind) (
      search rules,
      (c.loop-input.input.items, search rules, Consumes-kept _ _ _ _ c.loop-input.invariant.consumed c.in_err-count.ensures.bytes),
    )

-- the bytes of the last read were within the limit too
within : (read chunk : List ℕ) (count len most : ℕ) → count ≤ length chunk → 0 < count → len ≡ length read → len ≤ most → count ≤ most - len
    → (0 < length (read ++ take count chunk)) × (length (read ++ take count chunk) ≤ most)
within read chunk count len most got some is limited fits =
    let all : length (read ++ take count chunk) ≡ length read + count =
    rw (length-append read (take count chunk), length-take-le count chunk got) refl in
    (omega arith, omega arith)

pub returns-in_err-extend_from_slice-clause-err : goal.returns-in_err-extend_from_slice-clause-err
returns-in_err-extend_from_slice-clause-err g c =
    let exit = c.from_residual-in_err-extend_from_slice in
    let returned = err_from_is_err_and exit.result exit.ensures.1 in
    let w = within c.loop-input.input.items c.read_retrying.new.chunk c.in_ok-count.count (length c.loop-input.input.items) c.args.most
    c.in_ok-count.ensures.bound.0 (omega arith) refl (search rules) (search rules) in
    rw (returned.1, returned.2) (
      c.loop-input.input.items ++ take c.in_ok-count.count c.read_retrying.new.chunk,
      w.0,
      w.1,
      Consumes-trans _ _ _ _ _ c.loop-input.invariant.consumed c.in_ok-count.ensures.bytes.0,
    )
