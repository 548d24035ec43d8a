-- Each exit tells what the one read did; memory was made for all that it may give, so appending that is never refused.
use Rattle.std.proofs.Common.{◌≡◌, ◌-◌, ◌<◌, ◌≤◌, ◌∙◌, Err, refl, ap, length, arith, rules}
use Rattle.std.proofs.lemmas.Result.{err_from_is_err_and}
use Rattle.counted_io.proofs.ReadMore.{at_fault, at_no_memory, at_ok, never_refused, some_room}
use Rattle.counted_io.proofs.lines.read_more.Goals as goal

pub returns-in_err-reserve : goal.returns-in_err-reserve
returns-in_err-reserve g c =
    let exit = err_from_is_err_and c.from_residual.result c.from_residual.ensures.1 in
    at_no_memory g.R.Read.remaining c.args.from.now c.args.from.now c.args.text.now.items c.reserve.new.self.items c.args.most
    c.from_residual.result (exit.1 ∙ ap Err exit.2) c.reserve.ensures.items refl c.requires

pub returns-in_err-count : goal.returns-in_err-count
returns-in_err-count g c =
    let exit = err_from_is_err_and c.from_residual-in_err-count.result c.from_residual-in_err-count.ensures.1 in
    at_fault g.R.Read.remaining c.args.from.now c.read_retrying.new.from c.args.text.now.items c.reserve.new.self.items c.args.most
    c.from_residual-in_err-count.result (exit.1 ∙ ap Err (exit.2 ∙ c.in_err-count.ensures.kind)) c.in_ok-reserve.ensures.items
    c.in_err-count.ensures.fault c.in_err-count.ensures.bytes c.in_err-count.ensures.never_falls c.requires

pub returns-in_err-extend_from_slice : goal.returns-in_err-extend_from_slice
returns-in_err-extend_from_slice g c =
    let size : length c.read_retrying.new.chunk ≡ c.clamp.result = search rules in
    absurd (never_refused c.args.most c.len.result c.min.result c.clamp.result c.in_ok-count.count c.read_retrying.new.chunk _ _ _
    c.in_ok-reserve.ensures.ok c.in_err-extend_from_slice.ensures.full c.min.ensures c.clamp.ensures c.in_ok-count.ensures.bound.0 size
    c.if-count-room.false)

pub returns : goal.returns
returns g c =
    let fits : c.in_ok-count.count ≤ c.args.most - length c.args.text.now.items = omega arith in
    let size : length c.read_retrying.new.chunk ≡ c.clamp.result = search rules in
    let any : 0 < length c.read_retrying.new.chunk =
    some_room c.args.most c.len.result c.clamp.result c.read_retrying.new.chunk c.clamp.ensures size in
    at_ok g.R.Read.remaining c.args.from.now c.read_retrying.new.from c.args.text.now.items c.extend_from_slice.new.self.items c.args.most
    c.in_ok-count.count c.read_retrying.new.chunk _ c.reserve.new.self.items c.in_ok-count.ensures.bound.0 any c.in_ok-count.ensures.bytes.0
    c.in_ok-count.ensures.bytes.1 c.in_ok-reserve.ensures.items c.in_ok-extend_from_slice.ensures.items c.requires
    fits c.in_ok-count.ensures.never_falls
