-- Each pass appends the line of one range more, and after the last one the lines are those of all ranges.
use Rattle.std.proofs.Common.{string_bytes}
use Rattle.std.proofs.lemmas.List.{get_or_default}
use Rattle.exposed_runs.proofs.Turns.{all-ranges, next-range, no-ranges-yet}
use Rattle.exposed_runs.proofs.turn.write_exposures.Goals as goal

pub loop-range-init : goal.loop-range-init
loop-range-init g c = no-ranges-yet c.args.superstep (string_bytes c.args.text.now)

pub loop-range-preserved : goal.loop-range-preserved
loop-range-preserved g c =
    let found = c.args.found.now in
    let i = c.loop-range.range-index in
    next-range c.args.superstep found i _ (string_bytes c.args.text.now) (string_bytes c.loop-range.text)
    (string_bytes c.write_exposure.new.text)
    c.loop-range-test.true (λ d. get_or_default found i _ d c.loop-range-test.true) c.loop-range.invariant c.in_ok-write_exposure.ensures

pub returns : goal.returns
returns g c =
    all-ranges c.args.superstep c.args.found.now c.loop-range.range-index (string_bytes c.args.text.now) (string_bytes c.loop-range.text)
    c.loop-range-test.false c.loop-range.invariant
