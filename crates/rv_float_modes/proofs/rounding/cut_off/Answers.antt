-- The cut overflows nowhere, has a pattern below 2^64 - 1, and is the truncated pattern with its half and the rest.
use Rattle.std.proofs.Common.{◌/◌, ◌^◌, arith}
use Rattle.rv_float_modes.proofs.Cuts.{above_place, cut_is, few_dropped, kept_small, pattern_narrow}
use Rattle.rv_float_modes.proofs.rounding.cut_off.Goals as goal

pub overflow_sub-dropped : goal.overflow_sub-dropped
overflow_sub-dropped c =
    let a = above_place c.args.exact.digits c.args.exact.place c.args.shape.digits c.args.shape.lowest c.saturating_sub-dropped.result
    c.requires.wide.wide c.requires.wide.narrow c.requires.format.digits c.saturating_sub-dropped.ensures
    in
    omega (arith, a)

pub overflow_sub-dropped-2 : goal.overflow_sub-dropped-2
overflow_sub-dropped-2 c =
    let a = above_place c.args.exact.digits c.args.exact.place c.args.shape.digits c.args.shape.lowest c.saturating_sub-dropped.result
    c.requires.wide.wide c.requires.wide.narrow c.requires.format.digits c.saturating_sub-dropped.ensures
    in
    omega (arith, a)

pub overflow_cast-result-2 : goal.overflow_cast-result-2
overflow_cast-result-2 c =
    let a =
    kept_small c.args.exact.digits c.args.exact.place c.args.shape.digits c.args.shape.lowest c.saturating_sub-dropped.result
    c.min-below.result
    c.requires.wide.wide c.requires.wide.narrow c.requires.format.digits c.saturating_sub-dropped.ensures c.min-below.ensures
    in
    omega (arith, a)

pub overflow_add-result : goal.overflow_add-result
overflow_add-result c =
    let a =
    kept_small c.args.exact.digits c.args.exact.place c.args.shape.digits c.args.shape.lowest c.saturating_sub-dropped.result
    c.min-below.result
    c.requires.wide.wide c.requires.wide.narrow c.requires.format.digits c.saturating_sub-dropped.ensures c.min-below.ensures
    in
    let b = few_dropped c.args.exact.digits c.args.exact.place c.args.shape.digits c.args.shape.lowest c.saturating_sub-dropped.result
    c.requires.wide.wide c.requires.wide.narrow c.requires.low c.requires.format.lowest c.saturating_sub-dropped.ensures
    in
    let d =
    pattern_narrow c.saturating_sub-dropped.result c.args.shape.hidden (c.args.exact.digits / 2 ^ c.min-below.result / 2) b
    c.requires.format.hidden a in
    omega (arith, d)

pub returns-clause-narrow : goal.returns-clause-narrow
returns-clause-narrow c =
    let a =
    kept_small c.args.exact.digits c.args.exact.place c.args.shape.digits c.args.shape.lowest c.saturating_sub-dropped.result
    c.min-below.result
    c.requires.wide.wide c.requires.wide.narrow c.requires.format.digits c.saturating_sub-dropped.ensures c.min-below.ensures
    in
    let b = few_dropped c.args.exact.digits c.args.exact.place c.args.shape.digits c.args.shape.lowest c.saturating_sub-dropped.result
    c.requires.wide.wide c.requires.wide.narrow c.requires.low c.requires.format.lowest c.saturating_sub-dropped.ensures
    in
    pattern_narrow c.saturating_sub-dropped.result c.args.shape.hidden (c.args.exact.digits / 2 ^ c.min-below.result / 2) b
    c.requires.format.hidden a

pub returns-clause-cut : goal.returns-clause-cut
returns-clause-cut c f r s e =
    cut_is f r c.args.exact c.args.shape c.saturating_sub-dropped.result c.min-below.result c.has_rest.result s e c.requires.wide
    c.requires.format.digits
    c.saturating_sub-dropped.ensures c.min-below.ensures c.has_rest.ensures
