-- The last block has the lines that were not written before it.
use Rattle.std.proofs.Common.{◌∙◌, ap, sym, [], ◌++◌, append-nil}
use Rattle.std.specs.List.{flat_map}
use Rattle.std.proofs.KnownBytes.{Appends-trans}
use Rattle.std.proofs.lemmas.Grind.{flat_map-append}
use Rattle.std.proofs.lemmas.Result.{err_from_is_err_and}
use Rattle.rv_listing.specs.Listing.{ended_line}
use Rattle.bsp_session.proofs.Outputs.{AppendsPrefix-behind, HasRisen-above}
use Rattle.bsp_session.proofs.listing.write_segment.Goals as goal

pub write_blocks-requires : goal.write_blocks-requires
write_blocks-requires g c = c.new-block.ensures.bytes

pub returns-in_err-write_blocks-clause-err : goal.returns-in_err-write_blocks-clause-err
returns-in_err-write_blocks-clause-err g c =
    let p = err_from_is_err_and c.from_residual.result c.from_residual.ensures.1 in
    rw (p.1, p.2) c.in_err-write_blocks.ensures.err

-- a prefix of the last block, after all before it
pub returns-in_err-write_whole-clause-err : goal.returns-in_err-write_whole-clause-err
returns-in_err-write_whole-clause-err g c =
    let p = err_from_is_err_and c.from_residual-in_err-write_whole.result c.from_residual-in_err-write_whole.ensures.1 in
    let (done, waiting, is, appended, block) = c.in_ok-write_blocks.ensures.ok in
    let whole = ap (flat_map (ended_line c.args.extensions)) is ∙ flat_map-append (ended_line c.args.extensions) done waiting
    ∙ ap (λ bs. flat_map (ended_line c.args.extensions) done ++ bs) (sym (append-nil (flat_map (ended_line c.args.extensions) waiting))) in
    rw (p.1, p.2) (
      AppendsPrefix-behind (flat_map (ended_line c.args.extensions) done) (flat_map (ended_line c.args.extensions) waiting) []
          _ _ _ _ whole appended
          (rw (c.as_bytes.ensures.value, block) at c.in_err-write_whole.ensures.err),
      HasRisen-above _ _ _ c.write_blocks.ensures.never_falls c.in_err-write_whole.ensures.fault,
    )

pub returns-clause-ok : goal.returns-clause-ok
returns-clause-ok g c =
    let (done, waiting, is, appended, block) = c.in_ok-write_blocks.ensures.ok in
    rw (ap (flat_map (ended_line c.args.extensions)) is ∙ flat_map-append (ended_line c.args.extensions) done waiting)
    (Appends-trans _ _ _ _ _ appended (rw (c.as_bytes.ensures.value, block) at c.in_ok-write_whole.ensures.ok))
