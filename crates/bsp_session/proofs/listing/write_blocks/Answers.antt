-- Each line goes from those that are left to the block, and a whole block to what is written.
use Rattle.std.proofs.Common.{◌≡◌, ◌<◌, Bool, ◌∙◌, ap, sym, List, [], ◌∷◌}
use Rattle.std.proofs.Common.{◌++◌, ℕ, length, string_bytes, append_assoc, append-nil, arith, length-append}
use Rattle.std.specs.List.{flat_map}
use Rattle.std.proofs.KnownBytes.{Appends-trans, Appends-nil}
use Rattle.std.proofs.lemmas.Grind.{flat_map-append}
use Rattle.std.proofs.lemmas.Result.{err_from_is_err_and}
use Rattle.rv_atomics.specs.declared.extensions.Extensions.{Extensions}
use Rattle.rv_listing.specs.declared.lines.Line.{Line}
use Rattle.rv_listing.specs.Listing.{ended_line}
use Rattle.bsp_session.specs.Conversion.{lines_of_segment}
use Rattle.bsp_session.proofs.Conversions.{texts-parted}
use Rattle.bsp_session.proofs.Outputs.{AppendsPrefix-behind, HasRisen-above}
use Rattle.bsp_session.proofs.listing.write_blocks.Goals as goal

-- a line goes from what is left to what waits
moved : (all done waiting : List Line) (line : Line) (left next : List Line)
    → all ≡ done ++ (waiting ++ left) → left ≡ line ∷ next → all ≡ done ++ ((waiting ++ line ∷ []) ++ next)
moved all done waiting line left next is begins =
    is ∙ ap (λ ls. done ++ ls) (ap (λ ls. waiting ++ ls) begins ∙ sym (append_assoc waiting (line ∷ []) next))

-- its text goes to the end of the block
grown : (extensions : Extensions) (waiting : List Line) (line : Line) (block new : List ℕ)
    → block ≡ flat_map (ended_line extensions) waiting
    → new ≡ block ++ ended_line extensions line
    → new ≡ flat_map (ended_line extensions) (waiting ++ line ∷ [])
grown extensions waiting line block new is more =
    more ∙ ap (λ bs. bs ++ ended_line extensions line) is
    ∙ ap (λ bs. flat_map (ended_line extensions) waiting ++ bs) (sym (append-nil (ended_line extensions line)))
    ∙ sym (flat_map-append (ended_line extensions) waiting (line ∷ []))

-- some line is left
some_left : (waiting : List Line) (line : Line) (left next : List Line) → left ≡ line ∷ next → 0 < length (waiting ++ left)
some_left waiting line left next begins = rw begins (omega (arith, length-append waiting (line ∷ next)))

pub loop-line-init : goal.loop-line-init
loop-line-init g c = record {
  written = ([], [], cc, Appends-nil _, c.requires);
  rises = omega arith;
}

pub returns-in_err-writeln-clause-err : goal.returns-in_err-writeln-clause-err
returns-in_err-writeln-clause-err g c =
    let p = err_from_is_err_and c.from_residual.result c.from_residual.ensures.1 in
    let (done, waiting, is, appended, block) = c.loop-line.invariant.written in
    rw (p.1, p.2) (record {
      first = done;
      rest = waiting ++ c.loop-line.line-iterator;
      split = is;
      some_left = some_left waiting c.in-Some.line _ _ c.in-Some.ensures.steps;
      written = appended;
    })

pub returns-in_err-write_whole-clause-err : goal.returns-in_err-write_whole-clause-err
returns-in_err-write_whole-clause-err g c =
    let p = err_from_is_err_and c.from_residual-in_err-write_whole.result c.from_residual-in_err-write_whole.ensures.1 in
    let (done, waiting, is, appended, block) = c.loop-line.invariant.written in
    let more = waiting ++ c.in-Some.line ∷ [] in
    let whole = texts-parted c.args.extensions (lines_of_segment c.args.segment.now) done more c.next.new.self
    (moved _ done waiting c.in-Some.line c.loop-line.line-iterator c.next.new.self is c.in-Some.ensures.steps) in
    rw (p.1, p.2) (
      AppendsPrefix-behind (flat_map (ended_line c.args.extensions) done) (flat_map (ended_line c.args.extensions) more)
          (flat_map (ended_line c.args.extensions) c.next.new.self) _ _ _ _ whole appended
          (rw (
            c.as_bytes.ensures.value,
            grown c.args.extensions waiting c.in-Some.line (string_bytes c.loop-line.block)
                (string_bytes c.writeln.new.self) block c.in_ok-writeln.ensures.bytes,
          )
          at c.in_err-write_whole.ensures.err),
      HasRisen-above _ _ _ c.loop-line.invariant.rises c.in_err-write_whole.ensures.fault,
    )

pub loop-line-preserved-then-len-ge-BLOCK : goal.loop-line-preserved-then-len-ge-BLOCK
loop-line-preserved-then-len-ge-BLOCK g c =
    let (done, waiting, is, appended, block) = c.loop-line.invariant.written in
    let more = waiting ++ c.in-Some.line ∷ [] in
    let text = grown c.args.extensions waiting c.in-Some.line (string_bytes c.loop-line.block) (string_bytes c.writeln.new.self) block
    c.in_ok-writeln.ensures.bytes in
    record {
      written = (
        done ++ more,
        [],
        moved _ done waiting c.in-Some.line c.loop-line.line-iterator c.next.new.self is c.in-Some.ensures.steps
            ∙ sym (append_assoc done more c.next.new.self),
        rw (flat_map-append (ended_line c.args.extensions) done more)
            (Appends-trans _ _ _ _ _ appended (rw (c.as_bytes.ensures.value, text) at c.in_ok-write_whole.ensures.ok)),
        c.clear.ensures.bytes,
      );
      rises = omega arith;
    }

pub loop-line-preserved : goal.loop-line-preserved
loop-line-preserved g c =
    let (done, waiting, is, appended, block) = c.loop-line.invariant.written in
    record {
      written = (
        done,
        waiting ++ c.in-Some.line ∷ [],
        moved _ done waiting c.in-Some.line c.loop-line.line-iterator c.next.new.self is c.in-Some.ensures.steps,
        appended,
        grown c.args.extensions waiting c.in-Some.line (string_bytes c.loop-line.block) (string_bytes c.writeln.new.self) block
            c.in_ok-writeln.ensures.bytes,
      );
      rises = c.loop-line.invariant.rises;
    }

pub returns-clause-ok : goal.returns-clause-ok
returns-clause-ok g c =
    let (done, waiting, is, appended, block) = c.loop-line.invariant.written in (
      done,
      waiting,
      is ∙ ap (λ ls. done ++ (waiting ++ ls)) c.in-None.ensures.steps.0 ∙ ap (λ ls. done ++ ls) (append-nil waiting),
      appended,
      block,
    )
