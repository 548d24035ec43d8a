-- Each pass adds the calls of one note more.
use Rattle.std.proofs.Common.{[], ◌∙◌, sym}
use Rattle.std.proofs.lemmas.List.{get_or_default}
use Rattle.bsp_exchange.specs.Exchange.{states}
use Rattle.exposed_runs.specs.Calls.{calls_noted}
use Rattle.exposed_runs.proofs.Turns.{all-pieces, next-piece}
use Rattle.exposed_runs.proofs.calls.calls.Goals as goal

pub loop-note-preserved : goal.loop-note-preserved
loop-note-preserved g c =
    let notes = c.args.notes.now in
    let i = c.loop-note.note-index in
    next-piece (calls_noted (states c.args.nodes.now)) notes i _ [] c.loop-note.all.items c.add_calls.new.all.items
    c.loop-note-test.true (λ d. get_or_default notes i _ d c.loop-note-test.true) c.loop-note.invariant c.in_ok-add_calls.ensures

pub returns : goal.returns
returns g c =
    all-pieces (calls_noted (states c.args.nodes.now)) c.args.notes.now c.loop-note.note-index [] c.loop-note.all.items
    c.loop-note-test.false c.loop-note.invariant
