-- A step is noted if there is a request more after it.
use Rattle.std.proofs.Common.{◌∙◌, ◌++◌, ◌∷◌, [], true, false, ap, sym, append-nil}
use Rattle.std.specs.Prelude.{slice_get}
use Rattle.exposed_runs.specs.declared.note.Note.{Note}
use Rattle.exposed_runs.specs.Notes.{count, note_of}
use Rattle.exposed_runs.proofs.Noting.{absent, absent-notes, is-less, is-no-less, no-node, no-step, noted-node, one-step, present-notes}
use Rattle.exposed_runs.proofs.parts.note_step.Goals as goal

pub returns-in_default-clause-made : goal.returns-in_default-clause-made
returns-in_default-clause-made g c = (0, no-step c.args.machine.now c.args.rank)

pub returns-in_default-clause-ok : goal.returns-in_default-clause-ok
returns-in_default-clause-ok g c =
    let m = c.args.machine.now in
    absent m c.args.rank (no-node (slice_get m.nodes c.args.rank) (sym c.next_note.ensures ∙ c.in_default.is))

pub returns-in_default-clause-notes : goal.returns-in_default-clause-notes
returns-in_default-clause-notes g c =
    let m = c.args.machine.now in
    absent-notes m c.args.rank c.args.notes.now.items
    (no-node (slice_get m.nodes c.args.rank) (sym c.next_note.ensures ∙ c.in_default.is))

pub returns-in_err-apply-clause-made : goal.returns-in_err-apply-clause-made
returns-in_err-apply-clause-made g c = (0, c.in_err-apply.ensures.err ∙ no-step c.args.machine.now c.args.rank)

pub returns-in_err-push-clause-made : goal.returns-in_err-push-clause-made
returns-in_err-push-clause-made g c = (1, one-step c.args.machine.now c.apply.new.self c.args.rank c.in_ok-apply.ensures.ok)

pub returns-in_ok-push-clause-made : goal.returns-in_ok-push-clause-made
returns-in_ok-push-clause-made g c = (1, one-step c.args.machine.now c.apply.new.self c.args.rank c.in_ok-apply.ensures.ok)

pub returns-in_ok-push-clause-notes : goal.returns-in_ok-push-clause-notes
returns-in_ok-push-clause-notes g c =
    let m = c.args.machine.now in
    let at = noted-node (slice_get m.nodes c.args.rank) c.in-Some.note (sym c.next_note.ensures ∙ c.in-Some.is) in
    let n = at.0 in
    let less = is-less (count n) c.requests_of.result c.in-Some.note.issue (ap (λ (x : Note). x.issue) at.2) c.if-requests_of-note.true in
    c.in_ok-push.ensures.items
    ∙ ap (λ (x : Note). c.args.notes.now.items ++ x ∷ []) at.2
    ∙ ap (λ ns. c.args.notes.now.items ++ ns)
    (sym (present-notes m c.args.rank n c.apply.new.self c.requests_of.result true at.1 c.in_ok-apply.ensures.ok c.requests_of.ensures less))

pub returns-else-requests_of-note-clause-made : goal.returns-else-requests_of-note-clause-made
returns-else-requests_of-note-clause-made g c =
    (1, one-step c.args.machine.now c.apply.new.self c.args.rank c.in_ok-apply.ensures.ok)

pub returns-else-requests_of-note-clause-notes : goal.returns-else-requests_of-note-clause-notes
returns-else-requests_of-note-clause-notes g c =
    let m = c.args.machine.now in
    let at = noted-node (slice_get m.nodes c.args.rank) c.in-Some.note (sym c.next_note.ensures ∙ c.in-Some.is) in
    let n = at.0 in
    let less = is-no-less (count n) c.requests_of.result c.in-Some.note.issue (ap (λ (x : Note). x.issue) at.2) c.if-requests_of-note.false in
    sym (append-nil c.args.notes.now.items)
    ∙ ap (λ ns. c.args.notes.now.items ++ ns)
    (sym (present-notes m c.args.rank n c.apply.new.self c.requests_of.result false at.1 c.in_ok-apply.ensures.ok c.requests_of.ensures less))
