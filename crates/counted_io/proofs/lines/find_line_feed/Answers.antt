-- What was read was searched, and one byte more was lost where the limit was passed.
use Rattle.std.proofs.Common.{◌≡◌, ◌≤◌, ◌∙◌, inl, inr, refl, ap, subst, sym, Ok, Err, length}
use Rattle.std.proofs.lemmas.Bool.{false≢true}
use Rattle.std.proofs.KnownBytes.{Consumes-trans}
use Rattle.std.proofs.lemmas.Result.{err_from_is_err_and, IfOk-from_err}
use Rattle.counted_io.specs.declared.ReadError.TheVariants.{TooLong}
use Rattle.counted_io.specs.Lines.{LacksFeedWithin}
use Rattle.counted_io.proofs.LineLemmas.{LacksFeed-joined, found-no_err, rises}
use Rattle.counted_io.proofs.lines.find_line_feed.Goals as goal

pub returns-in-Some-clause-over : goal.returns-in-Some-clause-over
returns-in-Some-clause-over g c = c.loop-at.invariant.over

pub returns-in-Some-clause-bytes : goal.returns-in-Some-clause-bytes
returns-in-Some-clause-bytes g c = c.loop-at.invariant.bytes

pub returns-in-Some-clause-waiting : goal.returns-in-Some-clause-waiting
returns-in-Some-clause-waiting g c = λ at behind within is. let same = c.loop-at.invariant.untouched at behind within is in
    (refl, same.0, same.1)

pub returns-in-Some-clause-too_long : goal.returns-in-Some-clause-too_long
returns-in-Some-clause-too_long g c = λ returned. absurd (found-no_err _ _ returned)

pub returns-in-Some-clause-fault : goal.returns-in-Some-clause-fault
returns-in-Some-clause-fault g c = λ returned. absurd (found-no_err _ _ returned)

pub returns-in-Some-clause-no_memory : goal.returns-in-Some-clause-no_memory
returns-in-Some-clause-no_memory g c = λ returned. absurd (found-no_err _ _ returned)

pub returns-in-Some-clause-grows : goal.returns-in-Some-clause-grows
returns-in-Some-clause-grows g c = c.loop-at.invariant.grown

pub returns-in-Some-clause-limit : goal.returns-in-Some-clause-limit
returns-in-Some-clause-limit g c = c.loop-at.invariant.limit

pub returns-in-Some-clause-never_falls : goal.returns-in-Some-clause-never_falls
returns-in-Some-clause-never_falls g c = c.loop-at.invariant.failures

pub returns-then-ended-clause-absent : goal.returns-then-ended-clause-absent
returns-then-ended-clause-absent g c =
    let text = c.loop-at.text.items in
    let behind : LacksFeedWithin text c.loop-at.searched (length text) =
    subst (λ t. LacksFeedWithin t c.loop-at.searched (length t)) c.as_slice.ensures.value c.in_default.ensures.absent in
    (LacksFeed-joined text c.args.given c.loop-at.searched (length text) c.loop-at.invariant.absent behind, inl c.if-ended.true)

pub returns-then-ended-clause-over : goal.returns-then-ended-clause-over
returns-then-ended-clause-over g c = c.loop-at.invariant.over

pub returns-then-ended-clause-bytes : goal.returns-then-ended-clause-bytes
returns-then-ended-clause-bytes g c = c.loop-at.invariant.bytes

pub returns-then-ended-clause-waiting : goal.returns-then-ended-clause-waiting
returns-then-ended-clause-waiting g c = λ at behind within is. let same = c.loop-at.invariant.untouched at behind within is in
    (refl, same.0, same.1)

pub returns-then-ended-clause-too_long : goal.returns-then-ended-clause-too_long
returns-then-ended-clause-too_long g c = λ returned. absurd (found-no_err _ _ returned)

pub returns-then-ended-clause-fault : goal.returns-then-ended-clause-fault
returns-then-ended-clause-fault g c = λ returned. absurd (found-no_err _ _ returned)

pub returns-then-ended-clause-no_memory : goal.returns-then-ended-clause-no_memory
returns-then-ended-clause-no_memory g c = λ returned. absurd (found-no_err _ _ returned)

pub returns-then-ended-clause-grows : goal.returns-then-ended-clause-grows
returns-then-ended-clause-grows g c = c.loop-at.invariant.grown

pub returns-then-ended-clause-limit : goal.returns-then-ended-clause-limit
returns-then-ended-clause-limit g c = c.loop-at.invariant.limit

pub returns-then-ended-clause-never_falls : goal.returns-then-ended-clause-never_falls
returns-then-ended-clause-never_falls g c = c.loop-at.invariant.failures

pub read_more-requires : goal.read_more-requires
read_more-requires g c = c.loop-at.invariant.limit

pub returns-in_err-read_more-clause-over : goal.returns-in_err-read_more-clause-over
returns-in_err-read_more-clause-over g c = λ over. absurd (false≢true (sym c.if-ended.false ∙ over))

pub returns-in_err-read_more-clause-limit : goal.returns-in_err-read_more-clause-limit
returns-in_err-read_more-clause-limit g c = c.read_more.ensures.limit

pub returns-in_err-read_more-clause-never_falls : goal.returns-in_err-read_more-clause-never_falls
returns-in_err-read_more-clause-never_falls g c = rises _ _ _ c.loop-at.invariant.failures c.read_more.ensures.never_falls

pub returns-then-not-branch-clause-over : goal.returns-then-not-branch-clause-over
returns-then-not-branch-clause-over g c = λ over. absurd (false≢true (sym c.if-ended.false ∙ over))

pub returns-then-not-branch-clause-limit : goal.returns-then-not-branch-clause-limit
returns-then-not-branch-clause-limit g c = c.read_more.ensures.limit

pub returns-then-not-branch-clause-never_falls : goal.returns-then-not-branch-clause-never_falls
returns-then-not-branch-clause-never_falls g c = rises _ _ _ c.loop-at.invariant.failures c.read_more.ensures.never_falls

pub returns-then-not-branch-clause-too_long : goal.returns-then-not-branch-clause-too_long
returns-then-not-branch-clause-too_long g c = λ returned. absurd (found-no_err _ _ returned)

pub returns-then-not-branch-clause-fault : goal.returns-then-not-branch-clause-fault
returns-then-not-branch-clause-fault g c = λ returned. absurd (found-no_err _ _ returned)

pub returns-then-not-branch-clause-no_memory : goal.returns-then-not-branch-clause-no_memory
returns-then-not-branch-clause-no_memory g c = λ returned. absurd (found-no_err _ _ returned)

pub returns-in_err-read_more-clause-grows : goal.returns-in_err-read_more-clause-grows
returns-in_err-read_more-clause-grows g c =
    subst (λ t. length c.args.text.now.items ≤ length t) (sym c.in_err-read_more.ensures.err) c.loop-at.invariant.grown

pub returns-in_err-read_more-clause-found : goal.returns-in_err-read_more-clause-found
returns-in_err-read_more-clause-found g c = IfOk-from_err _ _ c.from_residual.ensures.0

pub returns-in_err-read_more-clause-absent : goal.returns-in_err-read_more-clause-absent
returns-in_err-read_more-clause-absent g c = IfOk-from_err _ _ c.from_residual.ensures.0

pub returns-in_err-read_more-clause-bytes : goal.returns-in_err-read_more-clause-bytes
returns-in_err-read_more-clause-bytes g c = IfOk-from_err _ _ c.from_residual.ensures.0

pub returns-then-not-branch-clause-absent : goal.returns-then-not-branch-clause-absent
returns-then-not-branch-clause-absent g c =
    let none = c.read_more.ensures.none (c.in_ok-read_more.was {u = tt} ∙ ap Ok c.if-not-branch.true) in
    let text = c.loop-at.text.items in
    let behind : LacksFeedWithin text c.loop-at.searched (length text) =
    subst (λ t. LacksFeedWithin t c.loop-at.searched (length t)) c.as_slice.ensures.value c.in_default.ensures.absent in
    let lacks = LacksFeed-joined text c.args.given c.loop-at.searched (length text) c.loop-at.invariant.absent behind in
    (subst (λ t. LacksFeedWithin t c.args.given (length t)) (sym none.0) lacks, inr none.1)

pub returns-then-not-branch-clause-grows : goal.returns-then-not-branch-clause-grows
returns-then-not-branch-clause-grows g c =
    let none = c.read_more.ensures.none (c.in_ok-read_more.was {u = tt} ∙ ap Ok c.if-not-branch.true) in
    subst (λ t. length c.args.text.now.items ≤ length t) (sym none.0) c.loop-at.invariant.grown

pub returns-in_err-read_more-clause-too_long : goal.returns-in_err-read_more-clause-too_long
returns-in_err-read_more-clause-too_long g c = λ returned.
    let is_from = err_from_is_err_and c.from_residual.result c.from_residual.ensures.1 in
    let refused : c.read_more.result ≡ Err TooLong = cc (is_from.1, is_from.2, c.in_err-read_more.was {u = tt}) in
    let (full, last) = c.read_more.ensures.too_long refused in
    let (bytes, consumed, grown) = c.loop-at.invariant.bytes in
    let kept : c.read_more.new.text.items ≡ c.loop-at.text.items = c.in_err-read_more.ensures.err in
    record {
      bytes = (bytes, last.0, Consumes-trans _ _ _ _ _ consumed last.1, kept ∙ grown);
      full = ap length kept ∙ full;
    }

pub returns-in_err-read_more-clause-err : goal.returns-in_err-read_more-clause-err
returns-in_err-read_more-clause-err g c =
    let exit = err_from_is_err_and c.from_residual.result c.from_residual.ensures.1 in
    let text = c.loop-at.text.items in
    let kept : c.read_more.new.text.items ≡ text = c.in_err-read_more.ensures.err in
    let behind : LacksFeedWithin text c.loop-at.searched (length text) =
    subst (λ t. LacksFeedWithin t c.loop-at.searched (length t)) c.as_slice.ensures.value c.in_default.ensures.absent in
    rw exit.1 (subst (λ t. LacksFeedWithin t c.args.given (length t)) (sym kept)
    (LacksFeed-joined text c.args.given c.loop-at.searched (length text) c.loop-at.invariant.absent behind))
