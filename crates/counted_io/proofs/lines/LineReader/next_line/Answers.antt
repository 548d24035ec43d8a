-- The line feed that was found, or the end, ends the line.
use Rattle.std.proofs.Common.{refl, ◌⊎◌, ◌≡◌, ◌<◌, ◌≤◌, ◌+◌, ◌∙◌, Ok, nat_lt, ap, inl, inr, drop, length, subst, sym, true, arith}
use Rattle.std.proofs.lemmas.Bool.{ltb-true, lt-ltb}
use Rattle.std.proofs.lemmas.Result.{err_from_is_err_and, IfOk-from_err}
use Rattle.std.specs.Io.KnownBytes.{IsAtEnd}
use Rattle.std.specs.List.{slice_index, slice_range}
use Rattle.counted_io.specs.Lines.{HasFeed, IsFirstFeed, LineReaderState, ReadsOn}
use Rattle.counted_io.proofs.LineLemmas.{found-no_err, refused-no_ok, rises, LacksFeed-rest, feed_of_rest, gives_last, gives_line}
use Rattle.counted_io.proofs.lines.LineReader.next_line.Goals as goal
use Rattle.counted_io.proofs.lines.LineReader.next_line.Goals.{in-Some, in-None}

pub find_line_feed-requires-clause-given : goal.find_line_feed-requires-clause-given
find_line_feed-requires-clause-given g c = c.self.invariant.0

pub find_line_feed-requires-clause-limit : goal.find_line_feed-requires-clause-limit
find_line_feed-requires-clause-limit g c = c.self.invariant.1

pub returns-in_err-found-clause-line : goal.returns-in_err-found-clause-line
returns-in_err-found-clause-line g c = λ is. absurd (refused-no_ok _ _ c.from_residual.ensures.0 is)

pub returns-in_err-found-clause-end : goal.returns-in_err-found-clause-end
returns-in_err-found-clause-end g c = λ is. absurd (refused-no_ok _ _ c.from_residual.ensures.0 is)

pub returns-in_err-found-clause-ends : goal.returns-in_err-found-clause-ends
returns-in_err-found-clause-ends g c = λ ended. inl (sym (ap (λ s. s.ended) c.self.view_is) ∙ ended)

pub returns-in_err-found-clause-bytes : goal.returns-in_err-found-clause-bytes
returns-in_err-found-clause-bytes g c = IfOk-from_err _ _ c.from_residual.ensures.0

pub returns-in_err-found-clause-within : goal.returns-in_err-found-clause-within
returns-in_err-found-clause-within g c = rises _ _ _ c.self.invariant.0 c.find_line_feed.ensures.grows

pub returns-in_err-found-clause-most : goal.returns-in_err-found-clause-most
returns-in_err-found-clause-most g c = ap (λ s. s.most) c.self.view_is

pub returns-in_err-found-clause-limit : goal.returns-in_err-found-clause-limit
returns-in_err-found-clause-limit g c = c.find_line_feed.ensures.limit

pub returns-in_err-found-clause-never_falls : goal.returns-in_err-found-clause-never_falls
returns-in_err-found-clause-never_falls g c = c.find_line_feed.ensures.never_falls

pub returns-clause-most : goal.returns-clause-most
returns-clause-most g c = ap (λ s. s.most) c.self.view_is

pub returns-clause-limit : goal.returns-clause-limit
returns-clause-limit g c = c.find_line_feed.ensures.limit

pub returns-clause-never_falls : goal.returns-clause-never_falls
returns-clause-never_falls g c = c.find_line_feed.ensures.never_falls

pub returns-clause-bytes : goal.returns-clause-bytes
returns-clause-bytes g c =
    subst (λ read. ReadsOn (g.R.Read.remaining c.args.from.now.inner)
    (g.R.Read.remaining c.find_line_feed.new.from.inner) read c.find_line_feed.new.text.items)
    (ap (λ s. s.read) c.self.view_is) c.in_ok-found.ensures.bytes

pub returns-clause-too_long : goal.returns-clause-too_long
returns-clause-too_long g c = λ returned. absurd (found-no_err _ _ returned)

pub returns-clause-fault : goal.returns-clause-fault
returns-clause-fault g c = λ returned. absurd (found-no_err _ _ returned)

pub returns-clause-no_memory : goal.returns-clause-no_memory
returns-clause-no_memory g c = λ returned. absurd (found-no_err _ _ returned)

pub returns-in_err-found-clause-waiting : goal.returns-in_err-found-clause-waiting
returns-in_err-found-clause-waiting g c = λ feed.
    let (at, behind, within, is) = feed_of_rest _ _ (subst (λ s. HasFeed (drop s.given s.read)) (sym c.self.view_is) feed) in
    let denied = (c.in_err-found.ensures.waiting at behind within is).0 in
    absurd (cc)

pub returns-clause-line : goal.returns-clause-line
returns-clause-line g c = λ is_line.
    let given : c.args.self.now.given ≡ c.self.inside.given = ap (λ s. s.given) (sym c.self.view_is) in
    let text = c.find_line_feed.new.text.items in
    elim c.match-found.branch [
      | in-Some w ↦ inl (gives_line _ _ c.self.inside.given w.in-Some.at given (rw w.in-Some.is at c.in_ok-found.ensures.found)
          (ap (λ e. slice_range text c.self.inside.given e.0) w.end-is) (ap (λ e. e.1) w.end-is))
      | in-None w ↦
          let absent = rw w.in-None.is at c.in_ok-found.ensures.absent in
          let end : w.len.result ≡ length text = omega arith in
          let after : w.len-in-None.result ≡ length text = omega arith in
          let some : nat_lt c.self.inside.given c.match-found.end.1 ≡ true = cc in
          inr (
            gives_last _ _ c.self.inside.given given absent.0
                (ap (λ e. slice_range text c.self.inside.given e.0) w.end-is ∙ ap (slice_range text c.self.inside.given) end)
                (ap (λ e. e.1) w.end-is ∙ after) (ltb-true _ _ some),
            record {
              ended = ap (λ e. e.2) w.end-is;
              at_end =
                  subst (λ (s : LineReaderState). (s.ended ≡ true) ⊎ IsAtEnd (g.R.Read.remaining c.find_line_feed.new.from.inner))
                  c.self.view_is absent.1;
            },
          )
    ]

pub returns-clause-waiting : goal.returns-clause-waiting
returns-clause-waiting g c = λ feed.
    let (at, behind, within, is) = feed_of_rest _ _ (subst (λ s. HasFeed (drop s.given s.read)) (sym c.self.view_is) feed) in
    let unread = c.in_ok-found.ensures.waiting at behind within is in
    elim c.match-found.branch [
      | in-Some w ↦
          let first : IsFirstFeed c.find_line_feed.new.text.items c.self.inside.given w.in-Some.at =
          rw w.in-Some.is at c.in_ok-found.ensures.found in
          let begun : c.self.inside.given ≤ w.in-Some.at = first.from in
          let after : c.match-found.end.1 ≡ w.in-Some.at + 1 = ap (λ e. e.1) w.end-is in
          (ap Ok (lt-ltb _ _ (omega arith)), unread.1, unread.2 ∙ ap (λ s. s.read) c.self.view_is)
      | in-None w ↦
          let absent = rw w.in-None.is at c.in_ok-found.ensures.absent in
          absurd (absent.0 at behind (subst (λ t. at < length t) (sym unread.2) within) (ap (λ t. slice_index t at) unread.2 ∙ is))
    ]

pub returns-in_err-found-clause-over : goal.returns-in_err-found-clause-over
returns-in_err-found-clause-over g c = λ over.
    let ended : c.self.inside.ended ≡ true = ap (λ s. s.ended) c.self.view_is ∙ over in
    let still = c.in_err-found.ensures.over ended in
    (ended, still.0, still.1 ∙ ap (λ s. s.read) c.self.view_is)

pub returns-in_err-found-clause-err : goal.returns-in_err-found-clause-err
returns-in_err-found-clause-err g c =
    let exit = err_from_is_err_and c.from_residual.result c.from_residual.ensures.1 in
    rw exit.1 (ap (λ s. s.given) c.self.view_is, refl, LacksFeed-rest _ _ c.in_err-found.ensures.err)

pub returns-clause-over : goal.returns-clause-over
returns-clause-over g c = λ over.
    let ended : c.self.inside.ended ≡ true = ap (λ s. s.ended) c.self.view_is ∙ over in
    let still = c.in_ok-found.ensures.over ended in
    elim c.match-found.branch [
      | in-Some w ↦ (ap (λ e. e.2) w.end-is ∙ ended, still.0, still.1 ∙ ap (λ s. s.read) c.self.view_is)
      | in-None w ↦ (ap (λ e. e.2) w.end-is, still.0, still.1 ∙ ap (λ s. s.read) c.self.view_is)
    ]
