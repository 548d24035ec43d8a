-- The lines of a script, answered one after another: what holds between two of them, and what is known where they end.
use Rattle.std.proofs.Common.{◌≡◌, ◌∙◌, ℕ, ◌≤◌, ◌⊎◌, inl, inr, List, [], ◌∷◌}
use Rattle.std.proofs.Common.{◌++◌, take, Option, refl, sym, ap, subst, append-nil, append_assoc, arith}
use Rattle.std.specs.Io.KnownBytes.{Appends}
use Rattle.std.proofs.KnownBytes.{Appends-trans, Appends-nil}
use Rattle.counted_io.specs.Counted.{HasRisen}
use Rattle.counted_io.specs.Transfers.{AppendsPrefix}
use Rattle.bsp_debug.specs.Debugger.{DebuggerState}
use Rattle.debug_lines.specs.declared.line.Line.TheVariants.{Quit}
use Rattle.debug_lines.specs.Lines.{line_of}
use Rattle.bsp_session.specs.declared.errors.SessionError.{SessionError}
use Rattle.bsp_session.specs.declared.errors.SessionError.TheVariants.{WriteFault, NoMemory}
use Rattle.bsp_session.specs.Streams.{Stream}
use Rattle.bsp_console.specs.Talk.{Says, Talks, until_quit}
use Rattle.bsp_console.specs.Console.{WritesReplies}
use Rattle.bsp_console.specs.Script.{IsErrorOfReplies}
use Rattle.bsp_console.proofs.Scripts.{HasRisen-above, Talks-push, other-goes_on, quit-ends, take_while-quit, take_while-through}

-- some first lines of those asked were answered, and these are left
pub record IsAnswering (says : Says) (asked left : List (List ℕ)) (start now : DebuggerState)
    (out_before out_after : Option (List ℕ)) : Type 0 where
  pub done : List (List ℕ)
  pub text : List ℕ
  pub talks : Talks says done start text now
  pub are : asked ≡ done ++ until_quit left
  pub written : Appends out_before out_after text

pub answering-first : (says : Says) (lines : List (List ℕ)) (start : DebuggerState) (out : Option (List ℕ))
    → IsAnswering says (until_quit lines) lines start start out out
answering-first says lines start out = record { done = []; text = []; talks = (refl, refl); are = refl; written = Appends-nil out }

-- one more line is answered
pub answering-step : (says : Says) (asked left more : List (List ℕ)) (line : List ℕ) (start d next : DebuggerState)
    (ob oa on : Option (List ℕ)) (reply : List ℕ)
    → IsAnswering says asked left start d ob oa → left ≡ line ∷ more → (line_of line ≡ Quit → ⊥) → says line d reply next
    → Appends oa on reply → IsAnswering says asked more start next ob on
answering-step says asked left more line start d next ob oa on reply a is other answered appended = record {
  done = a.done ++ line ∷ [];
  text = a.text ++ reply;
  talks = Talks-push says a.done line start d next a.text reply a.talks answered;
  are = a.are ∙ ap (λ ls. a.done ++ ls) (next_is left more line is other) ∙ sym (append_assoc a.done (line ∷ []) (until_quit more));
  written = Appends-trans ob oa on a.text reply a.written appended;
} where
  next_is : (left more : List (List ℕ)) (line : List ℕ) → left ≡ line ∷ more → (line_of line ≡ Quit → ⊥)
      → until_quit left ≡ line ∷ until_quit more
  next_is left more line is other = ap until_quit is ∙ take_while-through (line ∷ []) more (other-goes_on line other, tt)

-- no line is left that is answered
answering-none : (says : Says) (asked left : List (List ℕ)) (start d : DebuggerState) (out : Stream)
    → IsAnswering says asked left start d out.before out.after → until_quit left ≡ [] → WritesReplies says asked start out
answering-none says asked left start d out a none = record {
  text = a.text;
  now = d;
  talks = subst (λ ls. Talks says ls start a.text d) (sym (a.are ∙ ap (λ ls. a.done ++ ls) none ∙ append-nil a.done)) a.talks;
  written = a.written;
}

-- the last line was answered
pub answering-end : (says : Says) (asked left : List (List ℕ)) (start d : DebuggerState) (out : Stream)
    → IsAnswering says asked left start d out.before out.after → left ≡ [] → WritesReplies says asked start out
answering-end says asked left start d out a none = answering-none says asked left start d out a (ap until_quit none)

-- the next line is `quit`
pub answering-quit : (says : Says) (asked left more : List (List ℕ)) (line : List ℕ) (start d : DebuggerState) (out : Stream)
    → IsAnswering says asked left start d out.before out.after → left ≡ line ∷ more → line_of line ≡ Quit
    → WritesReplies says asked start out
answering-quit says asked left more line start d out a is quits =
    answering-none says asked left start d out a (ap until_quit is ∙ take_while-quit line more (quit-ends line quits))

-- the next line was not answered: memory was refused, or its reply could not be written whole
pub answering-stops : (says : Says) (asked left more : List (List ℕ)) (line : List ℕ) (start d next : DebuggerState) (out : Stream)
    (held : Option (List ℕ)) (failures : ℕ)
    (e : SessionError) (asks : List ℕ → Type 0) → ((reply : List ℕ) → asks reply → says line d reply next)
    → IsAnswering says asked left start d out.before held → left ≡ line ∷ more → (line_of line ≡ Quit → ⊥)
    → out.failures_before ≤ failures
    → ((e ≡ NoMemory) × (out.after ≡ held))
    ⊎ ((e ≡ WriteFault) × HasRisen failures out.failures_after
    × (text : List ℕ) × asks text × AppendsPrefix held out.after text)
    → IsErrorOfReplies says asked start out e
answering-stops says asked left more line start d next out held failures e asks told a is other before why = cases why where
  are : asked ≡ a.done ++ line ∷ until_quit more
  are = a.are ∙ ap (λ ls. a.done ++ ls) (ap until_quit is ∙ take_while-through (line ∷ []) more (other-goes_on line other, tt))

  cases : ((e ≡ NoMemory) × (out.after ≡ held))
      ⊎ ((e ≡ WriteFault) × HasRisen failures out.failures_after
      × (text : List ℕ) × asks text × AppendsPrefix held out.after text) → IsErrorOfReplies says asked start out e
  cases (inl (cause, unwritten)) = rw cause (record {
    done = a.done;
    next = line;
    rest = until_quit more;
    are = are;
    written = record {
      text = a.text;
      now = d;
      talks = a.talks;
      written = subst (λ w. Appends out.before w a.text) (sym unwritten) a.written;
    };
  })
  cases (inr (cause, rose, text, answered, (count, short, appended))) = rw cause (
    record {
      done = a.done;
      next = line;
      rest = until_quit more;
      are = are;
      text = a.text;
      before = d;
      talks = a.talks;
      reply = text;
      after = next;
      answered = told text answered;
      count = count;
      within = omega arith;
      written = Appends-trans out.before held out.after a.text (take count text) a.written appended;
      failed = HasRisen-above _ failures _ before rose;
    },
    short,
  )
