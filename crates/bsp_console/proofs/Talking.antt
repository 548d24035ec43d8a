-- A dialogue: what holds between two lines, and what is known where it ends.
use Rattle.std.proofs.Common.{◌≡◌, ℕ, ◌+◌, ◌-◌, ◌<◌, ◌≤◌, ◌⊎◌, inl, inr, true, false, List, [], ◌∷◌, ◌++◌, length, take, drop, get_or}
use Rattle.std.proofs.Common.{Option, Some, None, refl, sym, ap, subst, ◌∙◌, arith, append-nil, append_assoc, length-append, length-drop}
use Rattle.std.proofs.Common.{take-append-drop}
use Rattle.std.proofs.lemmas.List.{take-append-le, take_at, length-take-le, get_or_at, get_or-take}
use Rattle.std.specs.Io.KnownBytes.{Appends, Consumes, IsAtEnd}
use Rattle.std.proofs.KnownBytes.{Appends-trans, Appends-nil, Consumes-nil, Consumes-trans}
use Rattle.counted_io.specs.Counted.{HasRisen}
use Rattle.counted_io.specs.declared.ReadError.{ReadError}
use Rattle.counted_io.specs.declared.ReadError.TheVariants as read
use Rattle.counted_io.specs.Lines.{LineReaderState, GivesLine, GivesLast, GivesNone, LacksFeed, ReadsOn, IsOver, PassesLimit}
use Rattle.bsp_session.specs.Outcome.{error_of_read}
use Rattle.bsp_debug.specs.Debugger.{DebuggerState}
use Rattle.debug_lines.specs.declared.line.Line.TheVariants.{Quit}
use Rattle.debug_lines.specs.Lines.{line_of}
use Rattle.bsp_session.specs.declared.errors.SessionError.{SessionError}
use Rattle.bsp_session.specs.declared.errors.SessionError.TheVariants.{WriteFault, NoMemory}
use Rattle.bsp_session.specs.Streams.{Stream}
use Rattle.bsp_console.specs.Talk.{Says, Talks, answered_one_by_one, given_lines, lines_of, until_quit, HasQuit}
use Rattle.bsp_console.specs.Console.{most_script, WritesReplies}
use Rattle.bsp_console.specs.Dialogue.{AreWholeLines, EndsAtLine, HasTalked, IsErrorOfTalk, IsUnreadable, PassesScript, ReadsLines}
use Rattle.bsp_console.proofs.Scripts.{AllGoOn, AllGoOn-push, LacksQuit-all, Talks-push, HasRisen-above, given-all, given-cut, given-on}
use Rattle.bsp_console.proofs.Scripts.{init-append, lines_of-line, lines_of-last, take_while-through, take_while-quit, length-lines_of}
use Rattle.bsp_console.proofs.Scripts.{quit-ends, quit-some, other-goes_on}

-- the bytes that were given are lines of the script, whatever comes behind them
abbrev pub HasCutOff : List (List ℕ) → LineReaderState → Type 0
HasCutOff asked lines = (rest : List ℕ) → lines_of (take lines.given lines.read ++ rest) ≡ asked ++ lines_of rest

-- the whole script was given
pub record HasCutAll (asked : List (List ℕ)) (lines : LineReaderState) : Type 0 where
  pub ended : lines.ended ≡ true
  pub all : lines.given ≡ length lines.read
  pub is : given_lines lines.read ≡ asked

pub record IsTalking (says : Says) (start : DebuggerState) (rest_before rest_after out_before out_after : Option (List ℕ))
    (lines : LineReaderState) (now : DebuggerState) : Type 0 where
  pub asked : List (List ℕ)
  pub text : List ℕ
  pub talks : Talks says asked start text now
  pub go_on : AllGoOn asked
  pub written : Appends out_before out_after text
  pub consumed : Consumes rest_before rest_after lines.read
  pub most : lines.most ≡ most_script
  pub limit : length lines.read ≤ most_script
  pub within : lines.given ≤ length lines.read
  pub over : lines.ended ≡ true → IsAtEnd rest_after
  pub cut : HasCutOff asked lines ⊎ HasCutAll asked lines

-- at first nothing was read
pub is_talking-first : (says : Says) (start : DebuggerState) (rest out : Option (List ℕ))
    → IsTalking says start rest rest out out (record { read = []; given = 0; line = []; most = most_script; ended = false }) start
is_talking-first says start rest out = record {
  asked = [];
  text = [];
  talks = (refl, refl);
  go_on = tt;
  written = Appends-nil out;
  consumed = Consumes-nil rest;
  most = refl;
  limit = omega arith;
  within = omega arith;
  over = λ e. cc;
  cut = inl (λ more. refl);
}

-- what is not given yet, after a read
waiting : (old new : LineReaderState) (bytes : List ℕ) → new.read ≡ old.read ++ bytes → old.given ≤ length old.read
    → new.read ≡ take old.given old.read ++ drop old.given new.read
waiting old new bytes grown within =
    sym (take-append-drop old.given new.read)
    ∙ ap (λ t. t ++ drop old.given new.read) (ap (take old.given) grown ∙ take-append-le old.given old.read bytes within)

-- the text of a script whose reader goes on reads as its lines that were given and those of what waits
pub lines_of-waiting : (asked : List (List ℕ)) (old new : LineReaderState) (bytes : List ℕ) → new.read ≡ old.read ++ bytes
    → old.given ≤ length old.read
    → HasCutOff asked old → lines_of new.read ≡ asked ++ lines_of (drop old.given new.read)
lines_of-waiting asked old new bytes grown within cut = ap lines_of (waiting old new bytes grown within) ∙ cut (drop old.given new.read)

-- one more line, which a line feed ended
pub HasCutOff-line : (asked : List (List ℕ)) (old new : LineReaderState) (bytes : List ℕ) → new.read ≡ old.read ++ bytes
    → old.given ≤ length old.read
    → HasCutOff asked old → GivesLine old new → HasCutOff (asked ++ new.line ∷ []) new
HasCutOff-line asked old new bytes grown within cut gives = λ rest.
    let done = take old.given old.read in
    let all : new.read ≡ done ++ (new.line ++ 10 ∷ gives.first.0) =
    waiting old new bytes grown within ∙ ap (λ t. done ++ t) gives.first.1 in
    let size : length done ≡ old.given = length-take-le old.given old.read within in
    let cuts : new.read ≡ (done ++ (new.line ++ 10 ∷ [])) ++ gives.first.0 =
    all ∙ ap (λ t. done ++ t) (sym (append_assoc new.line (10 ∷ []) gives.first.0))
    ∙ sym (append_assoc done (new.line ++ 10 ∷ []) gives.first.0) in
    let front : take new.given new.read ≡ done ++ (new.line ++ 10 ∷ []) =
    ap (take new.given) cuts ∙ take_at (done ++ (new.line ++ 10 ∷ [])) gives.first.0 new.given
    (omega (arith, gives.given, size, length-append done (new.line ++ 10 ∷ []), length-append new.line (10 ∷ []))) in
    ap (λ t. lines_of (t ++ rest)) front
    ∙ ap lines_of (append_assoc done (new.line ++ 10 ∷ []) rest ∙ ap (λ t. done ++ t) (append_assoc new.line (10 ∷ []) rest))
    ∙ cut (new.line ++ 10 ∷ rest)
    ∙ ap (λ t. asked ++ t) (lines_of-line new.line rest gives.one_line)
    ∙ sym (append_assoc asked (new.line ∷ []) (lines_of rest))

-- the last line, which no line feed ended
pub HasCutAll-last : (asked : List (List ℕ)) (old new : LineReaderState) (bytes : List ℕ) → new.read ≡ old.read ++ bytes
    → old.given ≤ length old.read
    → HasCutOff asked old → GivesLast old new → new.ended ≡ true → HasCutAll (asked ++ new.line ∷ []) new
HasCutAll-last asked old new bytes grown within cut gives ended = record {
  ended = ended;
  all = gives.given;
  is =
      given-all new.read asked new.line gives.some
      (lines_of-waiting asked old new bytes grown within cut ∙ ap (λ t. asked ++ lines_of t) (sym gives.last)
      ∙ ap (λ t. asked ++ t) (lines_of-last new.line gives.one_line));
}

-- ---- between two lines

-- a line was given: what was given before was cut off, and the whole script was not
pub cut-before : (asked : List (List ℕ)) (old new : LineReaderState) → HasCutOff asked old ⊎ HasCutAll asked old
    → (old.ended ≡ true → new.read ≡ old.read)
    → 0 < length (drop old.given new.read) → HasCutOff asked old
cut-before asked old new (inl cut) still some = cut
cut-before asked old new (inr all) still some =
    absurd (omega (arith, length-drop old.given new.read, ap length (still all.ended), all.all))

-- bytes wait where a line is given
pub some-waiting : (old new : LineReaderState) (P : Type 0) → GivesLine old new ⊎ (GivesLast old new × P)
    → 0 < length (drop old.given new.read)
some-waiting old new P (inl gives) = omega (arith, ap length gives.first.1, length-append new.line (10 ∷ gives.first.0))
some-waiting old new P (inr last) = omega (arith, ap length last.0.last, last.0.some)

-- the lines of a script after one more was given
pub lines_of-given : (asked : List (List ℕ)) (old new : LineReaderState) (bytes : List ℕ) (P : Type 0) → new.read ≡ old.read ++ bytes
    → old.given ≤ length old.read → HasCutOff asked old
    → GivesLine old new ⊎ (GivesLast old new × P) → (more : List (List ℕ)) × (lines_of new.read ≡ asked ++ new.line ∷ more)
lines_of-given asked old new bytes P grown within cut (inl gives) = (
  lines_of gives.first.0,
  lines_of-waiting asked old new bytes grown within cut ∙ ap (λ t. asked ++ lines_of t) gives.first.1
      ∙ ap (λ t. asked ++ t) (lines_of-line new.line gives.first.0 gives.one_line),
)
lines_of-given asked old new bytes P grown within cut (inr last) = (
  [],
  lines_of-waiting asked old new bytes grown within cut ∙ ap (λ t. asked ++ lines_of t) (sym last.0.last)
      ∙ ap (λ t. asked ++ t) (lines_of-last new.line last.0.one_line),
)

-- ---- the ends of a session

-- nothing more is given: all lines were answered
pub talked-end : (says : Says) (start d : DebuggerState) (script out : Stream) (mid : Option (List ℕ)) (old new : LineReaderState)
    → IsTalking says start script.before mid out.before out.after old d → ReadsOn mid script.after old.read new.read → GivesNone old new
    → IsOver script.after old new
    → (old.ended ≡ true → (new.read ≡ old.read) × (script.after ≡ mid)) → length new.read ≤ most_script → HasTalked says script out start
talked-end says start d script out mid old new t (bytes, consumed, grown) none over still few = record {
  bytes = new.read;
  limited = few;
  consumed = subst (Consumes script.before script.after) (sym grown) (Consumes-trans _ _ _ old.read bytes t.consumed consumed);
  whole = inl (at_end over.at_end);
  written = record {
    text = t.text;
    now = d;
    talks = subst (λ ls. Talks says ls start t.text d) (sym answered) t.talks;
    written = t.written;
  };
} where
  at_end : (old.ended ≡ true) ⊎ IsAtEnd script.after → IsAtEnd script.after
  at_end (inl ended) = subst IsAtEnd (sym (still ended).1) (t.over ended)
  at_end (inr is) = is

  given : HasCutOff t.asked old ⊎ HasCutAll t.asked old → given_lines new.read ≡ t.asked
  given (inl cut) =
      given-cut new.read t.asked (lines_of-waiting t.asked old new bytes grown t.within cut ∙ ap (λ r. t.asked ++ lines_of r) none.none)
  given (inr all) = ap given_lines (still all.ended).0 ∙ all.is

  answered : answered_one_by_one new.read ≡ t.asked
  answered = ap until_quit (given t.cut) ∙ LacksQuit-all t.asked t.go_on

-- a script with a line among its whole ones
has_quit : (script : List ℕ) (asked more : List (List ℕ)) (line : List ℕ) → lines_of script ≡ asked ++ line ∷ more → 0 < length more
    → line_of line ≡ Quit → HasQuit script
has_quit script asked more line is some quits =
    let size : length (lines_of script) ≡ length asked + (length more + 1) =
    omega (arith, ap length is, length-append asked (line ∷ more)) in
    let place : get_or (lines_of script) (length asked) line ≡ line =
    ap (λ ls. get_or ls (length asked) line) is ∙ get_or_at asked line more line (length asked) refl in (
      length asked,
      line,
      omega (arith, length-take-le (length (lines_of script) - 1) (lines_of script) (omega arith)),
      get_or-take (length (lines_of script) - 1) (lines_of script) (length asked) line (omega arith) ∙ place,
      quit-ends line quits,
    )

-- a line `quit` is given
pub talked-quit : (says : Says) (start d : DebuggerState) (script out : Stream) (mid : Option (List ℕ)) (old new : LineReaderState)
    → IsTalking says start script.before mid out.before out.after old d → ReadsOn mid script.after old.read new.read
    → GivesLine old new ⊎ (GivesLast old new × IsOver script.after old new)
    → (old.ended ≡ true → (new.read ≡ old.read) × (script.after ≡ mid)) → length new.read ≤ most_script → line_of new.line ≡ Quit
    → HasTalked says script out start
talked-quit says start d script out mid old new t (bytes, consumed, grown) gives still few quits = record {
  bytes = new.read;
  limited = few;
  consumed = subst (Consumes script.before script.after) (sym grown) (Consumes-trans _ _ _ old.read bytes t.consumed consumed);
  whole = whole gives;
  written = record {
    text = t.text;
    now = d;
    talks = subst (λ ls. Talks says ls start t.text d) (sym answered) t.talks;
    written = t.written;
  };
} where
  cut : HasCutOff t.asked old
  cut = cut-before t.asked old new t.cut (λ e. (still e).0) (some-waiting old new (IsOver script.after old new) gives)

  given : (more : List (List ℕ)) × (lines_of new.read ≡ t.asked ++ new.line ∷ more)
  given = lines_of-given t.asked old new bytes (IsOver script.after old new) grown t.within cut gives

  on : (others : List (List ℕ)) × (given_lines new.read ≡ t.asked ++ new.line ∷ others)
  on = given-on new.read t.asked given.0 new.line (quit-some new.line quits) given.1

  answered : answered_one_by_one new.read ≡ t.asked
  answered =
      ap until_quit on.1 ∙ take_while-through t.asked (new.line ∷ on.0) t.go_on
      ∙ ap (λ r. t.asked ++ r) (take_while-quit new.line on.0 (quit-ends new.line quits)) ∙ append-nil t.asked

  at_end : (old.ended ≡ true) ⊎ IsAtEnd script.after → IsAtEnd script.after
  at_end (inl ended) = subst IsAtEnd (sym (still ended).1) (t.over ended)
  at_end (inr is) = is

  whole : GivesLine old new ⊎ (GivesLast old new × IsOver script.after old new) → IsAtEnd script.after ⊎ HasQuit new.read
  whole (inl line) =
      let is = lines_of-waiting t.asked old new bytes grown t.within cut ∙ ap (λ r. t.asked ++ lines_of r) line.first.1
      ∙ ap (λ r. t.asked ++ r) (lines_of-line new.line line.first.0 line.one_line) in
      inr (has_quit new.read t.asked (lines_of line.first.0) new.line is (length-lines_of line.first.0) quits)
  whole (inr last) = inl (at_end last.1.at_end)

-- ---- one line more

pub talking-step : (says : Says) (start d next : DebuggerState) (rb ra rn ob oa on : Option (List ℕ)) (old new : LineReaderState)
    (first : List ℕ)
    → IsTalking says start rb ra ob oa old d → ReadsOn ra rn old.read new.read → GivesLine old new ⊎ (GivesLast old new × IsOver rn old new)
    → (old.ended ≡ true → (new.read ≡ old.read) × (rn ≡ ra)) → (new.ended ≡ true → (old.ended ≡ true) ⊎ IsAtEnd rn)
    → new.most ≡ old.most → length new.read ≤ new.most → new.given ≤ length new.read → (line_of new.line ≡ Quit → ⊥)
    → says new.line d first next → Appends oa on first → IsTalking says start rb rn ob on new next
talking-step says start d next rb ra rn ob oa on old new first t (bytes, consumed, grown) gives still ends most limit within other answered
    appended = record {
      asked = t.asked ++ new.line ∷ [];
      text = t.text ++ first;
      talks = Talks-push says t.asked new.line start d next t.text first t.talks answered;
      go_on = AllGoOn-push t.asked new.line t.go_on (other-goes_on new.line other);
      written = Appends-trans ob oa on t.text first t.written appended;
      consumed = subst (Consumes rb rn) (sym grown) (Consumes-trans _ _ _ old.read bytes t.consumed consumed);
      most = most ∙ t.most;
      limit = subst (λ m. length new.read ≤ m) (most ∙ t.most) limit;
      within = within;
      over = λ e. at_end (ends e);
      cut = cut_after gives;
    } where
      at_end : (old.ended ≡ true) ⊎ IsAtEnd rn → IsAtEnd rn
      at_end (inl ended) = subst IsAtEnd (sym (still ended).1) (t.over ended)
      at_end (inr is) = is

      cut : HasCutOff t.asked old
      cut = cut-before t.asked old new t.cut (λ e. (still e).0) (some-waiting old new (IsOver rn old new) gives)

      cut_after : GivesLine old new ⊎ (GivesLast old new × IsOver rn old new)
          → HasCutOff (t.asked ++ new.line ∷ []) new ⊎ HasCutAll (t.asked ++ new.line ∷ []) new
      cut_after (inl line) = inl (HasCutOff-line t.asked old new bytes grown t.within cut line)
      cut_after (inr last) = inr (HasCutAll-last t.asked old new bytes grown t.within cut last.0 last.1.ended)

-- ---- errors

-- what stands written between two lines
replies : (says : Says) (start d : DebuggerState) (rb ra : Option (List ℕ)) (out : Stream) (lines : LineReaderState)
    → (t : IsTalking says start rb ra out.before out.after lines d) → WritesReplies says t.asked start out
replies says start d rb ra out lines t = record { text = t.text; now = d; talks = t.talks; written = t.written }

-- the lines that were given are all whole ones, where no line feed is left
whole_at_error : (asked : List (List ℕ)) (old new : LineReaderState) (bytes : List ℕ) (rest : Option (List ℕ))
    → HasCutOff asked old ⊎ HasCutAll asked old → new.read ≡ old.read ++ bytes → old.given ≤ length old.read → new.given ≡ old.given
    → LacksFeed (drop new.given new.read) → (old.ended ≡ true → (new.read ≡ old.read) × IsAtEnd rest) → AreWholeLines new.read rest asked
whole_at_error asked old new bytes rest (inl cut) grown within given lacks still =
    let left = drop old.given new.read in
    let last : lines_of left ≡ left ∷ [] = lines_of-last left (subst (λ k. LacksFeed (drop k new.read)) given lacks) in
    let is : lines_of new.read ≡ asked ++ left ∷ [] = lines_of-waiting asked old new bytes grown within cut ∙ ap (λ r. asked ++ r) last in
    inl (sym (ap (λ ls. take (length ls - 1) ls) is ∙ init-append asked (left ∷ []) (omega arith) ∙ append-nil asked))
whole_at_error asked old new bytes rest (inr all) grown within given lacks still =
    let over = still all.ended in
    inr (over.1, sym (ap given_lines over.0 ∙ all.is))

-- a reader before it lost its last byte of some
abbrev before_byte : Option (List ℕ) → Option (List ℕ) → ℕ → Option (List ℕ)
before_byte None after byte = None
before_byte (Some xs) None byte = None
before_byte (Some xs) (Some ys) byte = Some (byte ∷ ys)

bytes_before : (mid after : Option (List ℕ)) (bytes : List ℕ) (byte : ℕ) → Consumes mid after (bytes ++ byte ∷ [])
    → Consumes mid (before_byte mid after byte) bytes
bytes_before None after bytes byte c = tt
bytes_before (Some xs) None bytes byte c = absurd c
bytes_before (Some xs) (Some ys) bytes byte c = c ∙ append_assoc bytes (byte ∷ []) ys

byte_lost : (mid after : Option (List ℕ)) (bytes : List ℕ) (byte : ℕ) → Consumes mid after (bytes ++ byte ∷ [])
    → Consumes (before_byte mid after byte) after (byte ∷ [])
byte_lost None after bytes byte c = tt
byte_lost (Some xs) None bytes byte c = absurd c
byte_lost (Some xs) (Some ys) bytes byte c = refl

-- a reader at its end loses no byte
none_lost : (mid after : Option (List ℕ)) (bytes : List ℕ) (byte : ℕ) → Consumes mid after (bytes ++ byte ∷ []) → IsAtEnd mid
    → IsAtEnd (before_byte mid after byte)
none_lost None after bytes byte c end = tt
none_lost (Some xs) None bytes byte c end = absurd c
none_lost (Some xs) (Some ys) bytes byte c end =
    absurd (omega (arith, ap length c, ap length end, length-append (bytes ++ byte ∷ []) ys, length-append bytes (byte ∷ [])))

-- a script of which a byte was read behind its limit
passes : (before mid after : Option (List ℕ)) (old new : List ℕ) → Consumes before mid old → PassesLimit mid after old new most_script
    → (prefix : List ℕ) × (most_script < length prefix) × Consumes before after prefix
passes before mid after old new consumed over =
    let (bytes, byte, lost, grown) = over.bytes in
    let size : length (old ++ (bytes ++ byte ∷ [])) ≡ length new + 1 =
    ap length (sym (append_assoc old bytes (byte ∷ []))) ∙ length-append (old ++ bytes) (byte ∷ []) ∙ ap (λ t. length t + 1) (sym grown) in
    (old ++ (bytes ++ byte ∷ []), omega (arith, size, over.full), Consumes-trans before mid after old (bytes ++ byte ∷ []) consumed lost)

-- the next line could not be read
pub talk-error : (says : Says) (start d : DebuggerState) (script out : Stream) (mid : Option (List ℕ)) (old new : LineReaderState)
    (failures : ℕ) (r : ReadError)
    → IsTalking says start script.before mid out.before out.after old d → (old.ended ≡ true → (new.read ≡ old.read) × (script.after ≡ mid))
    → length new.read ≤ most_script → new.given ≡ old.given → LacksFeed (drop new.given new.read) → script.failures_before ≤ failures
    → (r ≡ read.TooLong → PassesLimit mid script.after old.read new.read old.most)
    → (r ≡ read.ReadFault → HasRisen failures script.failures_after × ReadsOn mid script.after old.read new.read)
    → (r ≡ read.NoMemory → ReadsOn mid script.after old.read new.read)
    → IsErrorOfTalk says script out start (error_of_read r)
talk-error says start d script out mid old new failures r t still few given lacks before long fault memory = cases r long fault memory where
  read_lines : ReadsOn mid script.after old.read new.read → ReadsLines script.before script.after t.asked
  read_lines (bytes, consumed, grown) = record {
    bytes = new.read;
    limited = few;
    consumed = subst (Consumes script.before script.after) (sym grown) (Consumes-trans _ _ _ old.read bytes t.consumed consumed);
    whole = whole_at_error t.asked old new bytes script.after t.cut grown t.within given lacks
        (λ ended. ((still ended).0, subst IsAtEnd (sym (still ended).1) (t.over ended)));
  }

  too_long : PassesLimit mid script.after old.read new.read old.most → PassesScript script t.asked
  too_long over =
      let (bytes, byte, lost, grown) = over.bytes in
      let rest = before_byte mid script.after byte in
      record {
        rest = rest;
        byte = byte;
        read = record {
          bytes = new.read;
          limited = few;
          consumed = subst (Consumes script.before rest) (sym grown)
              (Consumes-trans script.before mid rest old.read bytes t.consumed (bytes_before mid script.after bytes byte lost));
          whole = whole_at_error t.asked old new bytes rest t.cut grown t.within given lacks
              (λ ended. ((still ended).0, none_lost mid script.after bytes byte lost (t.over ended)));
        };
        lost = byte_lost mid script.after bytes byte lost;
        past = passes script.before mid script.after old.read new.read t.consumed
            (subst (PassesLimit mid script.after old.read new.read) t.most over);
      }

  ends : (cause : Stream → List (List ℕ) → Type 0) → cause script t.asked → EndsAtLine says cause script out start
  ends cause why = record {
    lines = t.asked;
    cause = why;
    no_quit = LacksQuit-all t.asked t.go_on;
    written = replies says start d script.before mid out old t;
  }

  cases : (r : ReadError) → (r ≡ read.TooLong → PassesLimit mid script.after old.read new.read old.most)
      → (r ≡ read.ReadFault → HasRisen failures script.failures_after × ReadsOn mid script.after old.read new.read)
      → (r ≡ read.NoMemory → ReadsOn mid script.after old.read new.read) → IsErrorOfTalk says script out start (error_of_read r)
  cases read.TooLong long fault memory = ends PassesScript (too_long (long refl))
  cases read.ReadFault long fault memory =
      let failed = fault refl in
      ends IsUnreadable (record { read = read_lines failed.1; failed = HasRisen-above _ failures _ before failed.0 })
  cases read.NoMemory long fault memory = inl (ends (λ s lines. ReadsLines s.before s.after lines) (read_lines (memory refl)))

-- a line was given: the whole lines of what was read are those before it, it, and others
lines_with : (asked : List (List ℕ)) (old new : LineReaderState) (mid after : Option (List ℕ)) (bytes : List ℕ)
    → new.read ≡ old.read ++ bytes
    → old.given ≤ length old.read → HasCutOff asked old → GivesLine old new ⊎ (GivesLast old new × IsOver after old new)
    → (old.ended ≡ true → IsAtEnd after) → (more : List (List ℕ)) × AreWholeLines new.read after (asked ++ new.line ∷ more)
lines_with asked old new mid after bytes grown within cut (inl gives) still =
    let behind = lines_of gives.first.0 in
    let is : lines_of new.read ≡ (asked ++ new.line ∷ []) ++ behind =
    lines_of-waiting asked old new bytes grown within cut ∙ ap (λ ls. asked ++ lines_of ls) gives.first.1
    ∙ ap (λ ls. asked ++ ls) (lines_of-line new.line gives.first.0 gives.one_line) ∙ sym (append_assoc asked (new.line ∷ []) behind) in
    let init = take (length behind - 1) behind in (
      init,
      inl (sym (ap (λ ls. take (length ls - 1) ls) is ∙ init-append (asked ++ new.line ∷ []) behind (length-lines_of gives.first.0)
          ∙ append_assoc asked (new.line ∷ []) init)),
    )
lines_with asked old new mid after bytes grown within cut (inr last) still = (
  [],
  inr (
    at_end last.1.at_end,
    sym (given-all new.read asked new.line last.0.some
        (lines_of-waiting asked old new bytes grown within cut ∙ ap (λ ls. asked ++ lines_of ls) (sym last.0.last)
        ∙ ap (λ ls. asked ++ ls) (lines_of-last new.line last.0.one_line))),
  ),
) where
  at_end : (old.ended ≡ true) ⊎ IsAtEnd after → IsAtEnd after
  at_end (inl ended) = still ended
  at_end (inr is) = is

-- a line was not answered: memory was refused, and nothing more was written, or its answer could not be written whole, or not be flushed
pub talk-stops : (says : Says) (start d next : DebuggerState) (script out : Stream) (mid held : Option (List ℕ)) (old new : LineReaderState)
    (failures : ℕ) (e : SessionError) (asks : List ℕ → Type 0)
    → ((reply : List ℕ) → asks reply → says new.line d reply next) → IsTalking says start script.before mid out.before held old d
    → ReadsOn mid script.after old.read new.read
    → GivesLine old new ⊎ (GivesLast old new × IsOver script.after old new)
    → (old.ended ≡ true → (new.read ≡ old.read) × (script.after ≡ mid))
    → length new.read ≤ most_script → (line_of new.line ≡ Quit → ⊥) → out.failures_before ≤ failures
    → ((e ≡ NoMemory) × (out.after ≡ held))
    ⊎ ((e ≡ WriteFault) × HasRisen failures out.failures_after
    × (text : List ℕ) × (count : ℕ) × (count ≤ length text) × asks text × Appends held out.after (take count text))
    → IsErrorOfTalk says script out start e
talk-stops says start d next script out mid held old new failures e asks told t (bytes, consumed, grown) gives still few other before why =
    cases why where
      cut : HasCutOff t.asked old
      cut = cut-before t.asked old new t.cut (λ ended. (still ended).0) (some-waiting old new (IsOver script.after old new) gives)

      found : (more : List (List ℕ)) × AreWholeLines new.read script.after (t.asked ++ new.line ∷ more)
      found =
          lines_with t.asked old new mid script.after bytes grown t.within cut gives
          (λ ended. subst IsAtEnd (sym (still ended).1) (t.over ended))

      lines : List (List ℕ)
      lines = t.asked ++ new.line ∷ found.0

      read_lines : ReadsLines script.before script.after lines
      read_lines = record {
        bytes = new.read;
        limited = few;
        consumed = subst (Consumes script.before script.after) (sym grown) (Consumes-trans _ _ _ old.read bytes t.consumed consumed);
        whole = found.1;
      }

      go_on : AllGoOn (t.asked ++ new.line ∷ [])
      go_on = AllGoOn-push t.asked new.line t.go_on (other-goes_on new.line other)

      are : until_quit lines ≡ t.asked ++ new.line ∷ until_quit found.0
      are =
          ap until_quit (sym (append_assoc t.asked (new.line ∷ []) found.0)) ∙ take_while-through (t.asked ++ new.line ∷ []) found.0 go_on
          ∙ append_assoc t.asked (new.line ∷ []) (until_quit found.0)

      cases : ((e ≡ NoMemory) × (out.after ≡ held))
          ⊎ ((e ≡ WriteFault) × HasRisen failures out.failures_after
          × (text : List ℕ) × (count : ℕ) × (count ≤ length text) × asks text × Appends held out.after (take count text))
          → IsErrorOfTalk says script out start e
      cases (inl (cause, unwritten)) = rw cause (inr (record {
        lines = lines;
        read = read_lines;
        done = record {
          done = t.asked;
          next = new.line;
          rest = until_quit found.0;
          are = are;
          written = record {
            text = t.text;
            now = d;
            talks = t.talks;
            written = subst (λ a. Appends out.before a t.text) (sym unwritten) t.written;
          };
        };
      }))
      cases (inr (cause, rose, text, count, within, answered, appended)) = rw cause (record {
        lines = lines;
        read = read_lines;
        done = record {
          done = t.asked;
          next = new.line;
          rest = until_quit found.0;
          are = are;
          text = t.text;
          before = d;
          talks = t.talks;
          reply = text;
          after = next;
          answered = told text answered;
          count = count;
          within = within;
          written = Appends-trans out.before held out.after t.text (take count text) t.written appended;
          failed = HasRisen-above _ failures _ before rose;
        };
      })

-- each line takes its bytes
pub given-more : (old new : LineReaderState) (P : Type 0) → old.given ≤ length old.read → (old.ended ≡ true → new.read ≡ old.read)
    → GivesLine old new ⊎ (GivesLast old new × P) → old.given < new.given
given-more old new P within still (inl gives) = omega (arith, gives.given)
given-more old new P within still (inr last) =
    omega (arith, last.0.given, ap length last.0.last, last.0.some, length-drop old.given new.read)
