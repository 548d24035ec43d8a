-- The lines of a script, as they are cut off its front, and their replies.
use Rattle.std.proofs.Common.{not, ◌≡◌, ◌∙◌, ℕ, suc, ◌+◌, ◌-◌, ◌<◌, ◌≤◌, ◌⊎◌, inl, inr, Bool, true, false, cond, eqb, List, [], ◌∷◌, ◌++◌}
use Rattle.std.proofs.Common.{length, take, drop, get_or, refl, sym, ap, subst, arith, append-nil, append_assoc, length-append}
use Rattle.std.proofs.Common.{take-append-drop}
use Rattle.std.proofs.lemmas.List.{drop_more}
use Rattle.std.proofs.Math.Seq.{take-append-add}
use lib.Seq.{drop-append-add}
use Rattle.std.specs.List.{filter, onto_first, take_while, prefix_len}
use Rattle.std.proofs.lemmas.Bool.{ne_eqb}
use Rattle.counted_io.specs.Counted.{HasRisen}
use Rattle.counted_io.specs.Lines.{LacksFeed}
use Rattle.bsp_debug.specs.Debugger.{DebuggerState}
use Rattle.debug_lines.specs.declared.line.Line.{Line}
use Rattle.debug_lines.specs.declared.line.Line.TheVariants.{Break, Clear, Command, Output, Keep, Back, Forget, Kept, Points, Shown, Areas}
use Rattle.debug_lines.specs.declared.line.Line.TheVariants.{Requests, StepNext, Over, Nodes, Place, Places, OutputFrom, CostsFrom, Help}
use Rattle.debug_lines.specs.declared.line.Line.TheVariants.{HelpOn, Quit, Empty, Unknown, Misused, NoLine}
use Rattle.debug_lines.specs.Lines.{line_of}
use Rattle.debug_lines.specs.Words.{has_bytes}
use Rattle.bsp_console.specs.Talk.{LacksQuit, Says, Talks, given_lines, is_quit, lines_of, goes_on, until_quit}

LacksFeed-rest : (b : ℕ) (bs : List ℕ) → LacksFeed (b ∷ bs) → LacksFeed bs
LacksFeed-rest b bs lacks = λ k d within. lacks (suc k) d (omega arith)

-- a line and its line feed are cut off
pub lines_of-line : (line rest : List ℕ) → LacksFeed line → lines_of (line ++ 10 ∷ rest) ≡ line ∷ lines_of rest
lines_of-line [] rest lacks = refl
lines_of-line (b ∷ bs) rest lacks =
    let other : eqb b 10 ≡ false = ne_eqb b 10 (lacks 0 0 (omega arith)) in
    rw other (ap (onto_first b) (lines_of-line bs rest (LacksFeed-rest b bs lacks)))

-- a text without a line feed is one line
pub lines_of-last : (line : List ℕ) → LacksFeed line → lines_of line ≡ line ∷ []
lines_of-last [] lacks = refl
lines_of-last (b ∷ bs) lacks =
    let other : eqb b 10 ≡ false = ne_eqb b 10 (lacks 0 0 (omega arith)) in
    rw other (ap (onto_first b) (lines_of-last bs (LacksFeed-rest b bs lacks)))

-- a text with its first line feed at `at`
pub lines_of-read : (text : List ℕ) (at : ℕ) → at < length text → get_or text at 0 ≡ 10 → LacksFeed (take at text)
    → lines_of text ≡ take at text ∷ lines_of (drop (at + 1) text)
lines_of-read text at within feed lacks =
    let parts : text ≡ take at text ++ 10 ∷ drop (at + 1) text =
    sym (take-append-drop at text) ∙ ap (λ bs. take at text ++ bs) (drop_more text at 0 within ∙ ap (λ b. b ∷ drop (at + 1) text) feed) in
    ap lines_of parts ∙ lines_of-line (take at text) (drop (at + 1) text) lacks

-- no line of these ends the session
abbrev pub AllGoOn : List (List ℕ) → Type 0
AllGoOn [] = Unit {0}
AllGoOn (line ∷ lines) = (goes_on line ≡ true) × AllGoOn lines

pub AllGoOn-push : (lines : List (List ℕ)) (line : List ℕ) → AllGoOn lines → goes_on line ≡ true → AllGoOn (lines ++ line ∷ [])
AllGoOn-push [] line all goes = (goes, tt)
AllGoOn-push (first ∷ lines) line all goes = (all.0, AllGoOn-push lines line all.1 goes)

-- what is answered of lines that go on, and others behind them
pub take_while-through : (lines more : List (List ℕ)) → AllGoOn lines
    → take_while goes_on (lines ++ more) ≡ lines ++ take_while goes_on more
take_while-through [] more all = refl
take_while-through (line ∷ lines) more all =
    let one : 1 + prefix_len goes_on (lines ++ more) ≡ suc (prefix_len goes_on (lines ++ more)) = omega arith in
    rw (all.0, one) (ap (λ l. line ∷ l) (take_while-through lines more all.1))

-- nothing is answered from a line on that ends the session
pub take_while-quit : (line : List ℕ) (more : List (List ℕ)) → goes_on line ≡ false → take_while goes_on (line ∷ more) ≡ []
take_while-quit line more quits = rw quits refl

-- a script has a line at least
pub length-lines_of : (script : List ℕ) → 0 < length (lines_of script)
length-lines_of [] = omega arith
length-lines_of (b ∷ bs) = some (eqb b 10) where
  onto : (b : ℕ) (lines : List (List ℕ)) → 0 < length (onto_first b lines)
  onto b [] = omega arith
  onto b (line ∷ lines) = omega arith

  some : (feed : Bool) → 0 < length (cond feed ([] ∷ lines_of bs) (onto_first b (lines_of bs)))
  some true = omega arith
  some false = onto b (lines_of bs)

-- any line but `quit` goes on
pub is_quit-other : (l : Line) → (l ≡ Quit → ⊥) → is_quit l ≡ false
is_quit-other Quit other = absurd (other refl)
is_quit-other (Break p) other = refl
is_quit-other (Clear p) other = refl
is_quit-other (Command c) other = refl
is_quit-other Output other = refl
is_quit-other Keep other = refl
is_quit-other (Back number) other = refl
is_quit-other (Forget number) other = refl
is_quit-other Kept other = refl
is_quit-other Nodes other = refl
is_quit-other (Place rank) other = refl
is_quit-other Places other = refl
is_quit-other Points other = refl
is_quit-other (Shown form rank addr count) other = refl
is_quit-other (Areas rank) other = refl
is_quit-other (Requests rank) other = refl
is_quit-other StepNext other = refl
is_quit-other (Over rank) other = refl
is_quit-other (Help audience) other = refl
is_quit-other (HelpOn audience topic) other = refl
is_quit-other (Misused topic) other = refl
is_quit-other NoLine other = refl
is_quit-other (OutputFrom from) other = refl
is_quit-other (CostsFrom from) other = refl
is_quit-other Empty other = refl
is_quit-other Unknown other = refl

-- `quit` ends the session, and any other line goes on
pub quit-ends : (line : List ℕ) → line_of line ≡ Quit → goes_on line ≡ false
quit-ends line quits = rw quits refl

pub other-goes_on : (line : List ℕ) → (line_of line ≡ Quit → ⊥) → goes_on line ≡ true
other-goes_on line other = ap not (is_quit-other (line_of line) other)

-- a line of no bytes asks for nothing
pub line_of-nil : line_of [] ≡ Empty
unfolding line_of
line_of-nil = refl

-- the test for `quit` tells
pub is_quit-true : (l : Line) → is_quit l ≡ true → l ≡ Quit
is_quit-true Quit is = refl
is_quit-true (Break p) is = absurd cc
is_quit-true (Clear p) is = absurd cc
is_quit-true (Command c) is = absurd cc
is_quit-true Output is = absurd cc
is_quit-true Keep is = absurd cc
is_quit-true (Back number) is = absurd cc
is_quit-true (Forget number) is = absurd cc
is_quit-true Kept is = absurd cc
is_quit-true Nodes is = absurd cc
is_quit-true (Place rank) is = absurd cc
is_quit-true Places is = absurd cc
is_quit-true Points is = absurd cc
is_quit-true (Shown form rank addr count) is = absurd cc
is_quit-true (Areas rank) is = absurd cc
is_quit-true (Requests rank) is = absurd cc
is_quit-true StepNext is = absurd cc
is_quit-true (Over rank) is = absurd cc
is_quit-true (Help audience) is = absurd cc
is_quit-true (HelpOn audience topic) is = absurd cc
is_quit-true (Misused topic) is = absurd cc
is_quit-true NoLine is = absurd cc
is_quit-true (OutputFrom from) is = absurd cc
is_quit-true (CostsFrom from) is = absurd cc
is_quit-true Empty is = absurd cc
is_quit-true Unknown is = absurd cc

pub is_quit-false : (l : Line) → is_quit l ≡ false → l ≡ Quit → ⊥
is_quit-false l other quits = let is : is_quit l ≡ true = ap is_quit quits in cc

-- none of lines that go on is `quit`
pub LacksQuit-all : (lines : List (List ℕ)) → AllGoOn lines → LacksQuit lines
LacksQuit-all lines all = ap until_quit (sym (append-nil lines)) ∙ take_while-through lines [] all ∙ append-nil lines

-- all but the last of lines of which the last are known
pub init-append : (lines more : List (List ℕ)) → 0 < length more
    → take (length (lines ++ more) - 1) (lines ++ more) ≡ lines ++ take (length more - 1) more
init-append lines more some =
    let size : length (lines ++ more) - 1 ≡ length lines + (length more - 1) = omega (arith, length-append lines more) in
    ap (λ n. take n (lines ++ more)) size ∙ take-append-add lines more (length more - 1)

-- ---- the lines of a script as they are given one by one

-- those of all its lines
abbrev pub given_of : List (List ℕ) → List (List ℕ)
given_of lines = take (length lines - 1) lines ++ filter has_bytes (drop (length lines - 1) lines)

-- lines of which the last are known
pub given-append : (lines more : List (List ℕ)) → 0 < length more → given_of (lines ++ more) ≡ lines ++ given_of more
given-append lines more some =
    let size : length (lines ++ more) - 1 ≡ length lines + (length more - 1) = omega (arith, length-append lines more) in
    let behind : drop (length (lines ++ more) - 1) (lines ++ more) ≡ drop (length more - 1) more =
    ap (λ n. drop n (lines ++ more)) size ∙ drop-append-add lines more (length more - 1) in
    ap (λ ls. ls ++ filter has_bytes (drop (length (lines ++ more) - 1) (lines ++ more))) (init-append lines more some)
    ∙ ap (λ ls. (lines ++ take (length more - 1) more) ++ filter has_bytes ls) behind
    ∙ append_assoc lines (take (length more - 1) more) (filter has_bytes (drop (length more - 1) more))

-- a last line of some bytes
pub given-last : (line : List ℕ) → 0 < length line → given_of (line ∷ []) ≡ line ∷ []
given-last [] some = absurd (omega arith)
given-last (b ∷ bs) some =
    let is : has_bytes (b ∷ bs) ≡ true = grind arith in
    rw is refl

-- a line of some bytes, and others behind it
pub given-first : (line : List ℕ) (more : List (List ℕ)) → 0 < length line
    → (others : List (List ℕ)) × (given_of (line ∷ more) ≡ line ∷ others)
given-first line [] some = ([], given-last line some)
given-first line (next ∷ more) some = (given_of (next ∷ more), given-append (line ∷ []) (next ∷ more) (omega arith))

-- all lines of a script were given, and behind them stands nothing
pub given-cut : (script : List ℕ) (asked : List (List ℕ)) → lines_of script ≡ asked ++ [] ∷ [] → given_lines script ≡ asked
given-cut script asked is = ap given_of is ∙ given-append asked ([] ∷ []) (omega arith) ∙ append-nil asked

-- and the last of them has bytes
pub given-all : (script : List ℕ) (asked : List (List ℕ)) (line : List ℕ) → 0 < length line → lines_of script ≡ asked ++ line ∷ []
    → given_lines script ≡ asked ++ line ∷ []
given-all script asked line some is =
    ap given_of is ∙ given-append asked (line ∷ []) (omega arith) ∙ ap (λ ls. asked ++ ls) (given-last line some)

-- a line of some bytes is given, and others behind it
pub given-on : (script : List ℕ) (asked more : List (List ℕ)) (line : List ℕ) → 0 < length line → lines_of script ≡ asked ++ line ∷ more
    → (others : List (List ℕ)) × (given_lines script ≡ asked ++ line ∷ others)
given-on script asked more line some is =
    let first = given-first line more some in
    (first.0, ap given_of is ∙ given-append asked (line ∷ more) (omega arith) ∙ ap (λ ls. asked ++ ls) first.1)

-- `quit` has bytes
pub quit-some : (line : List ℕ) → line_of line ≡ Quit → 0 < length line
quit-some [] quits = absurd (empty (sym line_of-nil ∙ quits)) where
  empty : Empty ≡ Quit → ⊥
  empty e = cc
quit-some (b ∷ bs) quits = omega arith

-- one more line is answered
pub Talks-push : (says : Says) (lines : List (List ℕ)) (line : List ℕ) (start d next : DebuggerState) (text first : List ℕ)
    → Talks says lines start text d → says line d first next → Talks says (lines ++ line ∷ []) start (text ++ first) next
Talks-push says [] line start d next text first talks answered = (
  first,
  [],
  next,
  subst (λ s. says line s first next) talks.1 answered,
  (refl, refl),
  ap (λ t. t ++ first) talks.0
      ∙ sym (append-nil first),
)
Talks-push says (line' ∷ lines) line start d next text first talks answered =
    let (one, rest, then, was, more, is) = talks in (
      one,
      rest ++ first,
      then,
      was,
      Talks-push says lines line then d next rest first more answered,
      ap (λ t. t ++ first) is
          ∙ append_assoc one rest first,
    )

-- a count that has risen, above one that is no greater
pub HasRisen-above : (a b c : ℕ) → a ≤ b → HasRisen b c → HasRisen a c
HasRisen-above a b c before (inl rose) = inl (omega arith)
HasRisen-above a b c before (inr full) = inr full

-- another first case
pub with_left : {A B C : Type 0} → A ⊎ C → (A → B) → B ⊎ C
with_left (inl a) f = inl (f a)
with_left (inr c) f = inr c
