-- What the lines of a debugger ask for (own language).
use Rattle.std.specs.Prelude.{ℕ, ◌&&◌, Bool, true, false, if◌then◌else◌, List, [], ◌∷◌, bytes_eq, codes, Option, Some, None, option_map}
use Rattle.std.specs.Option.{option_and_then, option_map_or, option_or}
use Rattle.bsp_debug.specs.declared.command.Command.{Command as Asked}
use Rattle.bsp_debug.specs.declared.command.Command.TheVariants.{Step, Run, Phase, Turn, Go, Regs, Fregs, Bytes, Queue, Costs}
use Rattle.bsp_debug.specs.declared.point.Point.{Point}
use Rattle.bsp_debug.specs.declared.point.Point.TheVariants.{Address, Superstep}
use Rattle.debug_lines.specs.declared.form.Form.{Form}
use Rattle.debug_lines.specs.declared.form.Form.TheVariants.{Words, Text, Codes}
use Rattle.debug_lines.specs.declared.help.Audience.{Audience}
use Rattle.debug_lines.specs.declared.help.Audience.TheVariants.{Person, Program}
use Rattle.debug_lines.specs.declared.line.Line.{Line}
use Rattle.debug_lines.specs.declared.line.Line.TheVariants.{Break, Clear, Command, Output, Keep, Back, Forget, Kept, Points, Shown, Areas}
use Rattle.debug_lines.specs.declared.line.Line.TheVariants.{Requests, StepNext, Over, Nodes, Place, Places, OutputFrom, CostsFrom, Help}
use Rattle.debug_lines.specs.declared.line.Line.TheVariants.{HelpOn, Quit, Empty, Unknown, Misused, NoLine}
use Rattle.numerals.specs.Numbers.{number_in}
use Rattle.debug_lines.specs.Topics.{topic_named}
use Rattle.debug_lines.specs.Words.{words}

-- a command of one word
abbrev pub command_of_one : List ℕ → Option Asked
command_of_one word =
    if bytes_eq word (codes "phase") then Some Phase else
    (if bytes_eq word (codes "turn") then Some Turn else
    (if bytes_eq word (codes "go") then Some Go else
    (if bytes_eq word (codes "costs") then Some Costs else None)))

-- a line of one word
abbrev pub line_of_one : List ℕ → Option Line
line_of_one word =
    if bytes_eq word (codes "output") then Some Output else
    (if bytes_eq word (codes "quit") then Some Quit else option_map Command (command_of_one word))

-- a line of two: `regs RANK`, `fregs RANK`, `queue RANK`
abbrev pub line_of_two : (word rank : List ℕ) → Option Line
line_of_two word rank =
    if bytes_eq word (codes "regs") then option_map (λ r. Command (Regs r)) (number_in 32 rank) else
    (if bytes_eq word (codes "fregs") then option_map (λ r. Command (Fregs r)) (number_in 32 rank) else
    (if bytes_eq word (codes "queue") then option_map (λ r. Command (Queue r)) (number_in 32 rank) else None))

-- `RANK ADDR`, or `superstep K`
abbrev pub point_of : (a b : List ℕ) → Option Point
point_of a b =
    if bytes_eq a (codes "superstep") then option_map Superstep (number_in 64 b) else
    option_and_then (λ r. option_map (λ at. Address r at) (number_in 32 b)) (number_in 32 a)

-- `RANK COUNT`
abbrev pub step_of : (rank count : List ℕ) → Option Line
step_of rank count = option_and_then (λ r. option_map (λ n. Command (Step r n)) (number_in 64 count)) (number_in 32 rank)

-- a line of three: `break POINT`, `clear POINT`, `step RANK COUNT`
abbrev pub line_of_three : (word a b : List ℕ) → Option Line
line_of_three word a b =
    if bytes_eq word (codes "break") then option_map Break (point_of a b) else
    (if bytes_eq word (codes "clear") then option_map Clear (point_of a b) else
    (if bytes_eq word (codes "step") then step_of a b else None))

-- `RANK ADDR LEN`
abbrev pub bytes_of : (rank addr len : List ℕ) → Option Line
bytes_of rank addr len =
    option_and_then (λ r. option_and_then (λ at. option_map (λ n. Command (Bytes r at n)) (number_in 32 len)) (number_in 32 addr))
    (number_in 32 rank)

-- a line of four: `bytes RANK ADDR LEN`
abbrev pub line_of_four : (word rank addr len : List ℕ) → Option Line
line_of_four word rank addr len = if bytes_eq word (codes "bytes") then bytes_of rank addr len else None

-- a line of these words; none for words of no line
abbrev pub line_of_words : List (List ℕ) → Option Line
line_of_words [] = Some Empty
line_of_words (word ∷ []) = line_of_one word
line_of_words (word ∷ a ∷ []) = line_of_two word a
line_of_words (word ∷ a ∷ b ∷ []) = line_of_three word a b
line_of_words (word ∷ a ∷ b ∷ c ∷ []) = line_of_four word a b c
line_of_words (word ∷ a ∷ b ∷ c ∷ d ∷ more) = None

-- a line, if its words are those of one
abbrev pub or_unknown : Option Line → Line
or_unknown line = option_map_or (λ known. known) line Unknown

-- what a line of a script asks for
unfoldable pub line_of : List ℕ → Line
line_of line = or_unknown (line_of_words (words line))

-- ---- dialogues

-- a line of one word that scripts do not have
abbrev pub dialogue_of_one : List ℕ → Option Line
dialogue_of_one word =
    if bytes_eq word (codes "keep") then Some Keep else
    (if bytes_eq word (codes "kept") then Some Kept else
    (if bytes_eq word (codes "where") then Some Places else
    (if bytes_eq word (codes "points") then Some Points else
    (if bytes_eq word (codes "help") then Some (Help Person) else
    (if bytes_eq word (codes "step") then Some StepNext else None)))))

-- a line of two: `back N`, `forget N`
abbrev pub state_line_of : (word number : List ℕ) → Option Line
state_line_of word number =
    if bytes_eq word (codes "back") then option_map Back (number_in 64 number) else
    (if bytes_eq word (codes "forget") then option_map Forget (number_in 64 number) else None)

-- `where RANK`, `areas RANK`, `requests RANK`, `over RANK`, and `step RANK`, which is one instruction
abbrev pub rank_line_of : (word rank : List ℕ) → Option Line
rank_line_of word rank =
    if bytes_eq word (codes "where") then option_map Place (number_in 32 rank) else
    (if bytes_eq word (codes "areas") then option_map Areas (number_in 32 rank) else
    (if bytes_eq word (codes "requests") then option_map Requests (number_in 32 rank) else
    (if bytes_eq word (codes "over") then option_map Over (number_in 32 rank) else
    (if bytes_eq word (codes "step") then option_map (λ r. Command (Step r 1)) (number_in 32 rank) else None))))

-- `help LINE`, by the first word of the line, and whom it is for
abbrev pub help_line_of : Audience → (word name : List ℕ) → Option Line
help_line_of audience word name = if bytes_eq word (codes "help") then option_map (HelpOn audience) (topic_named name) else None

abbrev pub dialogue_of_two : (word a : List ℕ) → Option Line
dialogue_of_two word a = option_or (state_line_of word a) (option_or (rank_line_of word a) (help_line_of Person word a))

-- a form in which memory is shown
abbrev pub form_named : List ℕ → Option Form
form_named word =
    if bytes_eq word (codes "words") then Some Words else
    (if bytes_eq word (codes "text") then Some Text else
    (if bytes_eq word (codes "list") then Some Codes else None))

-- `RANK ADDR N`
abbrev pub shown_of : Form → (rank addr count : List ℕ) → Option Line
shown_of form rank addr count =
    option_and_then (λ r. option_and_then (λ at. option_map (λ n. Shown form r at n) (number_in 32 count)) (number_in 32 addr))
    (number_in 32 rank)

-- a line of four: `words RANK ADDR N`, `text RANK ADDR N`, `list RANK ADDR N`
abbrev pub dialogue_of_four : (word rank addr count : List ℕ) → Option Line
dialogue_of_four word rank addr count = option_and_then (λ form. shown_of form rank addr count) (form_named word)

-- a line of these words that scripts do not have; none for words of no such line
abbrev pub dialogue_of_words : List (List ℕ) → Option Line
dialogue_of_words [] = None
dialogue_of_words (word ∷ []) = dialogue_of_one word
dialogue_of_words (word ∷ a ∷ []) = dialogue_of_two word a
dialogue_of_words (word ∷ a ∷ b ∷ []) = None
dialogue_of_words (word ∷ a ∷ b ∷ c ∷ []) = dialogue_of_four word a b c
dialogue_of_words (word ∷ a ∷ b ∷ c ∷ d ∷ more) = None

abbrev pub is_one : List (List ℕ) → Bool
is_one [] = false
is_one (word ∷ []) = true
is_one (word ∷ other ∷ more) = false

-- `help` of one word
abbrev pub asks_help : (word : List ℕ) → (others : List (List ℕ)) → Bool
asks_help word others = bytes_eq word (codes "help") && is_one others

-- what words of no line are: those of a line that is used wrongly, where the first of them is its; else of none at all. `help` of one
-- word is used rightly, and there are no lines with that word
abbrev pub mistake_of : List (List ℕ) → Line
mistake_of [] = NoLine
mistake_of (word ∷ others) = if asks_help word others then NoLine else option_map_or Misused (topic_named word) NoLine

-- a line, if its words are those of one, and else the mistake
abbrev pub or_mistake : Option Line → List (List ℕ) → Line
or_mistake line ws = option_map_or (λ known. known) line (mistake_of ws)

-- what a line of a dialogue asks for: that of a script, or else what scripts do not have, or else what is wrong with it
unfoldable pub dialogue_line_of : List ℕ → Line
dialogue_line_of line = or_mistake (option_or (line_of_words (words line)) (dialogue_of_words (words line))) (words line)

-- ---- framed sessions

-- a line of one word that framed sessions have in their own way: `help` is for a program there
abbrev pub framed_of_one : List ℕ → Option Line
framed_of_one word =
    if bytes_eq word (codes "nodes") then Some Nodes else
    (if bytes_eq word (codes "help") then Some (Help Program) else None)

-- a line of two: `output FROM`, `costs FROM`
abbrev pub from_line_of : (word number : List ℕ) → Option Line
from_line_of word number =
    if bytes_eq word (codes "output") then option_map OutputFrom (number_in 64 number) else
    (if bytes_eq word (codes "costs") then option_map CostsFrom (number_in 64 number) else None)

abbrev pub framed_of_two : (word a : List ℕ) → Option Line
framed_of_two word a = option_or (from_line_of word a) (help_line_of Program word a)

-- `RANK COUNT` behind `go`
abbrev pub go_of : (rank count : List ℕ) → Option Line
go_of rank count = option_and_then (λ r. option_map (λ n. Command (Run r n)) (number_in 64 count)) (number_in 32 rank)

-- a line of three: `go RANK COUNT`
abbrev pub framed_of_three : (word rank count : List ℕ) → Option Line
framed_of_three word rank count = if bytes_eq word (codes "go") then go_of rank count else None

-- a line of these words that framed sessions have in their own way; none for words of no such line
abbrev pub framed_of_words : List (List ℕ) → Option Line
framed_of_words [] = None
framed_of_words (word ∷ []) = framed_of_one word
framed_of_words (word ∷ a ∷ []) = framed_of_two word a
framed_of_words (word ∷ a ∷ b ∷ []) = framed_of_three word a b
framed_of_words (word ∷ a ∷ b ∷ c ∷ more) = None

-- what a line of a framed session asks for: that of a script, or else what framed ones have in their own way, or else that of a dialogue
unfoldable pub framed_line_of : List ℕ → Line
framed_line_of line =
    or_unknown (option_or (option_or (line_of_words (words line)) (framed_of_words (words line))) (dialogue_of_words (words line)))
