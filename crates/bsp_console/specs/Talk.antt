-- What the lines of a session are answered, and what they make of a debugger (own rules).
use Rattle.std.specs.Prelude.{◌≡◌, ℕ, ◌+◌, ◌-◌, ◌==◌, Bool, true, false, not, List, [], ◌∷◌, ◌++◌, length, take, drop, slice_get, nat_lt}
use Rattle.std.specs.Prelude.{codes, if◌then◌else◌, Option, Some, None, is_some}
use Rattle.std.specs.Fmt.{decimal}
use Rattle.std.specs.List.{slice_split, take_while, filter, flat_map, enumerate_from, Any}
use Rattle.std.specs.Option.{option_map_or}
use Rattle.rv_atomics.specs.declared.extensions.Extensions.{Extensions}
use Rattle.node_memory.specs.Bytes.{bytes_at}
use Rattle.node_core.specs.Node.{NodeState}
use Rattle.machine_core.specs.declared.outcome.Outcome.{Outcome}
use Rattle.machine_core.specs.declared.outcome.Outcome.TheVariants.{Ended, NodeStopped, Desync, Refused as refused_exchange}
use Rattle.machine_core.specs.Events.{after}
use Rattle.machine_core.specs.Machine.{MachineState}
use Rattle.bsp_debug.specs.declared.command.Command.{Command as Asked}
use Rattle.bsp_debug.specs.declared.command.Command.TheVariants.{Step}
use Rattle.bsp_debug.specs.declared.error.DebugError.{DebugError}
use Rattle.bsp_debug.specs.declared.error.DebugError.TheVariants.{BadRange, BadRank}
use Rattle.bsp_debug.specs.declared.point.Point.{Point}
use Rattle.bsp_debug.specs.Debugger.{DebuggerState, has_rank, add_fault, remove_fault, command_fault, Makes}
use Rattle.bsp_debug.specs.Kept.{kept_fault, keeping, back_at, without}
use Rattle.bsp_debug.specs.Made.{events_of}
use Rattle.bsp_debug.specs.Points.{is_set, HasAlso, HasNoMore}
use Rattle.bsp_debug.specs.Reply.{Answer, finished, floats, registers}
use Rattle.bsp_debug.specs.Returns.{next_rank, over}
use Rattle.debug_lines.specs.declared.line.Line.{Line}
use Rattle.debug_lines.specs.declared.line.Line.TheVariants.{Break, Clear, Command, Output, Keep, Back, Forget, Kept, Points, Shown, Areas}
use Rattle.debug_lines.specs.declared.line.Line.TheVariants.{Requests, StepNext, Over, Nodes, Place, Places, OutputFrom, CostsFrom, Help}
use Rattle.debug_lines.specs.declared.line.Line.TheVariants.{HelpOn, Quit, Empty, Unknown, Misused, NoLine}
use Rattle.debug_lines.specs.declared.verdict.Verdict.TheVariants.{Done, Kept as KeptAs, Refused}
use Rattle.debug_lines.specs.declared.verdict.Verdict.TheVariants.{BadCommand, Misused as MisusedAs, NoLine as NoLineAs}
use Rattle.debug_lines.specs.declared.form.Form.{Form}
use Rattle.debug_lines.specs.Floats.{named_float_registers}
use Rattle.debug_lines.specs.Framed.{cost_lines_from, place_text, setup_text}
use Rattle.debug_lines.specs.Help.{help_on, help_text}
use Rattle.debug_lines.specs.Kept.{kept_text}
use Rattle.debug_lines.specs.Lines.{line_of, dialogue_line_of, framed_line_of}
use Rattle.debug_lines.specs.Named.{named_registers}
use Rattle.debug_lines.specs.Replies.{reply_text}
use Rattle.debug_lines.specs.Shown.{area_lines, point_lines, request_lines, shown_len, shown_text}
use Rattle.debug_lines.specs.Verdicts.{verdict_text}
use Rattle.debug_lines.specs.Words.{has_bytes}
use Rattle.counted_io.specs.Framed.{framed_text}
use Rattle.bsp_session.specs.declared.job.Job.{Job}

-- a debugger with a point more, if it was not set yet
pub record HasPoint (p : Point) (old new : DebuggerState) : Type 0 where
  pub also : HasAlso p old.points new.points
  pub count : length new.points ≡ length old.points + (if is_set old.points p then 0 else 1)
  pub others : new ≡ record old { points = new.points }

-- a debugger with a point less
pub record LacksPoint (p : Point) (old new : DebuggerState) : Type 0 where
  pub no_more : HasNoMore p old.points new.points
  pub count : length new.points + 1 ≡ length old.points
  pub others : new ≡ record old { points = new.points }

-- where a node of a machine is
abbrev pub place_line : MachineState → NodeState → List ℕ
place_line m n = place_text n.hart.rank n.hart.pc m.exchanges n.state

-- of how many nodes it is told where they are where a run is over (own limit)
abbrev pub most_places : ℕ
most_places = 16

-- that there are more nodes, if there are
abbrev pub more_text : ℕ → List ℕ
more_text count = if count == 0 then [] else codes "and " ++ decimal count ++ codes " more: where shows all\n"

-- where the nodes of the lowest ranks are, and how many more there are
abbrev pub first_places : MachineState → List ℕ
first_places m = flat_map (place_line m) (take most_places m.nodes) ++ more_text (length m.nodes - most_places)

-- where the nodes are where a run is over, if not all of them have ended
abbrev pub places_at : Outcome → MachineState → List ℕ
places_at Ended m = []
places_at (NodeStopped rank state) m = first_places m
places_at (Desync ended synced) m = first_places m
places_at (refused_exchange fault) m = first_places m

-- how the reply of a command is told, which left a machine so
abbrev pub AnswerFormat : Type 0
AnswerFormat = MachineState → Answer → List ℕ

-- to a script or a program
abbrev pub plainly : Job → AnswerFormat
plainly job m reply = reply_text job.ledger job.g job.l reply

-- to a person: the same, but that registers have their names too, and behind the outcome stands where the nodes are
abbrev pub in_person : Job → AnswerFormat
in_person job m (registers rank pc ticks state x) = named_registers rank pc ticks state x
in_person job m (floats rank fcsr f) = named_float_registers rank fcsr f
in_person job m (finished outcome) = reply_text job.ledger job.g job.l (finished outcome) ++ places_at outcome m
in_person job m reply = reply_text job.ledger job.g job.l reply

-- a debugger that did what a command says, and the text of its reply
pub record Replies (tells : AnswerFormat) (c : Asked) (old new : DebuggerState) (text : List ℕ) : Type 0 where
  pub reply : Answer
  pub makes : Makes old.points old.machine c (events_of new.last) reply
  pub machine : new.machine ≡ after old.machine (events_of new.last)
  pub others : new ≡ record old { machine = new.machine; last = new.last }
  pub told : text ≡ tells new.machine reply

-- a debugger that may refuse: where it does not, something is done, and else the refusal is told, and the debugger is as it is then
abbrev pub DoesOrRefuses : Option DebugError → (done : Type 0) → (refused new : DebuggerState) → (text : List ℕ) → Type 0
DoesOrRefuses None done refused new text = done
DoesOrRefuses (Some e) done refused new text = (new ≡ refused) × (text ≡ verdict_text (Refused e))

-- where the node of a rank is, if there is one
abbrev pub place_or_refusal : MachineState → (rank : ℕ) → List ℕ
place_or_refusal m rank = option_map_or (place_line m) (slice_get m.nodes rank) (verdict_text (Refused BadRank))

-- a debugger that did what a command says, and the text of its reply, behind which stands where the node of a rank is then
pub record RepliesThere (tells : AnswerFormat) (rank : ℕ) (c : Asked) (old new : DebuggerState) (text : List ℕ) : Type 0 where
  pub reply : List ℕ
  pub does : Replies tells c old new reply
  pub told : text ≡ reply ++ place_or_refusal new.machine rank

-- and where the command may be refused
abbrev pub DoesThere : AnswerFormat → (rank : ℕ) → Asked → (old : DebuggerState) → (text : List ℕ) → (new : DebuggerState) → Type 0
DoesThere tells rank c old text new =
    DoesOrRefuses (command_fault old.machine c) (RepliesThere tells rank c old new text) (record old { last = [] }) new text

-- what was written, from the byte of a number on, and a line feed, if there are so many bytes
abbrev pub output_or_refusal : MachineState → (from : ℕ) → List ℕ
output_or_refusal m from = if nat_lt (length m.output) from then verdict_text (Refused BadRange) else (drop from m.output ++ codes "\n")

-- what the supersteps cost, from that of a number on, and their total, if there are so many
abbrev pub costs_or_refusal : Job → MachineState → (from : ℕ) → List ℕ
costs_or_refusal job m from =
    if nat_lt (length m.ledger) from then verdict_text (Refused BadRange) else cost_lines_from job.ledger job.g job.l from m.ledger

-- the line of a state that is kept, at its number; none of one that was forgotten
abbrev pub kept_line : ℕ × Option MachineState → List ℕ
kept_line at = option_map_or (λ (m : MachineState). kept_text at.0 m.exchanges m.nodes) at.1 []

-- the states that are kept, a line for each
abbrev pub kept_lines : List (Option MachineState) → List ℕ
kept_lines kept = flat_map kept_line (enumerate_from 0 kept)

-- the extensions that a node has
abbrev pub extensions_of : NodeState → Extensions
extensions_of n = record { float = is_some n.hart.unit; atomic = is_some n.hart.reservation }

-- memory of a node from an address on, in a form that shows so many words, characters or codes, or as many as there are up to the
-- memory's end; if the address lies in it. Instructions of the extensions that the node has have their names
abbrev pub memory_or_refusal : (form : Form) → (extensions : Extensions) → (addr count : ℕ) → (memory : List ℕ) → List ℕ
memory_or_refusal form extensions addr count memory =
    if nat_lt addr (length memory)
    then shown_text form extensions addr count (bytes_at memory addr (shown_len form count (length memory - addr)))
    else verdict_text (Refused BadRange)

-- what is told of the node of a rank, if there is one
abbrev pub of_node_or_refusal : (NodeState → List ℕ) → MachineState → (rank : ℕ) → List ℕ
of_node_or_refusal told m rank = option_map_or told (slice_get m.nodes rank) (verdict_text (Refused BadRank))

abbrev pub shown_or_refusal : MachineState → Form → (rank addr count : ℕ) → List ℕ
shown_or_refusal m form rank addr count =
    of_node_or_refusal (λ (n : NodeState). memory_or_refusal form (extensions_of n) addr count n.hart.memory) m rank

-- whether there is a node of the rank whose memory has the address
abbrev pub has_address : MachineState → (rank addr : ℕ) → Bool
has_address m rank addr = option_map_or (λ (n : NodeState). nat_lt addr (length n.hart.memory)) (slice_get m.nodes rank) false

-- the areas that are in effect
abbrev pub areas_or_refusal : MachineState → (rank : ℕ) → List ℕ
areas_or_refusal m rank = of_node_or_refusal (λ (n : NodeState). area_lines n.hart.communication.registrations.in_effect) m rank

abbrev pub requests_or_refusal : MachineState → (rank : ℕ) → List ℕ
requests_or_refusal m rank = of_node_or_refusal (λ (n : NodeState). request_lines n.hart.communication.requests.requests) m rank

-- what a line is answered where replies are told so: a text, and the debugger after it. A command that is refused has made no event
abbrev pub Answered : AnswerFormat → Job → Line → (old : DebuggerState) → (text : List ℕ) → (new : DebuggerState) → Type 0
Answered tells job (Break p) old text new =
    DoesOrRefuses (add_fault old.points old.machine p) (HasPoint p old new × (text ≡ verdict_text Done)) old new text
Answered tells job (Clear p) old text new =
    DoesOrRefuses (remove_fault old.points p) (LacksPoint p old new × (text ≡ verdict_text Done)) old new text
Answered tells job (Command c) old text new =
    DoesOrRefuses (command_fault old.machine c) (Replies tells c old new text) (record old { last = [] }) new text
Answered tells job Output old text new = (new ≡ old) × (text ≡ old.machine.output ++ codes "\n")
Answered tells job Keep old text new = (new ≡ keeping old) × (text ≡ verdict_text (KeptAs (length old.kept)))
Answered tells job (Back number) old text new =
    DoesOrRefuses (kept_fault old.kept number) ((new ≡ back_at number old) × (text ≡ verdict_text Done)) old new text
Answered tells job (Forget number) old text new =
    DoesOrRefuses (kept_fault old.kept number) ((new ≡ without number old) × (text ≡ verdict_text Done)) old new text
Answered tells job Kept old text new = (new ≡ old) × (text ≡ kept_lines old.kept)
Answered tells job Points old text new = (new ≡ old) × (text ≡ point_lines old.points)
Answered tells job (Shown form rank addr count) old text new = (new ≡ old) × (text ≡ shown_or_refusal old.machine form rank addr count)
Answered tells job (Areas rank) old text new = (new ≡ old) × (text ≡ areas_or_refusal old.machine rank)
Answered tells job (Requests rank) old text new = (new ≡ old) × (text ≡ requests_or_refusal old.machine rank)
Answered tells job StepNext old text new = DoesThere tells (next_rank old.machine) (Step (next_rank old.machine) 1) old text new
Answered tells job (Over rank) old text new = DoesThere tells rank (over old.machine rank) old text new
Answered tells job Nodes old text new = (new ≡ old) × (text ≡ setup_text old.machine.settings job.ledger job.g job.l)
Answered tells job (Place rank) old text new = (new ≡ old) × (text ≡ place_or_refusal old.machine rank)
Answered tells job Places old text new = (new ≡ old) × (text ≡ flat_map (place_line old.machine) old.machine.nodes)
Answered tells job (OutputFrom from) old text new = (new ≡ old) × (text ≡ output_or_refusal old.machine from)
Answered tells job (CostsFrom from) old text new = (new ≡ old) × (text ≡ costs_or_refusal job old.machine from)
Answered tells job (Help audience) old text new = (new ≡ old) × (text ≡ help_text audience)
Answered tells job (HelpOn audience topic) old text new = (new ≡ old) × (text ≡ help_on audience topic)
Answered tells job Quit old text new = (new ≡ old) × (text ≡ [])
Answered tells job Empty old text new = (new ≡ old) × (text ≡ [])
Answered tells job Unknown old text new = (new ≡ old) × (text ≡ verdict_text BadCommand)
Answered tells job (Misused topic) old text new = (new ≡ old) × (text ≡ verdict_text (MisusedAs topic))
Answered tells job NoLine old text new = (new ≡ old) × (text ≡ verdict_text NoLineAs)

-- a line is refused
abbrev pub is_refused : Line → DebuggerState → Bool
is_refused (Break p) d = is_some (add_fault d.points d.machine p)
is_refused (Clear p) d = is_some (remove_fault d.points p)
is_refused (Command c) d = is_some (command_fault d.machine c)
is_refused Output d = false
is_refused Keep d = false
is_refused (Back number) d = is_some (kept_fault d.kept number)
is_refused (Forget number) d = is_some (kept_fault d.kept number)
is_refused Kept d = false
is_refused Points d = false
is_refused (Shown form rank addr count) d = not (has_address d.machine rank addr)
is_refused (Areas rank) d = not (has_rank d.machine rank)
is_refused (Requests rank) d = not (has_rank d.machine rank)
is_refused StepNext d = is_some (command_fault d.machine (Step (next_rank d.machine) 1))
is_refused (Over rank) d = is_some (command_fault d.machine (over d.machine rank))
is_refused Nodes d = false
is_refused (Place rank) d = not (has_rank d.machine rank)
is_refused Places d = false
is_refused (OutputFrom from) d = nat_lt (length d.machine.output) from
is_refused (CostsFrom from) d = nat_lt (length d.machine.ledger) from
is_refused (Help audience) d = false
is_refused (HelpOn audience topic) d = false
is_refused Quit d = false
is_refused Empty d = false
is_refused Unknown d = true
is_refused (Misused topic) d = true
is_refused NoLine d = true

-- what a line is answered in a framed session: its reply behind a header
abbrev pub AnsweredFramed : Job → Line → (old : DebuggerState) → (text : List ℕ) → (new : DebuggerState) → Type 0
AnsweredFramed job line old text new =
    (reply : List ℕ) × Answered (plainly job) job line old reply new × (text ≡ framed_text (is_refused line old) reply)

-- what the bytes of a line may be answered in a session, by the debugger before it and the one after it
abbrev pub Says : Type 1
Says = (line : List ℕ) → (old : DebuggerState) → (text : List ℕ) → (new : DebuggerState) → Type 0

-- in a script
abbrev pub plain : Job → Says
plain job line old text new = Answered (plainly job) job (line_of line) old text new

-- in a dialogue
abbrev pub spoken : Job → Says
spoken job line old text new = Answered (in_person job) job (dialogue_line_of line) old text new

-- in a framed session
abbrev pub framed : Job → Says
framed job line old text new = AnsweredFramed job (framed_line_of line) old text new

-- lines are answered one after another: their texts together, and the debugger after the last of them
abbrev pub Talks : Says → List (List ℕ) → (old : DebuggerState) → (text : List ℕ) → (new : DebuggerState) → Type 0
Talks says [] old text new = (text ≡ []) × (new ≡ old)
Talks says (line ∷ lines) old text new =
    (first rest : List ℕ) × (next : DebuggerState)
    × says line old first next × Talks says lines next rest new × (text ≡ first ++ rest)

-- a line feed
abbrev pub is_line_feed : ℕ → Bool
is_line_feed b = b == 10

-- the lines of a script: what stands between its line feeds. The last one, which no line feed ended, may be empty,
-- and asks for nothing then
abbrev pub lines_of : List ℕ → List (List ℕ)
lines_of script = slice_split is_line_feed script

-- a line ends the session
abbrev pub is_quit : Line → Bool
is_quit Quit = true
is_quit _ = false

-- it does not. `quit` is the same in every session
abbrev pub goes_on : List ℕ → Bool
goes_on line = not (is_quit (line_of line))

-- those of some lines that are answered: the ones before the first `quit`
abbrev pub until_quit : List (List ℕ) → List (List ℕ)
until_quit lines = take_while goes_on lines

-- none of these lines is `quit`
abbrev pub LacksQuit : List (List ℕ) → Type 0
LacksQuit lines = until_quit lines ≡ lines

-- the lines of a script that are answered
abbrev pub answered_lines : List ℕ → List (List ℕ)
answered_lines script = until_quit (lines_of script)

-- the lines of a script that a line feed ended
abbrev pub ended_lines : List ℕ → List (List ℕ)
ended_lines script = take (length (lines_of script) - 1) (lines_of script)

-- the lines of a script as they are given one by one: those that a line feed ended, and what stands behind the last one, if anything does
abbrev pub given_lines : List ℕ → List (List ℕ)
given_lines script = ended_lines script ++ filter has_bytes (drop (length (lines_of script) - 1) (lines_of script))

-- those of them that are answered
abbrev pub answered_one_by_one : List ℕ → List (List ℕ)
answered_one_by_one script = until_quit (given_lines script)

-- a line that a line feed ended is `quit`
abbrev pub HasQuit : List ℕ → Type 0
HasQuit script = Any (λ line. goes_on line ≡ false) (ended_lines script)
