-- The lines of a dialogue and of a framed session by their first words: how each is spelled, and what it does (own texts).
use Rattle.std.specs.Prelude.{ℕ, List, [], ◌∷◌, Option, Some, None, find, codes}
use Rattle.std.specs.Str.{bytes_eq}
use Rattle.debug_lines.specs.declared.topic.Sessions.{Sessions}
use Rattle.debug_lines.specs.declared.topic.Sessions.TheVariants.{Both, Dialogues, Framed}
use Rattle.debug_lines.specs.declared.topic.Topic.{Topic}
use Rattle.debug_lines.specs.declared.topic.Topic.TheVariants.{Break, Clear, Points, Go, Step, Over, Phase, Turn, Where, Regs, Fregs, Codes}
use Rattle.debug_lines.specs.declared.topic.Topic.TheVariants.{Bytes, Words, Text, Areas, Requests, Queue, Keep, Kept, Back, Forget, Costs}
use Rattle.debug_lines.specs.declared.topic.Topic.TheVariants.{Output, Nodes, Help, Quit}

-- all of them, in the order in which they are told
unfoldable pub topics : List Topic
topics =
    Break ∷ Clear ∷ Points ∷ Go ∷ Step ∷ Over ∷ Phase ∷ Turn ∷ Where ∷ Regs ∷ Fregs ∷ Codes ∷ Bytes ∷ Words ∷ Text ∷ Areas ∷ Requests
    ∷ Queue
    ∷ Keep ∷ Kept ∷ Back ∷ Forget ∷ Costs ∷ Output ∷ Nodes ∷ Help ∷ Quit ∷ []

-- the first word of its lines
abbrev pub topic_name : Topic → List ℕ
topic_name Break = codes "break"
topic_name Clear = codes "clear"
topic_name Points = codes "points"
topic_name Go = codes "go"
topic_name Step = codes "step"
topic_name Over = codes "over"
topic_name Phase = codes "phase"
topic_name Turn = codes "turn"
topic_name Where = codes "where"
topic_name Regs = codes "regs"
topic_name Fregs = codes "fregs"
topic_name Codes = codes "list"
topic_name Bytes = codes "bytes"
topic_name Words = codes "words"
topic_name Text = codes "text"
topic_name Areas = codes "areas"
topic_name Requests = codes "requests"
topic_name Queue = codes "queue"
topic_name Keep = codes "keep"
topic_name Kept = codes "kept"
topic_name Back = codes "back"
topic_name Forget = codes "forget"
topic_name Costs = codes "costs"
topic_name Output = codes "output"
topic_name Nodes = codes "nodes"
topic_name Help = codes "help"
topic_name Quit = codes "quit"

-- a form of the lines with one first word: what stands behind that word, where operands are in capitals, and what can be left out is in
-- brackets; what a line of the form does; and the sessions that have it
pub record LineForm : Type 0 where
  pub operands : List ℕ
  pub purpose : List ℕ
  pub sessions : Sessions

abbrev pub in_both : (operands purpose : List ℕ) → LineForm
in_both operands purpose = record { operands = operands; purpose = purpose; sessions = Both }

abbrev pub in_dialogues : (operands purpose : List ℕ) → LineForm
in_dialogues operands purpose = record { operands = operands; purpose = purpose; sessions = Dialogues }

abbrev pub in_framed : (operands purpose : List ℕ) → LineForm
in_framed operands purpose = record { operands = operands; purpose = purpose; sessions = Framed }

-- the form of its lines, or the first of two
abbrev pub first_form : Topic → LineForm
first_form Break = in_both (codes "RANK ADDR") (codes "sets a point, at which go stops")
first_form Clear = in_both (codes "RANK ADDR") (codes "removes a point")
first_form Points = in_both [] (codes "the points that are set")
first_form Go = in_both [] (codes "runs on to a point or to the outcome")
first_form Step = in_both [] (codes "the next instruction of all")
first_form Over = in_both (codes "RANK") (codes "an instruction of a rank, with all of a function that it calls")
first_form Phase = in_both [] (codes "runs every rank until it stops by itself")
first_form Turn = in_both [] (codes "ends the superstep, if no rank runs any more")
first_form Where = in_both (codes "[RANK]") (codes "where the ranks are, or one")
first_form Regs = in_both (codes "RANK") (codes "the registers of a rank")
first_form Fregs = in_both (codes "RANK") (codes "the floating-point registers of a rank, and fcsr")
first_form Codes = in_both (codes "RANK ADDR N") (codes "N instructions from ADDR on")
first_form Bytes = in_both (codes "RANK ADDR LEN") (codes "LEN bytes of memory")
first_form Words = in_both (codes "RANK ADDR N") (codes "N words of four bytes")
first_form Text = in_both (codes "RANK ADDR N") (codes "the text there, up to its end or to N bytes")
first_form Areas = in_both (codes "RANK") (codes "the areas that a rank has registered")
first_form Requests = in_both (codes "RANK") (codes "what a rank has asked for in this superstep")
first_form Queue = in_both (codes "RANK") (codes "the messages that a rank has received and not moved yet")
first_form Keep = in_both [] (codes "keeps the state under the next number")
first_form Kept = in_both [] (codes "the states that are kept")
first_form Back = in_both (codes "N") (codes "goes back to a state that is kept")
first_form Forget = in_both (codes "N") (codes "drops a kept state")
first_form Costs = in_dialogues [] (codes "what the supersteps that are over cost")
first_form Output = in_dialogues [] (codes "what was written in the supersteps that are over")
first_form Nodes = in_framed [] (codes "how many ranks there are, and the other settings")
first_form Help = in_both (codes "[LINE]") (codes "all lines, or one")
first_form Quit = in_both [] (codes "ends the session")

-- the other of two, which framed sessions have
abbrev pub other_form : Topic → Option LineForm
other_form Break = Some (in_both (codes "superstep K") (first_form Break).purpose)
other_form Clear = Some (in_both (codes "superstep K") (first_form Clear).purpose)
other_form Go = Some (in_framed (codes "RANK COUNT") (codes "a rank alone, by COUNT steps at most"))
other_form Step = Some (in_both (codes "RANK [COUNT]") (codes "COUNT of a rank, or one"))
other_form Costs = Some (in_framed (codes "[FROM]") (first_form Costs).purpose)
other_form Output = Some (in_framed (codes "[FROM]") (first_form Output).purpose)
other_form _ = None

-- the lines with a first word, if there are any
unfoldable pub topic_named : List ℕ → Option Topic
topic_named word = find (λ topic. bytes_eq (topic_name topic) word) topics
