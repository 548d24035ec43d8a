-- What is told of the lines (own texts): to a person in a text, and to a program in a table.
use Rattle.std.specs.Prelude.{ℕ, ◌==◌, List, [], ◌++◌, length, if◌then◌else◌, Option, Some, None, codes}
use Rattle.std.specs.List.{flat_map}
use Rattle.std.specs.Option.{option_map_or}
use Rattle.std.specs.Str.{bytes_eq}
use Rattle.debug_lines.specs.declared.help.Audience.{Audience}
use Rattle.debug_lines.specs.declared.help.Audience.TheVariants.{Person, Program}
use Rattle.debug_lines.specs.declared.topic.Sessions.{Sessions}
use Rattle.debug_lines.specs.declared.topic.Sessions.TheVariants.{Dialogues, Framed}
use Rattle.debug_lines.specs.declared.topic.Topic.{Topic}
use Rattle.debug_lines.specs.Topics.{LineForm, first_form, other_form, topic_name, topics}

-- ---- to a person: a line for each first word, with both of its forms

-- what stands before operands, if there are any
abbrev pub gap : (operands : List ℕ) → List ℕ
gap operands = if length operands == 0 then [] else codes " "

-- a line of a form
abbrev pub spelled : Topic → LineForm → List ℕ
spelled topic form = topic_name topic ++ gap form.operands ++ form.operands

-- what is told behind the first form, if only framed sessions have that
abbrev pub alone_note : Sessions → List ℕ
alone_note Framed = codes ", with --framed alone"
alone_note _ = []

-- what is told before the other form
abbrev pub joint : Sessions → List ℕ
joint Framed = codes ", or with --framed "
joint _ = codes ", or "

abbrev pub other_usage : Topic → Option LineForm → List ℕ
other_usage topic None = []
other_usage topic (Some form) = joint form.sessions ++ spelled topic form

-- how its lines are spelled
abbrev pub usage : Topic → List ℕ
usage topic =
    spelled topic (first_form topic) ++ alone_note (first_form topic).sessions ++ other_usage topic (other_form topic)

-- what the lines of the other form do, if that is something else
abbrev pub other_purpose : (first : List ℕ) → Option LineForm → List ℕ
other_purpose first None = []
other_purpose first (Some form) = if bytes_eq form.purpose first then [] else codes "; " ++ form.purpose

-- what its lines do
abbrev pub purpose : Topic → List ℕ
purpose topic = (first_form topic).purpose ++ other_purpose (first_form topic).purpose (other_form topic)

-- what is told of them in a line
abbrev pub help_line : Topic → List ℕ
help_line topic = usage topic ++ codes ": " ++ purpose topic ++ codes "\n"

-- ---- to a program: a table, with a row for each form that framed sessions have

-- the row of a form: the first word of its lines, what stands behind that, and what they do, with a tab between two of them
abbrev pub form_row : Topic → LineForm → List ℕ
form_row topic form = topic_name topic ++ codes "\t" ++ form.operands ++ codes "\t" ++ form.purpose ++ codes "\n"

-- a row of a form, if framed sessions have it
abbrev pub in_table : Sessions → (row : List ℕ) → List ℕ
in_table Dialogues row = []
in_table _ row = row

abbrev pub framed_row : Topic → LineForm → List ℕ
framed_row topic form = in_table form.sessions (form_row topic form)

-- the rows of the lines with a first word
abbrev pub help_rows : Topic → List ℕ
help_rows topic = framed_row topic (first_form topic) ++ option_map_or (framed_row topic) (other_form topic) []

-- ---- to both

-- what is told of the lines with a first word
abbrev pub help_on : Audience → Topic → List ℕ
help_on Person topic = help_line topic
help_on Program topic = help_rows topic

-- and of all lines
abbrev pub help_text : Audience → List ℕ
help_text audience = flat_map (help_on audience) topics
