-- `quit` is the same in every manner.
use Rattle.std.proofs.Common.{◌≡◌, ℕ, Bool, true, false, List, [], ◌∷◌, Option, Some, None, cond, option_map}
use Rattle.std.specs.Prelude.{bytes_eq, codes}
use Rattle.std.specs.Option.{option_and_then, option_map_or, option_or}
use Rattle.bsp_debug.specs.declared.command.Command.TheVariants.{Step, Run}
use Rattle.debug_lines.specs.declared.form.Form.{Form}
use Rattle.debug_lines.specs.declared.help.Audience.{Audience}
use Rattle.debug_lines.specs.declared.help.Audience.TheVariants.{Person, Program}
use Rattle.debug_lines.specs.declared.topic.Topic.{Topic}
use Rattle.debug_lines.specs.declared.line.Line.{Line}
use Rattle.debug_lines.specs.declared.line.Line.TheVariants.{Command, Keep, Back, Forget, Kept, Points, Shown, Areas, Requests, StepNext}
use Rattle.debug_lines.specs.declared.line.Line.TheVariants.{Over, Nodes, Place, Places, OutputFrom, CostsFrom, Help, HelpOn, Quit, Misused}
use Rattle.debug_lines.specs.declared.line.Line.TheVariants.{NoLine}
use Rattle.debug_lines.specs.Lines.{asks_help, line_of, line_of_words, dialogue_line_of, dialogue_of_words, form_named, framed_line_of}
use Rattle.debug_lines.specs.Lines.{framed_of_words, from_line_of, help_line_of, mistake_of, or_mistake, or_unknown, rank_line_of}
use Rattle.debug_lines.specs.Lines.{state_line_of}
use Rattle.numerals.specs.Numbers.{number_in}
use Rattle.debug_lines.specs.Topics.{topic_named}
use Rattle.debug_lines.specs.Words.{words}
use Rattle.bsp_console.specs.declared.manner.Manner.{Manner}
use Rattle.bsp_console.specs.declared.manner.Manner.TheVariants.{Script, Dialogue, Framed}
use Rattle.bsp_console.specs.Dialogue.{line_in}

mapped-no_quit : (f : ℕ → Line) → ((n : ℕ) → f n ≡ Quit → ⊥) → (n : Option ℕ) → or_unknown (option_map f n) ≡ Quit → ⊥
mapped-no_quit f each (Some n) e = each n e
mapped-no_quit f each None e = cc

-- of two that are not, none is the first of them that there is
either-no_quit : (one other : Option Line) → (or_unknown one ≡ Quit → ⊥) → (or_unknown other ≡ Quit → ⊥)
    → or_unknown (option_or one other) ≡ Quit → ⊥
either-no_quit (Some l) other never none e = never e
either-no_quit None other never none e = none e

-- no line that scripts do not have is `quit`
dialogue_one-no_quit : (keep kept where_all points help step : Bool)
    → or_unknown
    (cond keep (Some Keep) (cond kept (Some Kept) (cond where_all (Some Places) (cond points (Some Points) (cond help (Some (Help Person))
    (cond step (Some StepNext) None)))))) ≡ Quit → ⊥
dialogue_one-no_quit true k w p h s e = cc
dialogue_one-no_quit false true w p h s e = cc
dialogue_one-no_quit false false true p h s e = cc
dialogue_one-no_quit false false false true h s e = cc
dialogue_one-no_quit false false false false true s e = cc
dialogue_one-no_quit false false false false false true e = cc
dialogue_one-no_quit false false false false false false e = cc

state_line-no_quit : (back forget : Bool) (wide : Option ℕ)
    → or_unknown (cond back (option_map Back wide) (cond forget (option_map Forget wide) None)) ≡ Quit → ⊥
state_line-no_quit true forget wide e = mapped-no_quit Back (λ n is. cc) wide e
state_line-no_quit false true wide e = mapped-no_quit Forget (λ n is. cc) wide e
state_line-no_quit false false wide e = cc

rank_line-no_quit : (place areas requests over step : Bool) (narrow : Option ℕ)
    → or_unknown (cond place (option_map Place narrow) (cond areas (option_map Areas narrow) (cond requests (option_map Requests narrow)
    (cond over (option_map Over narrow) (cond step (option_map (λ r. Command (Step r 1)) narrow) None))))) ≡ Quit → ⊥
rank_line-no_quit true areas requests over step narrow e = mapped-no_quit Place (λ n is. cc) narrow e
rank_line-no_quit false true requests over step narrow e = mapped-no_quit Areas (λ n is. cc) narrow e
rank_line-no_quit false false true over step narrow e = mapped-no_quit Requests (λ n is. cc) narrow e
rank_line-no_quit false false false true step narrow e = mapped-no_quit Over (λ n is. cc) narrow e
rank_line-no_quit false false false false true narrow e = mapped-no_quit (λ r. Command (Step r 1)) (λ n is. cc) narrow e
rank_line-no_quit false false false false false narrow e = cc

help_line-no_quit : (audience : Audience) (help : Bool) (topic : Option Topic)
    → or_unknown (cond help (option_map (HelpOn audience) topic) None) ≡ Quit → ⊥
help_line-no_quit audience true (Some t) e = cc
help_line-no_quit audience true None e = cc
help_line-no_quit audience false topic e = cc

shown-no_quit : (form : Option Form) (rank addr count : Option ℕ)
    → or_unknown
    (option_and_then (λ f. option_and_then (λ r. option_and_then (λ at. option_map (λ n. Shown f r at n) count) addr) rank) form) ≡ Quit
    → ⊥
shown-no_quit None rank addr count e = cc
shown-no_quit (Some f) None addr count e = cc
shown-no_quit (Some f) (Some r) None count e = cc
shown-no_quit (Some f) (Some r) (Some at) None e = cc
shown-no_quit (Some f) (Some r) (Some at) (Some n) e = cc

dialogue-no_quit : (ws : List (List ℕ)) → or_unknown (dialogue_of_words ws) ≡ Quit → ⊥
dialogue-no_quit [] e = cc
dialogue-no_quit (word ∷ []) e =
    dialogue_one-no_quit (bytes_eq word (codes "keep")) (bytes_eq word (codes "kept")) (bytes_eq word (codes "where"))
    (bytes_eq word (codes "points")) (bytes_eq word (codes "help"))
    (bytes_eq word (codes "step")) e
dialogue-no_quit (word ∷ a ∷ []) e =
    either-no_quit (state_line_of word a) (option_or (rank_line_of word a) (help_line_of Person word a))
    (state_line-no_quit (bytes_eq word (codes "back")) (bytes_eq word (codes "forget")) (number_in 64 a))
    (either-no_quit (rank_line_of word a) (help_line_of Person word a)
    (rank_line-no_quit (bytes_eq word (codes "where")) (bytes_eq word (codes "areas")) (bytes_eq word (codes "requests"))
    (bytes_eq word (codes "over"))
    (bytes_eq word (codes "step")) (number_in 32 a))
    (help_line-no_quit Person (bytes_eq word (codes "help")) (topic_named a)))
    e
dialogue-no_quit (word ∷ a ∷ b ∷ []) e = cc
dialogue-no_quit (word ∷ a ∷ b ∷ c ∷ []) e = shown-no_quit (form_named word) (number_in 32 a) (number_in 32 b) (number_in 32 c) e
dialogue-no_quit (word ∷ a ∷ b ∷ c ∷ d ∷ more) e = cc

-- nor is a mistake
topic-no_quit : (topic : Option Topic) → option_map_or Misused topic NoLine ≡ Quit → ⊥
topic-no_quit (Some t) e = cc
topic-no_quit None e = cc

first_word-no_quit : (helps : Bool) (topic : Option Topic) → cond helps NoLine (option_map_or Misused topic NoLine) ≡ Quit → ⊥
first_word-no_quit true topic e = cc
first_word-no_quit false topic e = topic-no_quit topic e

mistake-no_quit : (ws : List (List ℕ)) → mistake_of ws ≡ Quit → ⊥
mistake-no_quit [] e = cc
mistake-no_quit (word ∷ others) e = first_word-no_quit (asks_help word others) (topic_named word) e

told-plain : (known : Option Line) (ws : List (List ℕ)) → or_mistake known ws ≡ Quit → or_unknown known ≡ Quit
told-plain (Some l) ws quits = quits
told-plain None ws quits = absurd (mistake-no_quit ws quits)

told-any : (known : Option Line) (ws : List (List ℕ)) → or_unknown known ≡ Quit → or_mistake known ws ≡ Quit
told-any (Some l) ws quits = quits
told-any None ws quits = absurd cc

-- nor is one that framed sessions have in their own way
framed_one-no_quit : (nodes help : Bool) → or_unknown (cond nodes (Some Nodes) (cond help (Some (Help Program)) None)) ≡ Quit → ⊥
framed_one-no_quit true help e = cc
framed_one-no_quit false true e = cc
framed_one-no_quit false false e = cc

from_line-no_quit : (output costs : Bool) (wide : Option ℕ)
    → or_unknown (cond output (option_map OutputFrom wide) (cond costs (option_map CostsFrom wide) None)) ≡ Quit → ⊥
from_line-no_quit true costs wide e = mapped-no_quit OutputFrom (λ n is. cc) wide e
from_line-no_quit false true wide e = mapped-no_quit CostsFrom (λ n is. cc) wide e
from_line-no_quit false false wide e = cc

framed_three-no_quit : (go : Bool) (rank count : Option ℕ)
    → or_unknown (cond go (option_and_then (λ r. option_map (λ n. Command (Run r n)) count) rank) None) ≡ Quit → ⊥
framed_three-no_quit true None count e = cc
framed_three-no_quit true (Some r) None e = cc
framed_three-no_quit true (Some r) (Some n) e = cc
framed_three-no_quit false rank count e = cc

framed-no_quit : (ws : List (List ℕ)) → or_unknown (framed_of_words ws) ≡ Quit → ⊥
framed-no_quit [] e = cc
framed-no_quit (word ∷ []) e = framed_one-no_quit (bytes_eq word (codes "nodes")) (bytes_eq word (codes "help")) e
framed-no_quit (word ∷ a ∷ []) e =
    either-no_quit (from_line_of word a) (help_line_of Program word a)
    (from_line-no_quit (bytes_eq word (codes "output")) (bytes_eq word (codes "costs")) (number_in 64 a))
    (help_line-no_quit Program (bytes_eq word (codes "help")) (topic_named a))
    e
framed-no_quit (word ∷ a ∷ b ∷ []) e = framed_three-no_quit (bytes_eq word (codes "go")) (number_in 32 a) (number_in 64 b) e
framed-no_quit (word ∷ a ∷ b ∷ c ∷ more) e = cc

or-plain : (known more : Option Line) → (or_unknown more ≡ Quit → ⊥) → or_unknown (option_or known more) ≡ Quit → or_unknown known ≡ Quit
or-plain (Some l) more never quits = quits
or-plain None more never quits = absurd (never quits)

or-any : (known more : Option Line) → or_unknown known ≡ Quit → or_unknown (option_or known more) ≡ Quit
or-any (Some l) more quits = quits
or-any None more quits = absurd cc

pub quit_in-plain : (manner : Manner) (line : List ℕ) → line_in manner line ≡ Quit → line_of line ≡ Quit
unfolding line_of dialogue_line_of framed_line_of
quit_in-plain Script line quits = quits
quit_in-plain Dialogue line quits =
    or-plain (line_of_words (words line)) (dialogue_of_words (words line)) (dialogue-no_quit (words line))
    (told-plain (option_or (line_of_words (words line)) (dialogue_of_words (words line))) (words line) quits)
quit_in-plain Framed line quits =
    or-plain (line_of_words (words line)) (framed_of_words (words line)) (framed-no_quit (words line))
    (or-plain (option_or (line_of_words (words line)) (framed_of_words (words line))) (dialogue_of_words (words line))
    (dialogue-no_quit (words line)) quits)

pub quit_in-any : (manner : Manner) (line : List ℕ) → line_of line ≡ Quit → line_in manner line ≡ Quit
unfolding line_of dialogue_line_of framed_line_of
quit_in-any Script line quits = quits
quit_in-any Dialogue line quits =
    told-any (option_or (line_of_words (words line)) (dialogue_of_words (words line))) (words line)
    (or-any (line_of_words (words line)) (dialogue_of_words (words line)) quits)
quit_in-any Framed line quits =
    or-any (option_or (line_of_words (words line)) (framed_of_words (words line))) (dialogue_of_words (words line))
    (or-any (line_of_words (words line)) (framed_of_words (words line)) quits)
