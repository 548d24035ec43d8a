-- The events that a command made, those of one rank in a row as one entry with their number.
use Rattle.std.specs.Prelude.{◌≢◌, ◌<◌, List, [], ◌∷◌, replicate}
use Rattle.std.specs.List.{flat_map}
use Rattle.machine_core.specs.declared.event.Event.{Event}
use Rattle.machine_core.specs.declared.event.Event.TheVariants as event
use Rattle.bsp_debug.specs.declared.made.Made.{Made}
use Rattle.bsp_debug.specs.declared.made.Made.TheVariants.{Steps, Turn}

-- the events that an entry stands for
abbrev pub events_of_entry : Made → List Event
events_of_entry (Steps rank count) = replicate count (event.Step rank)
events_of_entry Turn = event.Turn ∷ []

-- the events that entries stand for, one after another
abbrev pub events_of : List Made → List Event
events_of entries = flat_map events_of_entry entries

-- an entry stands for an event at least
abbrev pub StandsForSome : Made → Type 0
StandsForSome (Steps rank count) = 0 < count
StandsForSome Turn = Unit {0}

-- an entry is not one of steps of the same rank as the first of those that follow it
abbrev pub IsApart : Made → List Made → Type 0
IsApart (Steps rank count) (Steps next more ∷ entries) = rank ≢ next
IsApart (Steps rank count) (Turn ∷ entries) = Unit {0}
IsApart (Steps rank count) [] = Unit {0}
IsApart Turn entries = Unit {0}

-- entries as few as they can be for their events: none is empty, and no two neighbours are of steps of one rank
abbrev pub AreFew : List Made → Type 0
AreFew [] = Unit {0}
AreFew (entry ∷ entries) = StandsForSome entry × IsApart entry entries × AreFew entries
