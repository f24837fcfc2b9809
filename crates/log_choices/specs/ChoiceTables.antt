-- The choice that a table makes: of places of begins of null reads, in order, each with what the read saw.
use Rattle.std.specs.Prelude.{ℕ, List, Option, Some, None, option_map}
use Rattle.model_objects.specs.Table.{value_at}
use Rattle.log_choices.specs.declared.seen.Seen.{Seen}
use Rattle.log_choices.specs.declared.seen.Seen.TheVariants.{Start, Delete}
use Rattle.log_choices.specs.Choices.{Choice}

-- the start, or the delete that began at a place
abbrev pub seen_of : Seen → Option ℕ
seen_of Start = None
seen_of (Delete p) = Some p

-- a read at a place that the table does not have is left out
abbrev pub choice_in : List (ℕ × Seen) → Choice
choice_in entries place = option_map seen_of (value_at entries place)
