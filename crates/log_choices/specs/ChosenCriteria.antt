-- What a log with null reads meets.
use Rattle.std.specs.Prelude.{Bool, List}
use Rattle.order_memory.specs.Memory.{memory_answer}
use Rattle.cert_check.specs.declared.criterion.Criterion.{Criterion}
use Rattle.cert_check.specs.Criteria.{Meets}
use Rattle.log_events.specs.declared.event.Event.{Event}
use Rattle.log_choices.specs.Choices.{Choice, IsChoice, IsWhole}
use Rattle.log_choices.specs.ChosenHistories.{history_by}

-- by a whole choice the history of the log meets the criterion
pub record MeetsBy (in_time : Bool) (es : List Event) (f : Choice) (criterion : Criterion) : Type 0 where
  pub choice : IsChoice in_time es f
  pub whole : IsWhole es f
  pub met : Meets memory_answer (history_by es f) criterion

-- the log meets the criterion: by some choice its history does
abbrev pub LogMeets : Bool → List Event → Criterion → Type 0
LogMeets in_time es criterion = (f : Choice) × MeetsBy in_time es f criterion

-- it does not: by no choice its history does
abbrev pub IsLogNo : Bool → List Event → Criterion → Type 0
IsLogNo in_time es criterion = (f : Choice) → ¬ MeetsBy in_time es f criterion
