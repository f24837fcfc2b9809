-- What comes of answers.
use Rattle.std.specs.Prelude.{ℕ}
use Rattle.json_lines.specs.declared.outcome.Outcome.{Outcome}
use Rattle.json_lines.specs.declared.outcome.Outcome.TheVariants.{Met, Unknown, Excluded, Refused}

-- what comes of two answers: what is refused counts most, then what is excluded, then what is unknown
abbrev pub worse : Outcome → Outcome → Outcome
worse Met other = other
worse Unknown Met = Unknown
worse Unknown other = other
worse Excluded Refused = Refused
worse Excluded other = Excluded
worse Refused other = Refused

-- the exit status by what comes of a run
abbrev pub status_of_outcome : Outcome → ℕ
status_of_outcome Met = 0
status_of_outcome Refused = 1
status_of_outcome Excluded = 5
status_of_outcome Unknown = 6
