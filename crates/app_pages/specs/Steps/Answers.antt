-- What is answered to a log.
use Rattle.std.specs.Prelude.{ℕ, List}
use Rattle.app_orders.specs.declared.log_order.LogOrder.{LogOrder}
use Rattle.json_lines.specs.declared.outcome.Outcome.{Outcome}
use Rattle.log_reader.specs.Logs.{Log}
use Rattle.log_choices.specs.declared.seen.Seen.{Seen}
use Rattle.app_logs.specs.LogAnswers.{IsLogAnswerBy}

-- the text answers a log by what its null reads saw, whatever comes of it
abbrev pub IsAnswerTo : List (ℕ × Seen) → LogOrder → Log → List ℕ → Type 0
IsAnswerTo saw order log text = (outcome : Outcome) × IsLogAnswerBy saw order log text outcome
