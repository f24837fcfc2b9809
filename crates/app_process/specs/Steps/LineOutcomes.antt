-- What is said once lines were judged.
use Rattle.std.specs.Prelude.{◌≡◌, ℕ, List, MatchResult, Option, Result}
use Rattle.json_lines.specs.declared.outcome.Outcome.{Outcome}
use Rattle.json_lines.specs.Outcomes.{status_of_outcome}
use Rattle.app_engine.specs.declared.failure.RunError.{RunError}
use Rattle.app_process.specs.declared.noticing.Noticed.{Noticed}
use Rattle.app_process.specs.Failing.{Tells}
use Rattle.app_process.specs.Saying.{Known}
use Rattle.app_process.specs.Steps.Noticing.{SaysNoticed}

-- what was noticed of the lines is said, or why they have no answer
abbrev pub SaysOutcome : Option (List ℕ) → Noticed → Result Outcome RunError → Known → Known → ℕ → Type 0
SaysOutcome label noticed outcome before after status =
    MatchResult outcome (λ found. (status ≡ status_of_outcome found) × SaysNoticed label noticed before after) (λ error. Tells label error before after status)
