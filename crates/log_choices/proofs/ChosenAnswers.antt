-- What follows for a log from its history without null reads, and from the order of time.
use Rattle.std.proofs.Common.{◌≡◌, ℕ, true, false, Bool, List, sym, subst}
use Rattle.std.specs.Prelude.{Option, Some, None}
use Rattle.order_memory.specs.Memory.{MemoryHistory, memory_answer}
use Rattle.cert_check.specs.declared.criterion.Criterion.{Criterion}
use Rattle.cert_check.specs.Criteria.{Meets}
use Rattle.log_events.specs.declared.event.Event.{Event}
use Rattle.log_events.specs.Events.{IsAllowed}
use Rattle.log_events.specs.Histories.{history_of}
use Rattle.log_choices.specs.Choices.{IsCandidate, leaves_out}
use Rattle.log_choices.specs.ChosenCriteria.{LogMeets, IsLogNo}
use Rattle.log_choices.proofs.ChosenShapes.{left_out-same}
use Rattle.log_choices.proofs.ForcedHistories.{part-meets}

-- a no of the history without null reads is a no of the log
pub left_out-no : (in_time : Bool) (es : List Event) → IsAllowed es → (criterion : Criterion) → ¬ Meets memory_answer (history_of es) criterion
    → IsLogNo in_time es criterion
left_out-no in_time es allowed criterion unmet f by =
    unmet (subst (λ (h : MemoryHistory). Meets memory_answer h criterion) (sym (left_out-same es))
    (part-meets es leaves_out f allowed (λ client x i j c null none. absurd cc) criterion by.met))

-- what is a candidate in the order of time is one without it
untimed : (es : List Event) (x j : ℕ) (c : Option ℕ) → IsCandidate true es x j c → IsCandidate false es x j c
untimed es x j None none = none
untimed es x j (Some p) (kept, _) = (kept, λ wrong. let no : false ≡ true = wrong in absurd cc)

pub untimed-meets : (es : List Event) (criterion : Criterion) → LogMeets true es criterion → LogMeets false es criterion
untimed-meets es criterion (f, by) = (
  f,
  record {
    choice = λ client x i j c null some. untimed es x j c (by.choice client x i j c null some);
    whole = by.whole;
    met = by.met;
  },
)
