-- What is decided of a text. (This project's profile.)
use Rattle.std.specs.Prelude.{ℕ, List}
use Rattle.cert_check.specs.declared.criterion.Criterion.{Criterion}
use Rattle.judge_decision.specs.Decisions.{IsDecided, decision_for}
use Rattle.judge_decision.specs.declared.deciding_limited.Decisions.{Decisions}
use Rattle.order_memory.specs.Memory.{MemoryHistory}
use Rattle.json_histories.specs.AnyForm.{form_of, IsJson}
use Rattle.json_histories.specs.declared.any_history.AnyHistory.TheVariants as histories

-- the text is the form of a history of a memory, and the decisions are those of this history
pub record AreDecidedOf (text : List ℕ) (all : Decisions) : Type 0 where
  pub history : MemoryHistory
  pub form : IsJson text (form_of (histories.Memory history))
  pub each : (criterion : Criterion) → IsDecided history criterion (decision_for all criterion)
