-- Runs of the world: lists of steps with their replies, each of which the ones before it determine. (This project's profile.)
use Rattle.std.specs.Prelude.{◌≡◌, ℕ, Bool, List, take, Some, slice_get}
use Rattle.model_history.specs.History.{HistoryValue}
use Rattle.cert_check.specs.declared.criterion.Criterion.{Criterion}
use Rattle.pattern_check.specs.declared.pattern.Pattern.{Pattern}
use Rattle.live_simulation.specs.declared.step.StepOf.{StepOf}
use Rattle.live_simulation.specs.declared.reply.ReplyOf.{ReplyOf}
use Rattle.live_simulation.specs.Happened.{events}
use Rattle.live_simulation.specs.LaneReplies.{IsLaneReply}
use Rattle.live_simulation.specs.BoardReplies.{IsBoardReply}

-- a step with its reply
abbrev pub Replied : Type 0 → Type 0 → Type 0 → Type 0
Replied S C R = StepOf C R × ReplyOf (HistoryValue S C R)

module _ {S C R : Type 0} (fits : C → R → Bool) (answer : S → List C → C → R) (passes : HistoryValue S C R → Criterion → Pattern → Type 0) (start : S) (k : ℕ) where
  -- the reply of a step, where these were the steps before
  abbrev pub IsReply : List (StepOf C R × ReplyOf (HistoryValue S C R)) → StepOf C R → ReplyOf (HistoryValue S C R) → Type 0
  IsReply es step reply = IsLaneReply fits start k (events es) step reply × IsBoardReply answer passes start k es step reply

  -- a run of k sessions that started here
  abbrev pub IsRun : List (StepOf C R × ReplyOf (HistoryValue S C R)) → Type 0
  IsRun es = (i : ℕ) (step : StepOf C R) (reply : ReplyOf (HistoryValue S C R)) → slice_get es i ≡ Some (step, reply) → IsReply (take i es) step reply
