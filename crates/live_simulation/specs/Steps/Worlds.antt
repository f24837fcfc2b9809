-- A running world: its sessions and sealers, and its cases.
use Rattle.std.specs.Prelude.{◌≡◌, ℕ, Bool, List, [], ◌∷◌, ◌++◌, Option}
use Rattle.model_history.specs.History.{HistoryValue}
use Rattle.cert_check.specs.declared.criterion.Criterion.{Criterion}
use Rattle.pattern_check.specs.declared.pattern.Pattern.{Pattern}
use Rattle.live_simulation.specs.declared.step.StepOf.{StepOf}
use Rattle.live_simulation.specs.declared.reply.ReplyOf.{ReplyOf}
use Rattle.live_simulation.specs.Happened.{events}
use Rattle.live_simulation.specs.LaneReplies.{seal}
use Rattle.live_simulation.specs.Runs.{IsReply}
use Rattle.live_simulation.specs.Steps.Recordings.{State, Shows}
use Rattle.live_simulation.specs.Steps.KeptCases.{CasesState, ShowsCases}
use Rattle.live_seals.specs.Runs.{Event}

-- what is sealed by a sealer, from all that may have happened where this is the state
abbrev pub IsSealIn : {S C R : Type 0} → State S C R → ℕ → Option (HistoryValue S C R) → Type 0
IsSealIn {S} {C} {R} w z h = (start : S) (k : ℕ) (es : List (Event C R)) → Shows start k es w → seal start k es z ≡ h

-- the state is the one behind these steps
pub record ShowsWorld {S C R : Type 0} (answer : S → List C → C → R) (start : S) (k : ℕ) (es : List (StepOf C R × ReplyOf (HistoryValue S C R))) (recording : State S C R) (cases : CasesState S C R) : Type 0 where
  pub lanes : Shows start k (events es) recording
  pub board : ShowsCases answer start k es cases

module _ {S C R : Type 0} (fits : C → R → Bool) (answer : S → List C → C → R) (passes : HistoryValue S C R → Criterion → Pattern → Type 0) where
  -- from all steps that may have been taken where these were the old states, the reply is that of the step, and the new states
  -- are those behind it
  abbrev pub StepsTo : StepOf C R → State S C R → CasesState S C R → ReplyOf (HistoryValue S C R) → State S C R → CasesState S C R → Type 0
  StepsTo step recording cases reply recording' cases' =
      (start : S) (k : ℕ) (es : List (StepOf C R × ReplyOf (HistoryValue S C R))) → ShowsWorld answer start k es recording cases
      → IsReply fits answer passes start k es step reply × ShowsWorld answer start k (es ++ (step, reply) ∷ []) recording' cases'
