-- The certificate of causal memory of a memory history by its happened-before relations (this project's profile).
use Rattle.std.specs.Prelude.{ℕ, ◌+◌, ◌⊎◌, List, Some}
use Rattle.order_memory.specs.declared.happened_before.TheConstants.{MAX_PAIRS}
use Rattle.model_history.specs.declared.op_id.OpId.{OpId}
use Rattle.model_history.specs.History.{IsOp}
use Rattle.order_memory.specs.HappenedBeforeVectors.{IsHBVectors}
use Rattle.order_memory.specs.Memory.{MemoryHistory, IsDifferentiated}
use Rattle.order_memory.specs.Relations.{HB}
use Rattle.order_memory.specs.SourceOrder.{CountsSourceOrder}
use Rattle.order_memory.specs.Steps.HappenedBefores.{HasFewPairs, HasMorePairs}
use Rattle.order_causal.specs.Vectors.{Counts, list_of}
use Rattle.cert_check.specs.declared.certificate.Certificate.{Certificate}
use Rattle.cert_check.specs.declared.certificate.Certificate.TheVariants.{Cc, Cm, Ccv}
use Rattle.cert_make_cm.specs.Turns.{AreTurns}

module _ (h : MemoryHistory) where
  -- the operations of the session of o take turns in the schedule, up to o, by vectors that count happened-before of o
  pub record TakesHBTurns (o : OpId) (schedule : List ℕ) : Type 0 where
    pub vectors : Counts
    pub happened : IsHBVectors h o vectors
    pub turns : AreTurns vectors o.session (o.index + 1) schedule

  -- in happened-before of o no operation is before itself, and it has at most 100,000 pairs that the causal order doesn't have
  pub record MayTakeTurns (o : OpId) : Type 0 where
    pub acyclic : (a : OpId) → ¬ HB h o a a
    pub few : HasFewPairs h o (Some MAX_PAIRS)

  -- where values are distinct, o may take turns, and so it is in the schedule
  abbrev pub TakesTurns : OpId → List ℕ → Type 0
  TakesTurns o schedule = IsDifferentiated h → TakesHBTurns o schedule × MayTakeTurns o

  -- in happened-before of some operation an operation is before itself, or it has more than 100,000 pairs that the causal order
  -- doesn't have
  abbrev pub HasNoTurns : Type 0
  HasNoTurns = (o : OpId) × IsOp h o × (((a : OpId) × HB h o a a) ⊎ HasMorePairs h o MAX_PAIRS)

  -- the vectors are those of the order of program order and sources, and the schedules go by turns of happened-before
  pub record AreByTurns (v : Counts) (schedules : List (List (List ℕ))) : Type 0 where
    pub order : CountsSourceOrder h v
    pub each : (o : OpId) → IsOp h o → TakesHBTurns o (list_of schedules o)

-- such a certificate
abbrev pub IsByTurns : MemoryHistory → Certificate → Type 0
IsByTurns h (Cc vectors schedules) = ⊥
IsByTurns h (Cm vectors schedules) = AreByTurns h vectors schedules
IsByTurns h (Ccv vectors arbitration) = ⊥
