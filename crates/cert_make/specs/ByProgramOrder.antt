-- Certificates by program order alone (this project's profile).
use Rattle.std.specs.Prelude.{◌≡◌, ℕ, ◌+◌, ◌++◌, List, [], length, replicate}
use Rattle.std.proofs.Common.{zero, suc}
use Rattle.model_history.specs.declared.op_id.OpId.{OpId}
use Rattle.model_history.specs.History.{HistoryValue, IsOp, session}
use Rattle.order_causal.specs.ProgramOrder.{IsOwnVector}
use Rattle.order_causal.specs.Vectors.{ByOperation, Counts, list_of}
use Rattle.cert_check.specs.declared.certificate.Certificate.{Certificate}
use Rattle.cert_check.specs.declared.certificate.Certificate.TheVariants.{Cc, Cm, Ccv}

-- the schedule names the session of o once for o and for each operation before it in its session
abbrev pub IsOwnSchedule : OpId → List ℕ → Type 0
IsOwnSchedule o schedule = schedule ≡ replicate (o.index + 1) o.session

module _ {S C R : Type 0} where
  -- each vector counts the operation and what is before it in program order
  abbrev pub AreOwnVectors : HistoryValue S C R → Counts → Type 0
  AreOwnVectors h vectors = (o : OpId) → IsOp h o → IsOwnVector (length h.1) o (list_of vectors o)

  -- each schedule names the operation and what is before it in program order
  abbrev pub AreOwnSchedules : HistoryValue S C R → ByOperation ℕ → Type 0
  AreOwnSchedules h schedules = (o : OpId) → IsOp h o → IsOwnSchedule o (list_of schedules o)

  -- the numbers of the first n sessions, one after another, each as often as its session has operations
  abbrev pub in_turn : HistoryValue S C R → ℕ → List ℕ
  in_turn h zero = []
  in_turn h (suc n) = in_turn h n ++ replicate (length (session h n)) n

  -- the vectors and the schedules are by program order, and the one list has the sessions in turn
  abbrev pub IsByProgramOrder : HistoryValue S C R → Certificate → Type 0
  IsByProgramOrder h (Cc vectors schedules) = AreOwnVectors h vectors × AreOwnSchedules h schedules
  IsByProgramOrder h (Cm vectors schedules) = AreOwnVectors h vectors × AreOwnSchedules h schedules
  IsByProgramOrder h (Ccv vectors arbitration) = AreOwnVectors h vectors × (arbitration ≡ in_turn h (length h.1))
