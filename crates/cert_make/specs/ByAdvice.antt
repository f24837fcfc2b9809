-- Certificates from what a store reported of each operation (this project's profile).
use Rattle.std.specs.Prelude.{◌≡◌, ℕ, ◌<◌, Bool, List, Option, length}
use Rattle.model_history.specs.declared.advice.Advice.{Advice}
use Rattle.model_history.specs.declared.op_id.OpId.{OpId}
use Rattle.model_history.specs.History.{HistoryValue, IsOp}
use Rattle.order_causal.specs.Vectors.{ByOperation, Counts, list_of}
use Rattle.cert_check.specs.declared.certificate.Certificate.{Certificate}
use Rattle.cert_check.specs.declared.certificate.Certificate.TheVariants.{Cc, Cm, Ccv}
use Rattle.cert_make.specs.Advice.{IsAdvised, AreToldVectors, advice_in}
use Rattle.cert_make.specs.ByOrder.{GoesByOrder, order_at}
use Rattle.cert_make.specs.ByProgramOrder.{IsByProgramOrder}
use Rattle.cert_make.specs.ByStamp.{AreByStamp, Stamped, counted_of, sessions_of}

module _ {S C R : Type 0} (query : C → Bool) (h : HistoryValue S C R) (advice : List (Option Advice)) where
  -- the schedule of an operation goes by the order that is reported of it; where none is, it has the counted operations by stamp
  pub record IsToldSchedule (v : Counts) (ops : List Stamped) (o : OpId) (schedule : List ℕ) : Type 0 where
    pub by_order : 0 < length (order_at (advice_in h advice o.session) o.index) → GoesByOrder query h (advice_in h advice o.session) o schedule
    pub by_stamp : length (order_at (advice_in h advice o.session) o.index) ≡ 0 → schedule ≡ sessions_of (counted_of v o ops)

  -- the vectors and the schedules are as reported
  pub record AreAsTold (v : Counts) (schedules : ByOperation ℕ) : Type 0 where
    pub vectors : AreToldVectors h advice v
    pub ops : List Stamped
    pub stamped : AreByStamp h advice ops
    pub each : (o : OpId) → IsOp h o → IsToldSchedule v ops o (list_of schedules o)

  -- the vectors are as reported, and the one list goes by stamps
  pub record IsListedAsTold (v : Counts) (list : List ℕ) : Type 0 where
    pub vectors : AreToldVectors h advice v
    pub ops : List Stamped
    pub stamped : AreByStamp h advice ops
    pub whole : list ≡ sessions_of ops

  -- such a certificate
  abbrev pub IsByAdvice : Certificate → Type 0
  IsByAdvice (Cc vectors schedules) = AreAsTold vectors schedules
  IsByAdvice (Cm vectors schedules) = AreAsTold vectors schedules
  IsByAdvice (Ccv vectors arbitration) = IsListedAsTold vectors arbitration

  -- the certificate is by advice where there is any, and by program order alone where there is none
  pub record IsAsAdvised (c : Certificate) : Type 0 where
    pub advised : IsAdvised h advice → IsByAdvice c
    pub alone : ¬ IsAdvised h advice → IsByProgramOrder h c
