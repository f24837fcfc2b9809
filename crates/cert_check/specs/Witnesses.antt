-- What a certificate names to show its criterion: a causal order and, for each operation, a list of its past (this
-- project's profile).
use Rattle.std.specs.Prelude.{⊤, ◌&&◌, not, List, filter}
use Rattle.model_history.specs.declared.op_id.OpId.{OpId}
use Rattle.model_history.specs.History.{HistoryValue, IsOp}
use Rattle.order_causal.specs.Orders.{Ops, Order, only, program_past, past, IsLinearization}
use Rattle.order_causal.specs.Vectors.{Counts, list_of}
use Rattle.cert_check.specs.declared.criterion.Criterion.{Criterion}
use Rattle.cert_check.specs.declared.criterion.Criterion.TheVariants as criteria
use Rattle.cert_check.specs.declared.certificate.Certificate.{Certificate}
use Rattle.cert_check.specs.declared.certificate.Certificate.TheVariants.{Cc, Cm, Ccv}
use Rattle.cert_check.specs.Criteria.{every, IsCausalOrder, Explains}
use Rattle.cert_check.specs.Schedules.{named}
use Rattle.cert_check.specs.Certificates.{counted, criterion_of, vectors_of}

-- the operations of the past of o whose known returns a criterion keeps
abbrev pub kept_by : Criterion → OpId → Ops
kept_by criteria.Cc = only
kept_by criteria.Cm = program_past
kept_by criteria.Ccv = only

module _ {S C R : Type 0} (h : HistoryValue S C R) where
  -- a comes before b: they are different operations of the history, and the vector of b counts a
  abbrev pub counted_before : Counts → Order
  counted_before v a b = not (only b a) && (every h a && (every h b && counted v b a))

  -- the causal order of a certificate
  abbrev pub order_of : Certificate → Order
  order_of c = counted_before (vectors_of c)

  -- the past of o in the order of its calls: what the schedule of o names, or the one list cut to the past
  abbrev pub past_of : Certificate → OpId → List OpId
  past_of (Cc vectors schedules) o = named (list_of schedules o)
  past_of (Cm vectors schedules) o = named (list_of schedules o)
  past_of (Ccv vectors arbitration) o = filter (past (counted_before vectors) o) (named arbitration)

  -- the one list of causal convergence, the arbitration, is a linearization of all operations
  abbrev pub IsArbitrated : Certificate → Type 0
  IsArbitrated (Cc vectors schedules) = ⊤
  IsArbitrated (Cm vectors schedules) = ⊤
  IsArbitrated (Ccv vectors arbitration) = IsLinearization (every h) (counted_before vectors) (named arbitration)

module _ {S C R : Type 0} (answer : S → List C → C → R) (h : HistoryValue S C R) where
  -- the order of a certificate is causal, and what it lists as the past of each operation is a linearization of that past
  -- under this order, which explains the known returns that the certificate's criterion keeps
  pub record IsWitness (c : Certificate) : Type 0 where
    pub causal : IsCausalOrder h (order_of h c)
    pub linear : (o : OpId) → IsOp h o → IsLinearization (past (order_of h c) o) (order_of h c) (past_of h c o)
    pub explains : (o : OpId) → IsOp h o → Explains answer h (past_of h c o) (kept_by (criterion_of c) o)
    pub arbitrated : IsArbitrated h c
