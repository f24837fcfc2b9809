-- A history that meets a criterion has a certificate of it.
use Rattle.std.proofs.Common.{ℕ, ◌<◌, ◌≤◌, ⊎_elim, List, [], length, filter, arith, refl, sym, subst}
use Rattle.std.proofs.lemmas.Bool.{cases_lt}
use Rattle.model_history.specs.declared.op_id.OpId.{OpId}
use Rattle.model_history.specs.History.{HistoryValue, IsOp, session}
use Rattle.order_causal.proofs.EachOperation.{by_operation, by_operation-one_each, list_of-by_operation}
use Rattle.order_causal.specs.Orders.{Ops, Order, only, program_past, past, IsLinearization}
use Rattle.order_causal.specs.Vectors.{list_of}
use Rattle.cert_check.specs.declared.criterion.Criterion.{Criterion}
use Rattle.cert_check.specs.declared.criterion.Criterion.TheVariants as criteria
use Rattle.cert_check.specs.declared.certificate.Certificate.{Certificate}
use Rattle.cert_check.specs.declared.certificate.Certificate.TheVariants.{Cc, Cm, Ccv}
use Rattle.cert_check.specs.Criteria.{every, IsCausalOrder, Explains, Meets}
use Rattle.cert_check.specs.Schedules.{named}
use Rattle.cert_check.specs.Certificates.{HasShapeOf, IsScheduledPiece, IsArbitratedPiece, Certifies}
use Rattle.cert_check.proofs.Counting.{past_vectors, past_vectors-shape, past_vectors-count}
use Rattle.cert_check.proofs.Sessions.{sessions_of}
use Rattle.cert_check.proofs.Sound.{explained-meets}
use Rattle.cert_check.proofs.PastPieces.{named_past, named_whole, whole-ends, past_vector-ok, past-schedule, whole-piece}

module _ {S C R : Type 0} (answer : S → List C → C → R) (h : HistoryValue S C R) where
  module _ (co : Order) (causal : IsCausalOrder h co) (kept : OpId → Ops)
      (explained : (o : OpId) → IsOp h o → (ops : List OpId) × IsLinearization (past co o) co ops × Explains answer h ops (kept o)) where
    abbrev IsScheduled : OpId → List ℕ → Type 0
    IsScheduled o schedule = IsOp h o → IsScheduledPiece answer h (past_vectors h co causal) schedule o (kept o)

    scheduled_here : (o : OpId) → IsOp h o → (schedule : List ℕ) × IsScheduledPiece answer h (past_vectors h co causal) schedule o (kept o)
    scheduled_here o is_op =
        let given = explained o is_op in
        let is_named = named_past h co causal o given.0 is_op given.1 in
        let linear = subst (λ (ops : List OpId). IsLinearization (past co o) co ops) (sym is_named) given.1 in
        let explains = subst (λ (ops : List OpId). Explains answer h ops (kept o)) (sym is_named) given.2 in
        let counts = past_vectors-count h co causal in (
          sessions_of given.0,
          record {
            vector = past_vector-ok h co causal (past_vectors h co causal) counts o is_op;
            schedules = past-schedule h co causal (past_vectors h co causal) counts o (sessions_of given.0) is_op linear;
            explains = explains;
          },
        )

    -- a schedule for each operation, and any list for what is none
    scheduled : (o : OpId) → (schedule : List ℕ) × IsScheduled o schedule
    scheduled o = ⊎_elim
        (λ (is_op : o.index < length (session h o.session)). let r = scheduled_here o is_op in (r.0, λ _. r.1))
        (λ (none : length (session h o.session) ≤ o.index). ([], λ is_op. absurd (omega arith)))
        (cases_lt o.index (length (session h o.session)))

    schedule_of : OpId → List ℕ
    schedule_of o = (scheduled o).0

    pub past_schedules : List (List (List ℕ))
    past_schedules = by_operation h schedule_of

    pub past_schedules-shape : HasShapeOf h (Cc (past_vectors h co causal) past_schedules)
    unfolding past_schedules
    past_schedules-shape = (past_vectors-shape h co causal, by_operation-one_each h schedule_of)

    pub past_pieces : (o : OpId) → IsOp h o → IsScheduledPiece answer h (past_vectors h co causal) (list_of past_schedules o) o (kept o)
    unfolding past_schedules schedule_of
    past_pieces o is_op =
        subst (λ (schedule : List ℕ). IsScheduledPiece answer h (past_vectors h co causal) schedule o (kept o))
        (sym (list_of-by_operation h schedule_of o is_op)) ((scheduled o).1 is_op)

  module _ (co : Order) (arb : List OpId) (causal : IsCausalOrder h co) (whole : IsLinearization (every h) co arb)
      (explained : (o : OpId) → IsOp h o → Explains answer h (filter (past co o) arb) (only o)) where
    whole_named : IsLinearization (every h) co (named (sessions_of arb))
    whole_named = subst (λ (ops : List OpId). IsLinearization (every h) co ops) (sym (named_whole h co causal arb whole)) whole

    pub arbitration-shape : HasShapeOf h (Ccv (past_vectors h co causal) (sessions_of arb))
    arbitration-shape = (past_vectors-shape h co causal, whole-ends h co causal (sessions_of arb) whole_named)

    pub arbitrated_pieces : (o : OpId) → IsOp h o → IsArbitratedPiece answer h (past_vectors h co causal) (sessions_of arb) o
    arbitrated_pieces o is_op =
        whole-piece h co causal (past_vectors h co causal) (past_vectors-count h co causal) answer (sessions_of arb) o is_op whole_named
        (subst (λ (ops : List OpId). Explains answer h (filter (past co o) ops) (only o)) (sym (named_whole h co causal arb whole)) (explained o is_op))

  -- a history that meets a criterion has a certificate of it
  pub met-certified : (criterion : Criterion) → Meets answer h criterion → (c : Certificate) × Certifies answer h criterion c
  met-certified criteria.Cc (co, causal, explained) = (
    Cc (past_vectors h co causal) (past_schedules co causal only explained),
    (refl, past_schedules-shape co causal only explained, past_pieces co causal only explained),
  )
  met-certified criteria.Cm (co, causal, explained) = (
    Cm (past_vectors h co causal) (past_schedules co causal program_past explained),
    (refl, past_schedules-shape co causal program_past explained, past_pieces co causal program_past explained),
  )
  met-certified criteria.Ccv (co, arb, causal, whole, explained) = (
    Ccv (past_vectors h co causal) (sessions_of arb),
    (refl, arbitration-shape co arb causal whole explained, arbitrated_pieces co arb causal whole explained),
  )

  -- and the other way round
  pub certified-met : (criterion : Criterion) (c : Certificate) → Certifies answer h criterion c → Meets answer h criterion
  certified-met criterion c certifies =
      subst (λ (k : Criterion). Meets answer h k) certifies.0 (explained-meets answer h c certifies.1 certifies.2)
