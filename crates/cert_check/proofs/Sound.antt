-- A certificate of which every piece explains its operation names a witness of its criterion, and so the criterion is
-- met.
use Rattle.std.proofs.Common.{◌≡◌, ◌≢◌, ℕ, List, length, arith, sym, subst}
use Rattle.std.specs.Prelude.{filter}
use Rattle.model_history.specs.declared.op_id.OpId.{OpId}
use Rattle.model_history.specs.History.{HistoryValue, IsOp, session}
use Rattle.order_causal.specs.Orders.{only, past, StandsAt, IsLinearization}
use Rattle.order_causal.specs.Vectors.{Counts, list_of, IsCounted, IsVectorOk}
use Rattle.cert_check.specs.declared.certificate.Certificate.{Certificate}
use Rattle.cert_check.specs.declared.certificate.Certificate.TheVariants.{Cc, Cm, Ccv}
use Rattle.cert_check.specs.Criteria.{every, Explains, Meets}
use Rattle.cert_check.specs.Schedules.{named, StandsBefore, IsSchedule}
use Rattle.order_causal.specs.Schedules.{placed}
use Rattle.cert_check.specs.Certificates.{counted, criterion_of, HasShapeOf, IsExplainedThroughout}
use Rattle.cert_check.specs.Witnesses.{counted_before, IsWitness}
use Rattle.cert_check.proofs.ConvergentLaws.{cut_is_linearization}
use Rattle.cert_check.proofs.Named.{named_each, named_within, named_once}
use Rattle.cert_check.proofs.Pasts.{every-op, op-every, counted_before-parts, counted_before-causal, past-from_counted, counted-from_past, past-is_counted}

module _ {S C R : Type 0} (h : HistoryValue S C R) (v : Counts) (good : (o : OpId) → IsOp h o → IsVectorOk h v o) where
  -- what a schedule of an operation names is a linearization of its past
  pub scheduled_past : (o : OpId) (schedule : List ℕ) → IsOp h o → IsSchedule h v o schedule
      → IsLinearization (past (counted_before h v) o) (counted_before h v) (named schedule)
  scheduled_past o schedule is_op scheduled = record {
    each = λ a inside.
        let counts = counted-from_past h v good o a is_op inside in
        let ends = scheduled.ends a.session in
        named_each schedule a (omega arith);
    no_other = λ k a stands.
        let within = named_within schedule k a stands in
        let ends = scheduled.ends a.session in
        past-from_counted h v good o a is_op (omega arith);
    once = named_once schedule;
    ordered = λ j k a b at_j at_k before.
        let p = counted_before-parts h v a b before in
        let r = scheduled.after_counted k b a at_k p.counts p.apart in
        let same : j ≡ r.0 = named_once schedule j r.0 a at_j r.2 in
        let below = r.1 in
        omega arith;
  }

  -- what one list names is a linearization of the history
  arbitrated_whole : (arbitration : List ℕ) → ((s : ℕ) → placed arbitration s ≡ length (session h s))
      → ((o : OpId) → IsOp h o → (k : ℕ) (a : OpId) → StandsAt (named arbitration) k o → IsCounted v o a → a ≢ o → StandsBefore (named arbitration) k a)
      → IsLinearization (every h) (counted_before h v) (named arbitration)
  arbitrated_whole arbitration whole after_counted = record {
    each = λ a inside.
        let is_op = every-op h a inside in
        let ends = whole a.session in
        named_each arbitration a (omega arith);
    no_other = λ k a stands.
        let within = named_within arbitration k a stands in
        let ends = whole a.session in
        op-every h a (omega arith);
    once = named_once arbitration;
    ordered = λ j k a b at_j at_k before.
        let p = counted_before-parts h v a b before in
        let r = after_counted b p.second k a at_k p.counts p.apart in
        let same : j ≡ r.0 = named_once arbitration j r.0 a at_j r.2 in
        let below = r.1 in
        omega arith;
  }

module _ {S C R : Type 0} (answer : S → List C → C → R) (h : HistoryValue S C R) where
  -- what a certificate names where every piece explains its operation
  pub explained-witness : (c : Certificate) → HasShapeOf h c → IsExplainedThroughout answer h c → IsWitness answer h c
  explained-witness (Cc v schedules) shape explained =
      let good : (o : OpId) → IsOp h o → IsVectorOk h v o = λ o is_op. (explained o is_op).vector in
      record {
        causal = counted_before-causal h v good;
        linear = λ o is_op. scheduled_past h v good o (list_of schedules o) is_op (explained o is_op).schedules;
        explains = λ o is_op. (explained o is_op).explains;
        arbitrated = tt;
      }
  explained-witness (Cm v schedules) shape explained =
      let good : (o : OpId) → IsOp h o → IsVectorOk h v o = λ o is_op. (explained o is_op).vector in
      record {
        causal = counted_before-causal h v good;
        linear = λ o is_op. scheduled_past h v good o (list_of schedules o) is_op (explained o is_op).schedules;
        explains = λ o is_op. (explained o is_op).explains;
        arbitrated = tt;
      }
  explained-witness (Ccv v arbitration) shape explained =
      let good : (o : OpId) → IsOp h o → IsVectorOk h v o = λ o is_op. (explained o is_op).vector in
      let causal = counted_before-causal h v good in
      let whole = arbitrated_whole h v good arbitration shape.1 (λ o is_op. (explained o is_op).after_counted) in
      let cut : (o : OpId) → IsOp h o → filter (counted v o) (named arbitration) ≡ filter (past (counted_before h v) o) (named arbitration) =
      λ o is_op. λ i. filter (λ a. sym (past-is_counted h v good o a is_op) i) (named arbitration) in
      record {
        causal = causal;
        linear = λ o is_op. cut_is_linearization h (counted_before h v) causal (named arbitration) whole o is_op;
        explains = λ o is_op. subst (λ (ops : List OpId). Explains answer h ops (only o)) (cut o is_op) (explained o is_op).explains;
        arbitrated = whole;
      }

  -- a witness of its criterion
  witness-meets : (c : Certificate) → IsWitness answer h c → Meets answer h (criterion_of c)
  witness-meets (Cc v schedules) w =
      (counted_before h v, w.causal, λ o is_op. (named (list_of schedules o), w.linear o is_op, w.explains o is_op))
  witness-meets (Cm v schedules) w =
      (counted_before h v, w.causal, λ o is_op. (named (list_of schedules o), w.linear o is_op, w.explains o is_op))
  witness-meets (Ccv v arbitration) w = (counted_before h v, named arbitration, w.causal, w.arbitrated, w.explains)

  -- a certificate shows its criterion
  pub explained-meets : (c : Certificate) → HasShapeOf h c → IsExplainedThroughout answer h c → Meets answer h (criterion_of c)
  explained-meets c shape explained = witness-meets c (explained-witness c shape explained)
