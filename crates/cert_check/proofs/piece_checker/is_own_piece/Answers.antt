use Rattle.std.proofs.Common.{Bool, subst, sym}
use Rattle.std.specs.Prelude.{IsTrue, ◌↔◌}
use Rattle.std.proofs.lemmas.Bool.{both_ways}
use Rattle.std.proofs.lemmas.Result.{IfOk-weaker}
use Rattle.model_history.specs.History.{HistoryValue}
use Rattle.order_causal.specs.Orders.{only}
use Rattle.order_causal.specs.Vectors.{Counts, IsVectorOk}
use Rattle.cert_check.specs.Certificates.{IsScheduledPiece}
use Rattle.cert_check.specs.Criteria.{Explains}
use Rattle.cert_check.specs.Schedules.{named, IsSchedule}
use Rattle.cert_check.proofs.SchedulePieces.{piece_exactly}
use Rattle.cert_check.proofs.piece_checker.is_own_piece.Goals as goal

pub explains_own-requires-clause-vector : goal.explains_own-requires-clause-vector
explains_own-requires-clause-vector g c = λ _ _.
    subst (λ (w : HistoryValue g.row.O-Start.Denot g.row.O-Call.Denot g.row.O-Ret.Denot × Counts). IsVectorOk w.0 w.1 c.args.op)
    c.requires.walk (c.is_schedule.ensures.exact.0 c.if-not-is_schedule.false).0

pub explains_own-requires-clause-schedule : goal.explains_own-requires-clause-schedule
explains_own-requires-clause-schedule g c = λ _ _.
    subst (λ (w : HistoryValue g.row.O-Start.Denot g.row.O-Call.Denot g.row.O-Ret.Denot × Counts). IsSchedule w.0 w.1 c.args.op c.args.schedule.now)
    c.requires.walk (c.is_schedule.ensures.exact.0 c.if-not-is_schedule.false).1

pub returns-clause-exact : goal.returns-clause-exact
returns-clause-exact g c =
    let answer = g.O.SeqObject.answer in
    let h = c.args.h.now in
    let v = c.args.v.now in
    let o = c.args.op in
    let list = c.args.schedule.now in
    let good = subst (λ (w : HistoryValue g.row.O-Start.Denot g.row.O-Call.Denot g.row.O-Ret.Denot × Counts). IsVectorOk w.0 w.1 o × IsSchedule w.0 w.1 o list)
    c.requires.walk (c.is_schedule.ensures.exact.0 c.if-not-is_schedule.false) in
    IfOk-weaker c.explains_own.result
    (λ (yes : Bool). IsTrue yes ↔ Explains answer h (named list) (only o))
    (λ (yes : Bool). IsTrue yes ↔ IsScheduledPiece answer h v list o (only o))
    (λ yes exactly. piece_exactly answer h v o list (only o) good.0 good.1 yes exactly)
    c.explains_own.ensures

pub returns-then-not-is_schedule-clause-exact : goal.returns-then-not-is_schedule-clause-exact
returns-then-not-is_schedule-clause-exact g c = (
  (λ t. absurd cc),
  λ piece. absurd (both_ways c.is_schedule.result c.if-not-is_schedule.true
      (c.is_schedule.ensures.exact.1 (subst (λ (w : HistoryValue g.row.O-Start.Denot g.row.O-Call.Denot g.row.O-Ret.Denot × Counts).
      IsVectorOk w.0 w.1 c.args.op × IsSchedule w.0 w.1 c.args.op c.args.schedule.now) (sym c.requires.walk) (piece.vector, piece.schedules)))),
)
