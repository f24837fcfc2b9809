use Rattle.std.proofs.Common.{Bool, length, subst, sym}
use Rattle.std.specs.Prelude.{IsTrue, ◌↔◌}
use Rattle.std.proofs.lemmas.Bool.{both_ways}
use Rattle.std.proofs.lemmas.Result.{IfOk-weaker}
use Rattle.model_history.specs.History.{HistoryValue}
use Rattle.order_causal.specs.Orders.{program_past}
use Rattle.order_causal.specs.Vectors.{Counts, IsVectorOk}
use Rattle.cert_check.specs.Certificates.{IsScheduledPiece}
use Rattle.cert_check.specs.Schedules.{IsSchedule}
use Rattle.cert_check.specs.Steps.Replays.{AreAnswered}
use Rattle.cert_check.proofs.ReplaySteps.{explains-answered, explains-from}
use Rattle.cert_check.proofs.SchedulePieces.{piece_exactly}
use Rattle.cert_check.proofs.piece_checker.is_past_piece.Goals as goal

pub returns-clause-exact : goal.returns-clause-exact
returns-clause-exact g c =
    let answer = g.O.SeqObject.answer in
    let h = c.args.past.now in
    let v = c.args.v.now in
    let o = c.args.op in
    let list = c.args.schedule.now in
    let kept = program_past o in
    let good = subst (λ (w : HistoryValue g.row.O-Start.Denot g.row.O-Call.Denot g.row.O-Ret.Denot × Counts). IsVectorOk w.0 w.1 o × IsSchedule w.0 w.1 o list)
    c.requires.walk (c.is_schedule.ensures.exact.0 c.if-not-is_schedule.false) in
    IfOk-weaker c.explains.result
    (λ (yes : Bool). IsTrue yes ↔ AreAnswered answer h kept list (length list))
    (λ (yes : Bool). IsTrue yes ↔ IsScheduledPiece answer h v list o kept)
    (λ yes answered.
    piece_exactly answer h v o list kept good.0 good.1 yes
    ((λ t. explains-from answer h kept list (answered.0 t)), λ explains. answered.1 (explains-answered answer h kept list explains)))
    c.explains.ensures.exact

pub returns-then-not-is_schedule-clause-exact : goal.returns-then-not-is_schedule-clause-exact
returns-then-not-is_schedule-clause-exact g c = (
  (λ t. absurd cc),
  λ piece. absurd (both_ways c.is_schedule.result c.if-not-is_schedule.true
      (c.is_schedule.ensures.exact.1 (subst (λ (w : HistoryValue g.row.O-Start.Denot g.row.O-Call.Denot g.row.O-Ret.Denot × Counts).
      IsVectorOk w.0 w.1 c.args.op × IsSchedule w.0 w.1 c.args.op c.args.schedule.now) (sym c.requires.walk) (piece.vector, piece.schedules)))),
)

pub explains-requires-clause-vector : goal.explains-requires-clause-vector
explains-requires-clause-vector g c = λ _ _.
    subst (λ (w : HistoryValue g.row.O-Start.Denot g.row.O-Call.Denot g.row.O-Ret.Denot × Counts). IsVectorOk w.0 w.1 c.args.op)
    c.requires.walk (c.is_schedule.ensures.exact.0 c.if-not-is_schedule.false).0

pub explains-requires-clause-schedule : goal.explains-requires-clause-schedule
explains-requires-clause-schedule g c = λ _ _.
    subst (λ (w : HistoryValue g.row.O-Start.Denot g.row.O-Call.Denot g.row.O-Ret.Denot × Counts). IsSchedule w.0 w.1 c.args.op c.args.schedule.now)
    c.requires.walk (c.is_schedule.ensures.exact.0 c.if-not-is_schedule.false).1
