use Rattle.cert_check.specs.Schedules.{IsSchedule}
use Rattle.order_causal.specs.Vectors.{Counts, IsVectorOk}
use Rattle.model_history.specs.History.{HistoryValue, IsOp}
use Rattle.std.specs.Prelude.{◌↔◌, IsTrue}
use Rattle.std.proofs.Common.{ℕ, [], subst, arith, true, false, sym}
use Rattle.cert_check.specs.Steps.Namings.{AreCountsAt}
use Rattle.cert_check.proofs.schedule_walk.ScheduleWalk.is_schedule.Goals as goal

pub invariant_of-self-2 : goal.invariant_of-self-2
invariant_of-self-2 g c = record {
  shape = c.self.invariant.shape;
  needs = c.self.invariant.needs;
  counting = subst (λ (n : ℕ). AreCountsAt [] 0 n c.clear.new.self.counts.items) c.is_schedule.ensures.width (c.clear.ensures []);
  well = record { each = λ j below. absurd (omega arith) };
}

pub is_schedule-requires-clause-shape : goal.is_schedule-requires-clause-shape
is_schedule-requires-clause-shape g c = λ _ _. c.self.invariant.shape

pub is_schedule-requires-clause-needs : goal.is_schedule-requires-clause-needs
is_schedule-requires-clause-needs g c = λ _ _. c.self.invariant.needs

pub is_schedule-requires-clause-counts : goal.is_schedule-requires-clause-counts
is_schedule-requires-clause-counts g c = λ _ _. c.self.invariant.counting

pub is_schedule-requires-clause-well : goal.is_schedule-requires-clause-well
is_schedule-requires-clause-well g c = λ _ _. c.self.invariant.well

pub is_schedule-requires-clause-is_op : goal.is_schedule-requires-clause-is_op
is_schedule-requires-clause-is_op g c = λ _ _. subst (λ (w : HistoryValue g.row.O-Start.Denot g.row.O-Call.Denot g.row.O-Ret.Denot × Counts). IsOp w.0 c.args.op) (sym c.self.view_is) c.requires.is_op

pub returns-then-is_schedule-clause-exact : goal.returns-then-is_schedule-clause-exact
returns-then-is_schedule-clause-exact g c =
    subst (λ (w : HistoryValue g.row.O-Start.Denot g.row.O-Call.Denot g.row.O-Ret.Denot × Counts). IsTrue true ↔ (IsVectorOk w.0 w.1 c.args.op × IsSchedule w.0 w.1 c.args.op c.args.schedule.now))
    c.self.view_is c.if-is_schedule.ensures.exact

pub returns-clause-exact : goal.returns-clause-exact
returns-clause-exact g c =
    subst (λ (w : HistoryValue g.row.O-Start.Denot g.row.O-Call.Denot g.row.O-Ret.Denot × Counts). IsTrue false ↔ (IsVectorOk w.0 w.1 c.args.op × IsSchedule w.0 w.1 c.args.op c.args.schedule.now))
    c.self.view_is c.if-is_schedule.ensures.exact
