use Rattle.std.proofs.Common.{sym, subst, List, ℕ}
use Rattle.model_objects.specs.Table.{IsRising}
use Rattle.log_events.proofs.StartTables.{start-rising}
use Rattle.log_choices.proofs.ForcedStarts.{started-some, started-none}
use Rattle.log_choices.proofs.forced_plan.is_started.Goals as goal

pub get-requires : goal.get-requires
get-requires c = subst (λ (l : List (ℕ × ℕ)). IsRising l) (sym c.starts.ensures) (start-rising c.args.log.now c.events_are_log.ensures)

pub returns-in-Some : goal.returns-in-Some
returns-in-Some c = started-some c.args.log.now c.args.key c.starts.result.now _ c.starts.ensures c.in-Some.ensures

pub returns-in-None : goal.returns-in-None
returns-in-None c = started-none c.args.log.now c.args.key c.starts.result.now c.starts.ensures c.in-None.ensures
