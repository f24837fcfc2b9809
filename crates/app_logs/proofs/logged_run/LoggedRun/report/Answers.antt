use Rattle.std.specs.Prelude.{◌≡◌}
use Rattle.std.proofs.Common.{subst}
use Rattle.order_memory.specs.Memory.{MemoryHistory}
use Rattle.json_histories.specs.declared.any_history.AnyHistory.TheVariants as histories
use Rattle.app_orders.specs.declared.length.Length.TheVariants.{Any}
use Rattle.app_findings.specs.Findings.{EachIsKnownOnDistinctValues, EachNamesUnexplained}
use Rattle.app_explanations.specs.Report.{EachIsTrueAt}
use Rattle.log_choices.specs.ChoiceTables.{choice_in}
use Rattle.log_choices.specs.ChosenHistories.{history_by}
use Rattle.app_logs.proofs.logged_run.LoggedRun.report.Goals as goal

-- a report on the history that the run keeps
pub returns-clause-report : goal.returns-clause-report
returns-clause-report g c =
    let e : c.history.result.now ≡ history_by c.args.self.now.log.events (choice_in c.args.self.now.saw) = c.history.ensures in
    record {
      true_of = subst (λ (h : MemoryHistory). EachIsTrueAt Any (histories.Memory h) c.in_ok-report.report) e c.in_ok-report.ensures.truth;
      unknown = subst (λ (h : MemoryHistory). EachIsKnownOnDistinctValues (histories.Memory h) c.in_ok-report.report) e c.in_ok-report.ensures.unknown;
      unexplained = subst (λ (h : MemoryHistory). EachNamesUnexplained (histories.Memory h) c.in_ok-report.report) e c.in_ok-report.ensures.unexplained;
    }
