use Rattle.std.proofs.Common.{IfOk, subst}
use Rattle.order_memory.specs.Memory.{MemoryHistory}
use Rattle.json_histories.specs.declared.any_history.AnyHistory.TheVariants as histories
use Rattle.app_findings.specs.declared.kept.Kept.TheVariants.{Answers}
use Rattle.app_findings.specs.Findings.{EachIsFinding, EachIsKnownOnDistinctValues, EachIsLongTrueOf, EachNamesUnexplained}
use Rattle.app_findings.proofs.Each.{all-found-is, all-found-known, all-found-names}
use Rattle.app_findings.proofs.LongTruth.{within_true}
use Rattle.app_findings.proofs.of_long.report_on_long.Goals as goal

pub returns-in-Some-clause-truth : goal.returns-in-Some-clause-truth
returns-in-Some-clause-truth g c =
    let same = rw c.in-Some.is at c.in_ok-small.ensures.same in
    subst (λ (h : MemoryHistory). IfOk c.report_on-report.result (EachIsLongTrueOf (histories.Memory h))) same
    (within_true c.in-Some.small c.report_on-report.result c.report_on-report.ensures)

pub returns-in-Some-clause-unknown : goal.returns-in-Some-clause-unknown
returns-in-Some-clause-unknown g c =
    let same = rw c.in-Some.is at c.in_ok-small.ensures.same in
    subst (λ (h : MemoryHistory). IfOk c.report_on-report.result (EachIsKnownOnDistinctValues (histories.Memory h))) same
    (all-found-known Answers (histories.Memory c.in-Some.small) c.report_on-report.result c.report_on-report.ensures)

pub returns-in-Some-clause-unexplained : goal.returns-in-Some-clause-unexplained
returns-in-Some-clause-unexplained g c =
    let same = rw c.in-Some.is at c.in_ok-small.ensures.same in
    subst (λ (h : MemoryHistory). IfOk c.report_on-report.result (EachNamesUnexplained (histories.Memory h))) same
    (all-found-names Answers (histories.Memory c.in-Some.small) c.report_on-report.result c.report_on-report.ensures)

pub returns-in-Some-clause-found : goal.returns-in-Some-clause-found
returns-in-Some-clause-found g c =
    let same = rw c.in-Some.is at c.in_ok-small.ensures.same in
    subst (λ (h : MemoryHistory). IfOk c.report_on-report.result (EachIsFinding (histories.Memory h))) same
    (all-found-is Answers (histories.Memory c.in-Some.small) c.report_on-report.result c.report_on-report.ensures)
