use Rattle.std.proofs.Common.{subst}
use Rattle.json_histories.specs.declared.any_history.AnyHistory.{AnyHistory}
use Rattle.app_findings.specs.Answers.{IsKnownOnDistinctValues, IsTrueOf}
use Rattle.app_findings.specs.Findings.{answer_for}
use Rattle.app_engine.proofs.Decided.{decided-excluded, decided-met, says-true}
use Rattle.app_engine.proofs.laws.distinct_values_are_decided.Goals as goal

pub returns-clause-met : goal.returns-clause-met
returns-clause-met c = λ input text report h criterion same distinct.
    let answer = answer_for report.report criterion in
    decided-met h criterion distinct answer
    (says-true h criterion answer (subst (λ (history : AnyHistory). IsTrueOf history criterion answer) same (report.answers.true_of criterion)))
    (subst (λ (history : AnyHistory). IsKnownOnDistinctValues history answer) same (report.answers.unknown criterion))

pub returns-clause-excluded : goal.returns-clause-excluded
returns-clause-excluded c = λ input text report h criterion same distinct.
    let answer = answer_for report.report criterion in
    decided-excluded h criterion distinct answer
    (says-true h criterion answer (subst (λ (history : AnyHistory). IsTrueOf history criterion answer) same (report.answers.true_of criterion)))
    (subst (λ (history : AnyHistory). IsKnownOnDistinctValues history answer) same (report.answers.unknown criterion))
