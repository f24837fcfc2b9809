-- A report on distinct values says of each criterion whether the history meets it.
use Rattle.app_findings.specs.Findings.{answer_for}
use Rattle.app_engine.proofs.Decided.{decided-excluded, decided-met, says-long_true}
use Rattle.log_choices.specs.ChoiceTables.{choice_in}
use Rattle.log_choices.specs.ChosenHistories.{history_by}
use Rattle.app_logs.proofs.laws.distinct_values_are_decided.Goals as goal

pub returns-clause-met : goal.returns-clause-met
returns-clause-met c = λ events saw report by distinct criterion.
    let answer = answer_for report criterion in
    let h = history_by events (choice_in saw) in
    decided-met h criterion distinct answer (says-long_true h criterion answer (by.true_of.each criterion)) (by.unknown criterion)

pub returns-clause-excluded : goal.returns-clause-excluded
returns-clause-excluded c = λ events saw report by distinct criterion.
    let answer = answer_for report criterion in
    let h = history_by events (choice_in saw) in
    decided-excluded h criterion distinct answer (says-long_true h criterion answer (by.true_of.each criterion)) (by.unknown criterion)
