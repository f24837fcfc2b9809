-- A yes is true of the history by a whole choice.
use Rattle.std.proofs.Common.{subst}
use Rattle.order_memory.specs.Memory.{MemoryHistory}
use Rattle.live_case_board.specs.declared.answer.Answer.{Answer}
use Rattle.app_findings.specs.Findings.{answer_for}
use Rattle.app_engine.proofs.Decided.{Says, says-long_true}
use Rattle.log_choices.specs.ChoiceTables.{choice_in}
use Rattle.log_choices.specs.ChosenHistories.{history_by}
use Rattle.app_logs.proofs.laws.a_yes_by_every_read_is_a_yes.Goals as goal

pub returns : goal.returns
returns c = λ in_time events saw report by choice whole criterion is.
    let h : MemoryHistory = history_by events (choice_in saw) in
    let said : Says h criterion (answer_for report criterion) = says-long_true h criterion (answer_for report criterion) (by.true_of.each criterion) in (
      choice_in saw,
      record { choice = choice; whole = whole; met = subst (λ (answer : Answer). Says h criterion answer) is said },
    )
