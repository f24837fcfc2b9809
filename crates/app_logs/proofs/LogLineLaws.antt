-- The lines of a report on a log are true of its history by what is forced.
use Rattle.std.proofs.Common.{ℕ, List, Option}
use Rattle.app_orders.specs.declared.length.Length.TheVariants.{Any}
use Rattle.app_orders.specs.declared.log_order.LogJudging.{LogJudging}
use Rattle.app_orders.specs.declared.log_order.LogOrder.TheVariants.{Judge}
use Rattle.log_choices.specs.ChoiceTables.{choice_in}
use Rattle.log_choices.specs.ChosenHistories.{history_by}
use Rattle.app_engine.proofs.MemoryLineLaws.{lines_of_report}
use Rattle.app_logs.specs.declared.following.Followed.{Followed}
use Rattle.app_logs.specs.LogAnswers.{AnswersLog}
use Rattle.app_logs.specs.LogLines.{JudgesLog}

pub answered_judge : (judging : LogJudging) (reader_before reader_after before after : Option (List ℕ)) (followed : Followed)
    → AnswersLog (Judge judging) reader_before reader_after before after followed → JudgesLog reader_before before after followed.torn
answered_judge judging reader_before reader_after before after followed answers =
    let (saw, forced, answer) = answers.answer in
    let (report, by, is, comes) = answer in record {
      log = answers.log;
      saw = saw;
      text = answers.text;
      whole = answers.whole;
      forced = forced;
      lines = lines_of_report Any (history_by answers.log.events (choice_in saw)) report answers.text by.true_of by.unknown is;
      written = answers.written;
    }
