-- Lines are judged as they come, without a look at the input before.
use Rattle.app_process.specs.Faults.{ReadingFails, WritingFails, most_ahead}
use Rattle.app_process.proofs.FaultLaws.{more_ahead}
use Rattle.app_process.proofs.FileLaws.{lines_end}
use Rattle.app_process.proofs.file_inputs.status_on_reader.Goals as goal

pub returns-in-Some : goal.returns-in-Some
returns-in-Some g c =
    lines_end (ReadingFails most_ahead g.R.Source.called) (WritingFails g.W.Sink.called) _ c.args.given.now.terminals _ c.in-Some.asked _ _ _ _ _ _ _ c.requires.terminal
    (more_ahead g.R.Source.called) c.in-Some.ensures.0 c.in-Some.ensures.1 c.status_of_asked.ensures
