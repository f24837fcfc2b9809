-- One answer is wanted of several files.
use Rattle.std.proofs.Common.{refl}
use Rattle.app_process.specs.Faults.{ReadingFails, WritingFails, most_ahead}
use Rattle.app_process.proofs.FileLaws.{several_ends}
use Rattle.app_process.proofs.file_inputs.status_on_files.Goals as goal

pub returns-then-is_of_one : goal.returns-then-is_of_one
returns-then-is_of_one g c =
    several_ends (g.F.Open.opens c.args.files.now) (g.F.Open.lacks c.args.files.now) (ReadingFails most_ahead g.F.File.Source.called) (WritingFails g.W.Sink.called) _ c.args.terminals _ _ _ _ _ c.in-Some.ensures.0 c.in-Some.asked c.has_several-is_many.result c.in-Some.ensures.1
    (c.is_of_one.ensures c.if-is_of_one.true) c.has_several-is_many.ensures c.if-is_many.true refl c.say_several.ensures
