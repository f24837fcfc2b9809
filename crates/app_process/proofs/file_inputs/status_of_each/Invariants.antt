-- What was done over the files so far.
use Rattle.std.proofs.Common.{map, string_bytes}
use Rattle.app_process.specs.Faults.{ReadingFails, WritingFails, most_ahead}
use Rattle.app_process.proofs.FileLaws.{SoFar}
use Rattle.app_process.proofs.file_inputs.status_of_each.Given as goal

abbrev pub invariant-files : goal.invariant-files
invariant-files g l =
    SoFar (g.F.Open.opens l.all.files.now) (g.F.Open.lacks l.all.files.now) (ReadingFails most_ahead g.F.File.Source.called) (WritingFails g.W.Sink.called)
    (map string_bytes l.all.words.now) l.all.terminals l.all.is_many (map string_bytes l.further) (map string_bytes l.rest)
    (g.W.Sink.contents l.initial.writer) (g.W.Sink.contents l.writer) (g.E.Say.said l.initial.errors) (g.E.Say.said l.errors) l.worst
