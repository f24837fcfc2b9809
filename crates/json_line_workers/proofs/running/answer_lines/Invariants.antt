use Rattle.std.proofs.Common.{Some}
use Rattle.json_line_workers.proofs.running.answer_lines.Given as goal

abbrev pub ghosts-answer_as-J-Job : goal.ghosts-answer_as-J-Job
ghosts-answer_as-J-Job g a = record {
  says = g.C.LineHandler.says a.handler.now;
  input = g.R.Source.remaining a.reader;
  before = g.W.Sink.contents a.writer;
  most = g.C.LineHandler.most a.handler.now;
}

abbrev pub ghosts-answer_as-J-ReadFrom : goal.ghosts-answer_as-J-ReadFrom
ghosts-answer_as-J-ReadFrom g a = record { reader = Some a.reader }

abbrev pub ghosts-answer_as-J-WrittenTo : goal.ghosts-answer_as-J-WrittenTo
ghosts-answer_as-J-WrittenTo g a = record { writer = Some a.writer }
