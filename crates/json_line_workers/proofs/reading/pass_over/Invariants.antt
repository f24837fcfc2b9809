use Rattle.std.proofs.Common.{◌≡◌, []}
use Rattle.json_lines.specs.ReadCalls.{GoOn}
use Rattle.json_line_workers.specs.Pieces.{IsCut}
use Rattle.json_line_workers.specs.Pieces.{Passed}
use Rattle.json_line_workers.proofs.reading.pass_over.Given as goal

abbrev pub invariant-loop : goal.invariant-loop
invariant-loop g l = record {
  passes : Passed (g.R.Source.remaining l.initial.reader) (g.R.Source.remaining l.reader) l.passed;
  calls : GoOn g.R.Source.called l.counter l.initial.reader l.reader;
  nothing : l.held.bytes.items ≡ [];
  cut : IsCut l.held.whole l.held.bytes.items;
  at : l.held.at ≡ l.initial.held.at;
}
