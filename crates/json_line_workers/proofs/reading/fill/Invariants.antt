use Rattle.std.proofs.Common.{◌≡◌, ◌≤◌, ◌+◌, length}
use Rattle.json_lines.specs.ReadCalls.{GoOn}
use Rattle.json_lines.specs.Steps.{Takes}
use Rattle.json_line_workers.specs.Pieces.{IsCut}
use Rattle.json_line_workers.proofs.reading.fill.Given as goal

abbrev pub invariant-loop : goal.invariant-loop
invariant-loop g l = record {
  takes : Takes (g.R.Source.remaining l.initial.reader) (g.R.Source.remaining l.reader) l.initial.held.bytes.items l.held.bytes.items;
  calls : GoOn g.R.Source.called l.counter l.initial.reader l.reader;
  cut : IsCut l.held.whole l.held.bytes.items;
  at : l.held.at ≡ l.initial.held.at;
  few : length l.held.bytes.items ≤ l.fn.most + length l.initial.chunk;
  chunk : length l.chunk ≡ length l.initial.chunk;
}
