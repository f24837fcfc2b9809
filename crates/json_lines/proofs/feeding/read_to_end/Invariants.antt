use Rattle.std.proofs.Common.{◌≤◌, length}
use Rattle.json_lines.specs.ReadCalls.{GoOn}
use Rattle.json_lines.specs.Steps.{IsFree, Takes}
use Rattle.json_lines.proofs.feeding.read_to_end.Given as goal

abbrev pub invariant-loop : goal.invariant-loop
invariant-loop g l = record {
  takes : Takes (g.R.Source.remaining l.initial.reader) (g.R.Source.remaining l.reader) l.initial.bytes.items l.bytes.items;
  free : IsFree l.bytes.items;
  short : length l.bytes.items ≤ l.most;
  calls : GoOn g.R.Source.called l.counter l.initial.reader l.reader;
}
