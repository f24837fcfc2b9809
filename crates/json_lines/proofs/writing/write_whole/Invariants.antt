use Rattle.json_lines.specs.WriteCalls.{WriteOn}
use Rattle.json_lines.proofs.WriteCallLaws.{Taken}
use Rattle.json_lines.proofs.writing.write_whole.Given as goal

abbrev pub invariant-loop : goal.invariant-loop
invariant-loop g l = record {
  taken : Taken l.initial.rest l.rest (g.W.Sink.contents l.initial.writer) (g.W.Sink.contents l.writer);
  calls : WriteOn g.W.Sink.called l.counter l.initial.writer l.writer;
}
