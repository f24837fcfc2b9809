-- So many cuts were judged.
use Rattle.std.specs.Prelude.{ℕ}
use Rattle.json_lines.specs.ReadCalls.{IsFurther}
use Rattle.app_logs.specs.Steps.TurnCalls.{GoesOnForLines, PassesCuts}
use Rattle.app_logs.specs.Steps.Watching.{HasWatched}
use Rattle.app_logs.proofs.watching.watch_from.Given as goal

abbrev pub invariant-cuts : goal.invariant-cuts
invariant-cuts g l = record {
  watched : (count : ℕ)
      × HasWatched l.watch.every l.watch.expected (g.R.Source.remaining l.initial.source) (g.R.Source.remaining l.source)
      (g.W.Sink.contents l.initial.writer) (g.W.Sink.contents l.writer) l.reader count
      × PassesCuts g.W.Sink.called count l.initial.writer l.writer;
  read_on : IsFurther (g.R.Source.remaining l.initial.source) (g.R.Source.remaining l.source);
  calls : GoesOnForLines g.R.Source.called l.initial.source l.source;
}
