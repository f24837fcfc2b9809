use Rattle.std.proofs.Common.{◌≡◌, ◌≤◌, ◌+◌, ℕ, length, max}
use Rattle.json_lines.specs.ReadCalls.{GoOnForLines, IsFurther}
use Rattle.json_lines.specs.declared.read_call.TheConstants.{MAX_READ_CALLS}
use Rattle.log_reader.specs.ReadSteps.{ReadsMore}
use Rattle.log_reader.specs.Readings.{Extends}
use Rattle.log_reader.proofs.event_reader.EventReader.read.Given as goal

abbrev pub invariant-loop : goal.invariant-loop
invariant-loop g l = record {
  more : ReadsMore (g.R.Source.remaining l.initial.source) (g.R.Source.remaining l.source) l.initial.self l.self;
  extends : Extends l.initial.self.log l.self.log;
  calls : (lines : ℕ) × (l.self.count ≡ l.initial.self.count + lines) × GoOnForLines g.R.Source.called MAX_READ_CALLS lines l.initial.source l.source;
  further : IsFurther (g.R.Source.remaining l.initial.source) (g.R.Source.remaining l.source);
  few : length l.self.log.events ≤ max l.most (length l.initial.self.log.events);
}
