-- What was read so far is what the reader gave.
use Rattle.std.specs.Io.KnownBytes.{Consumes}
use Rattle.app_process.proofs.first_bytes.look.Given as goal

abbrev pub invariant-calls : goal.invariant-calls
invariant-calls g l = Consumes (g.R.Source.remaining l.initial.reader) (g.R.Source.remaining l.reader) l.bytes.items
