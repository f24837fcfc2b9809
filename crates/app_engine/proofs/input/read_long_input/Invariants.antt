use Rattle.std.proofs.Common.{◌+◌, ◌-◌, ◌*◌, ◌<◌, ◌≤◌, vec_len}
use Rattle.std.specs.Io.KnownBytes.{Consumes}
use Rattle.json_lines.specs.declared.read_call.TheConstants.{MAX_READ_CALLS}
use Rattle.app_engine.specs.declared.input.TheConstants.{MAX_LONG_INPUT_BYTES}
use Rattle.app_engine.proofs.ReadCallLaws.{IsIdling}
use Rattle.app_engine.proofs.input.read_long_input.Given as goal

abbrev pub invariant-calls : goal.invariant-calls
invariant-calls g l = record {
  taken : Consumes (g.R.Source.remaining l.initial.reader) (g.R.Source.remaining l.reader) l.input.items;
  within : vec_len l.input ≤ MAX_LONG_INPUT_BYTES;
  room : 0 < vec_len l.chunk;
  few : l.idle ≤ MAX_READ_CALLS;
  idling : IsIdling g.R.Source.called MAX_READ_CALLS l.idle l.initial.reader l.reader;
}

-- a byte more, or a call more in a row that brings none
abbrev pub decreases-calls : goal.decreases-calls
decreases-calls g l = (MAX_LONG_INPUT_BYTES - vec_len l.input) * (MAX_READ_CALLS + 1) + (MAX_READ_CALLS - l.idle)
