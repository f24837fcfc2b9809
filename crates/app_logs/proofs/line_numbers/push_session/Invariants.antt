use Rattle.std.proofs.Common.{take}
use Rattle.std.specs.Prelude.{string_bytes}
use Rattle.app_logs.specs.LogTexts.{IsCallLine}
use Rattle.app_logs.specs.Steps.ListsSoFar.{BeginsList}
use Rattle.app_logs.proofs.line_numbers.push_session.Given as goal

-- the lines so far
abbrev pub invariant-loop-place : goal.invariant-loop-place
invariant-loop-place l = BeginsList (IsCallLine l.reader.log) (take l.place l.calls) (string_bytes l.initial.text) (string_bytes l.text)
