use Rattle.std.proofs.Common.{take}
use Rattle.std.specs.Prelude.{string_bytes}
use Rattle.log_reader.specs.NameTexts.{IsNameText}
use Rattle.app_logs.specs.Steps.ListsSoFar.{BeginsList}
use Rattle.app_logs.proofs.writing.push_names.Given as goal

-- the names so far
abbrev pub invariant-names : goal.invariant-names
invariant-names l = BeginsList IsNameText (take l.place l.names) (string_bytes l.initial.text) (string_bytes l.text)
