use Rattle.std.proofs.Common.{take}
use Rattle.std.specs.Prelude.{string_bytes}
use Rattle.app_logs.specs.LogTexts.{IsCallLine}
use Rattle.app_logs.specs.TextLists.{IsListText}
use Rattle.app_logs.specs.Steps.ListsSoFar.{BeginsList}
use Rattle.app_logs.proofs.line_numbers.lines_text.Given as goal

-- the sessions so far
abbrev pub invariant-loop-session : goal.invariant-loop-session
invariant-loop-session l = BeginsList (IsListText (IsCallLine l.reader.log)) (take l.session l.sessions) (string_bytes l.initial.text) (string_bytes l.text)
