use Rattle.std.proofs.Common.{take}
use Rattle.log_choices.proofs.CheckedChoices.{AreRisingBelow}
use Rattle.log_choices.proofs.checked_choice.is_rising.Given as goal

-- those so far rise, and are below the least that may come
abbrev pub invariant-loop-entry : goal.invariant-loop-entry
invariant-loop-entry l = AreRisingBelow l.least (take l.entry-index l.entries)
