use Rattle.std.proofs.Common.{◌≡◌, take}
use Rattle.log_choices.specs.ChoiceTables.{choice_in}
use Rattle.log_choices.specs.Steps.ChosenCalls.{left_out_keys}
use Rattle.log_choices.proofs.left_out.left_out_keys.Given as goal

-- the keys of the calls so far
abbrev pub invariant-loop-call : goal.invariant-loop-call
invariant-loop-call l = l.keys.items ≡ left_out_keys l.reads.0 (choice_in l.reads.1) (take l.call-index l.call-items)
