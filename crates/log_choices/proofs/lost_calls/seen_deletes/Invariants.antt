use Rattle.std.proofs.Common.{◌≡◌, take}
use Rattle.log_choices.specs.ChoiceTables.{choice_in}
use Rattle.log_choices.specs.Steps.ChosenCalls.{seen_pairs}
use Rattle.log_choices.proofs.lost_calls.seen_deletes.Given as goal

-- the pairs of the calls so far
abbrev pub invariant-loop-call : goal.invariant-loop-call
invariant-loop-call l = l.pairs.items ≡ seen_pairs l.reads.0 (choice_in l.reads.1) (take l.call-index l.call-items)
