use Rattle.std.proofs.Common.{◌≡◌, map, take}
use Rattle.std.specs.Prelude.{filter_map}
use Rattle.log_choices.specs.ForcedSteps.{deleted_spot, spot_of}
use Rattle.log_choices.proofs.forced_kept.listed_deletes.Given as goal

-- the deletes so far
abbrev pub invariant-loop-call : goal.invariant-loop-call
invariant-loop-call l = map spot_of l.deletes.items ≡ filter_map deleted_spot (take l.call-index l.calls)
