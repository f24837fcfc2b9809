use Rattle.std.proofs.Common.{◌∙◌, sym}
use Rattle.log_events.specs.Events.{run_calls}
use Rattle.log_choices.proofs.ChosenCallsLaws.{key-listed}
use Rattle.log_choices.proofs.left_out.left_out_key.Goals as goal

pub saw-requires : goal.saw-requires
saw-requires c = key-listed (run_calls c.args.reads.now.0) c.args.call.now c.in_ok-key.key c.requires (sym c.missed_key.ensures ∙ c.in_ok-key.was)
