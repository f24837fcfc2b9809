-- What is said of an error of `clap` is said of a fault in the words.
use Rattle.std.proofs.Common.{map}
use Rattle.app_command_line.proofs.Usages.{said_without_fault, usage_among}
use Rattle.app_command_line.proofs.command.usage_of.Goals as goal

pub returns : goal.returns
returns g c = usage_among _ _ c.in-Err.error _ c.in-Err.ensures.refused c.usage_by.ensures

pub returns-in-Ok : goal.returns-in-Ok
returns-in-Ok g c =
    said_without_fault _ (map g.S.AsStr.text c.args.words.now) c.fault_of_misuse.result c.in-Ok.ensures.accepted c.fault_of_misuse.ensures
