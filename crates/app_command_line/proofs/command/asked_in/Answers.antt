-- The command's word is the second one of the command line.
use Rattle.app_command_line.proofs.Words.{too_few, whole_command}
use Rattle.app_command_line.proofs.command.asked_in.Goals as goal

pub returns-in_default : goal.returns-in_default
returns-in_default g c = too_few g.S.AsStr.text c.args.sight c.args.words.now c.in_default.len_below

pub returns : goal.returns
returns g c =
    whole_command g.S.AsStr.text c.args.sight c.args.words.now c.word-item.result c.as_str.result.now c.asked_of.result c.in-len2-up.len_at_least c.word-item.is
    c.as_str.ensures c.asked_of.ensures
