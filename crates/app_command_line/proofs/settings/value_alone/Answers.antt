-- A word is cut at its equals sign.
use Rattle.std.proofs.Common.{Some, None, arith}
use Rattle.std.proofs.lemmas.Str.Pattern.{split_once_first, split_parts}
use Rattle.app_command_line.proofs.SettingWords.{no_value, said_by_value}
use Rattle.app_command_line.proofs.settings.value_alone.Goals as goal

pub returns-in-Some : goal.returns-in-Some
returns-in-Some c =
    let parts = split_parts 61 c.args.word.now (Some (c.in-Some.option, c.in-Some.value)) c.in-Some.ensures.cases (omega arith) in
    let cut = split_once_first 61 c.args.word.now (Some (c.in-Some.option, c.in-Some.value)) c.in-Some.ensures.cases (omega arith) in
    said_by_value c.args.word.now c.in-Some.option.now c.in-Some.value.now c.setting_together.result c.requires parts.0 cut.1 cut.2
    c.setting_together.ensures

pub returns-in-None : goal.returns-in-None
returns-in-None c = no_value c.args.word.now c.requires (split_parts 61 c.args.word.now None c.in-None.ensures.cases (omega arith))
