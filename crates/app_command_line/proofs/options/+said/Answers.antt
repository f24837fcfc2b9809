-- What words say is said by the first of them that names no file, and by those after it.
use Rattle.app_command_line.proofs.Saying.{says_later, says_next, says_no_value, says_value}
use Rattle.app_command_line.proofs.options.+said.Goals as goal

pub said_with_value-returns-in-None : goal.said_with_value-returns-in-None
said_with_value-returns-in-None g t c =
    says_no_value g.S.AsStr.text c.args.before.now c.args.word.now c.as_str.result.now c.args.later.now c.value-item.result
    c.in-len1-up.len_at_least c.value-item.is c.as_str.ensures c.in-None.ensures

pub said_in-returns-in-Some : goal.said_in-returns-in-Some
said_in-returns-in-Some g t c =
    says_next g.S.AsStr.text c.args.before.now c.in-Some.said c.args.words.now c.after_files-rest.result.now c.word-item.result c.as_str.result.now
    c.said_in.result c.after_files-rest.ensures.same c.in-len1-up.len_at_least c.word-item.is c.as_str.ensures c.in-Some.ensures c.said_in.ensures

pub said_in-returns-in-None : goal.said_in-returns-in-None
said_in-returns-in-None g t c =
    says_later g.S.AsStr.text c.args.before.now c.args.words.now c.after_files-rest.result.now c.word-item.result c.as_str.result.now
    c.as_str-in-None.result.now c.said_with_value.result c.after_files-rest.ensures.same c.after_files-rest.ensures.first
    c.in-len1-up.len_at_least c.word-item.is c.as_str.ensures c.as_str-in-None.ensures c.in-None.ensures c.said_with_value.ensures

pub said_with_value-returns-in-Some : goal.said_with_value-returns-in-Some
said_with_value-returns-in-Some g t c =
    says_value g.S.AsStr.text c.args.before.now c.in-Some.said c.args.word.now c.as_str.result.now c.args.later.now c.value-item.result c.said_in.result
    c.in-len1-up.len_at_least c.value-item.is c.as_str.ensures c.in-Some.ensures c.said_in.ensures
