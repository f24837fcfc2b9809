-- A text without a line feed is one line, or none.
use Rattle.std.proofs.Common.{rules}
use Rattle.std.specs.Option.{option_copied}
use Rattle.app_process.proofs.SaidLaws.{says_last, says_none}
use Rattle.app_process.proofs.saying.say_last.Goals as goal

pub returns-then-not-is_empty : goal.returns-then-not-is_empty
returns-then-not-is_empty g c =
    says_last (option_copied c.args.label) c.args.text.now _ _ (search rules) c.requires c.say_labelled.ensures

pub returns-else-not-is_empty : goal.returns-else-not-is_empty
returns-else-not-is_empty g c = says_none (option_copied c.args.label) c.args.text.now _ (search rules)
