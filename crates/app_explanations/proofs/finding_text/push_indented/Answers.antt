use Rattle.std.proofs.Common.{◌+◌, arith, string_bytes}
use Rattle.app_explanations.proofs.Indented.{one_line_more, up_to_more}
use Rattle.app_explanations.proofs.finding_text.push_indented.Goals as goal

pub returns-in_ok-push_line : goal.returns-in_ok-push_line
returns-in_ok-push_line c n lines =
    one_line_more (string_bytes c.args.text.now) c.args.line.now (string_bytes c.push_line.new.text) n c.in_ok-push_line.ensures lines
    (c.is_one_line.ensures.0 c.if-is_one_line.true)

pub returns-else-is_one_line : goal.returns-else-is_one_line
returns-else-is_one_line c n lines = up_to_more (string_bytes c.args.text.now) n (n + 1) (omega arith) lines
