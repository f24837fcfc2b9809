-- A value that is a list is not at fault, and there is no other one.
use Rattle.std.proofs.Common.{map}
use Rattle.app_command_line.proofs.Misuses.{is_list}
use Rattle.app_command_line.proofs.misuse_text.bad_list.Goals as goal

pub returns-in-Some-expected_in : goal.returns-in-Some-expected_in
returns-in-Some-expected_in g c other =
    is_list (map g.S.AsStr.text c.args.words.now) c.in-Some.list.now other c.in-Some-expected_in.field-0 c.in-Some.ensures
    c.in-Some-expected_in.ensures
