-- The names of a list are the first and those after its comma.
use Rattle.std.proofs.Common.{Some, None, arith}
use Rattle.std.proofs.lemmas.Str.Pattern.{split_once_first, split_parts}
use Rattle.app_command_line.proofs.Names.{listed_last, listed_none}
use Rattle.app_command_line.proofs.expected.+expected_after.Goals as goal

pub returns-in-None-and_name : goal.returns-in-None-and_name
returns-in-None-and_name t c =
    let cut = split_once_first 44 c.args.list.now (Some (c.in-Some.name, c.in-Some.further)) c.in-Some.ensures.cases (omega arith) in
    listed_none c.args.before c.args.list.now c.in-Some.name.now c.in-Some.further.now cut.0 cut.1 cut.2 c.in-None-and_name.ensures

pub returns-in-None : goal.returns-in-None
returns-in-None t c =
    listed_last c.args.before c.args.list.now c.and_name-in-None.result
    (split_parts 44 c.args.list.now None c.in-None.ensures.cases (omega arith)) c.and_name-in-None.ensures
