use Rattle.json_tokens.proofs.Values.{no_list_there}
use Rattle.json_tokens.proofs.passing.pass_no_list.Goals as goal

pub returns-clause-passed : goal.returns-clause-passed
returns-clause-passed c =
    let found = c.in_ok-value.ensures.read in
    (found.0, found.1, no_list_there found.0 c.read_value.new.reader c.args.depth c.args.token c.args.reader.now c.requires found.1)
