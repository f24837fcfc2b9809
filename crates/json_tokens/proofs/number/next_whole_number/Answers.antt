use Rattle.std.proofs.lemmas.Result.{err_from_is_err_and}
use Rattle.serde_json.specs.View.{view}
use Rattle.json_tokens.proofs.NumberTokens.{number_of_cut}
use Rattle.json_tokens.proofs.number.next_whole_number.Goals as goal

pub returns-in_err-token-clause-refused : goal.returns-in_err-token-clause-refused
returns-in_err-token-clause-refused c =
    let p = err_from_is_err_and c.from_residual.result c.from_residual.ensures.1 in
    rw (p.1, p.2) (c.in_err-token.ensures.refused c.args.depth)

pub returns-clause-read : goal.returns-clause-read
returns-clause-read c =
    let found = c.in_ok-value.ensures.read in
    (found.0, rw c.in_ok-token.ensures.token found.1, number_of_cut found.0 (view c.in_ok-value.value) c.as_u64-number.result found.2 c.as_u64-number.ensures)
