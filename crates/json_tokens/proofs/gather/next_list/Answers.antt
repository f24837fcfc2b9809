use Rattle.std.proofs.lemmas.Result.{err_from_is_err_and}
use Rattle.json_tokens.proofs.gather.next_list.Goals as goal

pub returns-in_err-token-clause-refused : goal.returns-in_err-token-clause-refused
returns-in_err-token-clause-refused g c =
    let p = err_from_is_err_and c.from_residual.result c.from_residual.ensures.1 in
    rw (p.1, p.2) (c.in_err-token.ensures.refused c.args.depth)
