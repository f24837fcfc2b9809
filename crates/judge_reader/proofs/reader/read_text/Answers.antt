use Rattle.std.proofs.Common.{◌≡◌, [], None, arith}
use Rattle.std.proofs.lemmas.Result.{err_from_is_err_and}
use Rattle.json.specs.Lex.{tokens}
use Rattle.serde_json.specs.Read.{read}
use Rattle.json_bounded.proofs.Stopping.{nothing_whole, stops_for}
use Rattle.judge_reader.proofs.reader.read_text.Goals as goal

pub returns-in_err-token-clause-refused : goal.returns-in_err-token-clause-refused
returns-in_err-token-clause-refused c =
    let empty : tokens c.args.text.now ≡ [] = grind (arith, c.in_ok-reader.ensures.ok, c.in_err-token.ensures.none) in
    let none : read c.args.text.now ≡ None = nothing_whole c.args.text.now empty in
    let p = err_from_is_err_and c.from_residual-in_err-token.result c.from_residual-in_err-token.ensures.1 in
    rw (p.1, p.2) (stops_for _ none c.in_err-token.field-0.0)
