use Rattle.std.proofs.Common.{◌≡◌, ◌<◌, ◌∷◌, Some, refl, ap, ◌∙◌, arith}
use Rattle.std.proofs.lemmas.Result.{err_from_is_err_and}
use Rattle.json.specs.Reads.{token_of}
use Rattle.json.specs.Token.{Token}
use Rattle.json_bounded.proofs.Stopping.{list_refused}
use Rattle.json_histories.specs.Json.{listed}
use Rattle.judge_reader.specs.Steps.Reading.{IsSessionList}
use Rattle.json_tokens.proofs.Values.{list_there}
use Rattle.judge_reader.proofs.sessions.read_session_list.Goals as goal

pub returns-in_err-token-clause-refused : goal.returns-in_err-token-clause-refused
returns-in_err-token-clause-refused c =
    let p = err_from_is_err_and c.from_residual.result c.from_residual.ensures.1 in
    rw (p.1, p.2) (c.in_err-token.ensures.refused c.args.depth)

pub returns-in_err-read_sessions-clause-refused : goal.returns-in_err-read_sessions-clause-refused
returns-in_err-read_sessions-clause-refused c =
    let rest = c.next_token.new.reader in
    let first : c.args.reader.now ≡ Token.begin_array ∷ rest = c.in_ok-token.ensures.token ∙ ap (λ t. token_of t ∷ rest) c.in-BeginArray.is in
    let some : 0 < c.args.depth = omega arith in
    let p = err_from_is_err_and c.from_residual-in_err-read_sessions.result c.from_residual-in_err-read_sessions.ensures.1 in
    rw (p.1, p.2, first) (list_refused c.args.depth rest some c.in_err-read_sessions.field-0.0 c.in_err-read_sessions.ensures.refused)

pub returns-in-BeginArray-clause-read : goal.returns-in-BeginArray-clause-read
returns-in-BeginArray-clause-read c =
    let rest = c.next_token.new.reader in
    let first : c.args.reader.now ≡ Token.begin_array ∷ rest = c.in_ok-token.ensures.token ∙ ap (λ t. token_of t ∷ rest) c.in-BeginArray.is in
    let some : 0 < c.args.depth = omega arith in
    let found = c.in_ok-read_sessions.ensures.read in
    rw first (list_there (λ ds. IsSessionList ds (Some c.in_ok-read_sessions.field-0)) c.args.depth rest c.read_sessions.new.reader some (found.0, found.1, (listed found.0, refl, found.2)))
