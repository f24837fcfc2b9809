use Rattle.std.proofs.Common.{◌≡◌, ◌∷◌, ap, ◌∙◌, arith}
use Rattle.std.proofs.lemmas.Result.{err_from_is_err_and}
use Rattle.json.specs.Reads.{token_of}
use Rattle.json.specs.Token.{Token}
use Rattle.judge_reader.specs.Steps.Reading.{IsSessionRead}
use Rattle.json_tokens.proofs.Values.{list_if_read, list_if_refused}
use Rattle.judge_reader.proofs.sessions.read_session.Goals as goal

pub returns-in_err-token-clause-refused : goal.returns-in_err-token-clause-refused
returns-in_err-token-clause-refused c =
    let p = err_from_is_err_and c.from_residual.result c.from_residual.ensures.1 in
    rw (p.1, p.2) (c.in_err-token.ensures.refused c.args.depth)

pub returns-in-BeginArray-clause-read : goal.returns-in-BeginArray-clause-read
returns-in-BeginArray-clause-read c =
    let rest = c.next_token.new.reader in
    let first : c.args.reader.now ≡ Token.begin_array ∷ rest = c.in_ok-token.ensures.token ∙ ap (λ t. token_of t ∷ rest) c.in-BeginArray.is in
    list_if_read c.read_operations.result c.args.depth c.args.reader.now rest c.read_operations.new.reader first (omega (arith, c.requires))
    (λ refusal ds. IsSessionRead c.args.s ds c.args.entries.now.items c.read_operations.new.entries.items refusal) c.read_operations.ensures.read

pub returns-in-BeginArray-clause-refused : goal.returns-in-BeginArray-clause-refused
returns-in-BeginArray-clause-refused c =
    let rest = c.next_token.new.reader in
    let first : c.args.reader.now ≡ Token.begin_array ∷ rest = c.in_ok-token.ensures.token ∙ ap (λ t. token_of t ∷ rest) c.in-BeginArray.is in
    list_if_refused c.read_operations.result c.args.depth c.args.reader.now rest c.read_operations.new.reader first (omega (arith, c.requires)) c.read_operations.ensures.refused
