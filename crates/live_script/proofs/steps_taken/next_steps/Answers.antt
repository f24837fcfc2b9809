use Rattle.std.proofs.Common.{◌≡◌, ◌∷◌, ◌∙◌, ◌<◌, Ok, Some, ap, arith}
use Rattle.std.proofs.lemmas.Result.{err_from_is_err_and}
use Rattle.json.specs.Reads.{token_of}
use Rattle.json.specs.Token.{Token}
use Rattle.json_bounded.proofs.Stopping.{list_refused}
use Rattle.json_bounded.proofs.Tokens.{no_list}
use Rattle.json_tokens.proofs.Values.{list_if_read}
use Rattle.live_script.specs.Steps.StepsTaken.{IsTakenList}
use Rattle.live_script.proofs.steps_taken.next_steps.Goals as goal

pub returns-in_err-token-clause-refused : goal.returns-in_err-token-clause-refused
returns-in_err-token-clause-refused g c =
    let p = err_from_is_err_and c.from_residual.result c.from_residual.ensures.1 in
    rw (p.1, p.2) (c.in_err-token.ensures.refused c.args.depth)

pub returns-then-depth-eq0-clause-refused : goal.returns-then-depth-eq0-clause-refused
returns-then-depth-eq0-clause-refused g c =
    let rest = c.next_token.new.reader in
    let first : c.args.reader.now ≡ Token.begin_array ∷ rest = c.in_ok-token.ensures.token ∙ ap (λ t. token_of t ∷ rest) c.in-BeginArray.is in
    rw (first, c.if-depth-eq0.true) (no_list rest)

pub returns-in-Err-clause-refused : goal.returns-in-Err-clause-refused
returns-in-Err-clause-refused g c =
    let rest = c.next_token.new.reader in
    let first : c.args.reader.now ≡ Token.begin_array ∷ rest = c.in_ok-token.ensures.token ∙ ap (λ t. token_of t ∷ rest) c.in-BeginArray.is in
    let some : 0 < c.args.depth = omega arith in
    rw first (list_refused c.args.depth rest some c.in-Err.error c.in-Err.ensures.refused)

pub returns-in-Ok-clause-read : goal.returns-in-Ok-clause-read
returns-in-Ok-clause-read g c =
    let rest = c.next_token.new.reader in
    let first : c.args.reader.now ≡ Token.begin_array ∷ rest = c.in_ok-token.ensures.token ∙ ap (λ t. token_of t ∷ rest) c.in-BeginArray.is in
    let some : 0 < c.args.depth = omega arith in
    list_if_read (Ok c.in-Ok.taken) c.args.depth c.args.reader.now rest c.rest_of_steps.new.reader first some
    (λ taken ds. IsTakenList g.F.StepForms.call_form g.F.StepForms.return_form g.F.StepForms.is_call c.args.k (Some taken) ds) c.in-Ok.ensures.read
