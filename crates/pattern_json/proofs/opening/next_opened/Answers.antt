use Rattle.std.proofs.Common.{◌≡◌, ◌∷◌, ◌∙◌, ◌<◌, ap, arith}
use Rattle.std.proofs.lemmas.Result.{err_from_is_err_and}
use Rattle.json.specs.Reads.{token_of}
use Rattle.json.specs.Token.{Token}
use Rattle.json_bounded.proofs.Tokens.{no_list as no_list_within}
use Rattle.json_tokens.proofs.Values.{list_if_refused}
use Rattle.pattern_json.specs.Steps.Taken.{opened_parts}
use Rattle.pattern_json.proofs.Openings.{list_if_there}
use Rattle.pattern_json.proofs.Wholes.{no_list}
use Rattle.pattern_json.proofs.opening.next_opened.Goals as goal

pub returns-in_err-token-clause-refused : goal.returns-in_err-token-clause-refused
returns-in_err-token-clause-refused g c =
    let p = err_from_is_err_and c.from_residual.result c.from_residual.ensures.1 in
    rw (p.1, p.2) (c.in_err-token.ensures.refused c.args.depth)

pub returns-then-depth-eq0-clause-refused : goal.returns-then-depth-eq0-clause-refused
returns-then-depth-eq0-clause-refused g c =
    let rest = c.next_token.new.reader in
    let first : c.args.reader.now ≡ Token.begin_array ∷ rest = c.in_ok-token.ensures.token ∙ ap (λ t. token_of t ∷ rest) c.in-BeginArray.is in
    rw (first, c.if-depth-eq0.true) (no_list_within rest)

pub returns-in-BeginArray-clause-read : goal.returns-in-BeginArray-clause-read
returns-in-BeginArray-clause-read g c =
    let rest = c.next_token.new.reader in
    let first : c.args.reader.now ≡ Token.begin_array ∷ rest = c.in_ok-token.ensures.token ∙ ap (λ t. token_of t ∷ rest) c.in-BeginArray.is in
    let some : 0 < c.args.depth = omega arith in
    list_if_there (opened_parts g.W.Word.name g.W.Opening.word_of g.W.Opening.shown) c.args.depth c.args.reader.now rest c.opened_rest.new.reader first some
    c.opened_rest.result c.opened_rest.ensures.read

pub returns-in-BeginArray-clause-refused : goal.returns-in-BeginArray-clause-refused
returns-in-BeginArray-clause-refused g c =
    let rest = c.next_token.new.reader in
    let first : c.args.reader.now ≡ Token.begin_array ∷ rest = c.in_ok-token.ensures.token ∙ ap (λ t. token_of t ∷ rest) c.in-BeginArray.is in
    let some : 0 < c.args.depth = omega arith in
    list_if_refused c.opened_rest.result c.args.depth c.args.reader.now rest c.opened_rest.new.reader first some c.opened_rest.ensures.refused

pub returns-clause-read : goal.returns-clause-read
returns-clause-read g c =
    let found = c.in_ok-pass_no_list.ensures.passed in
    (found.0, rw (c.in_ok-token.ensures.token) found.1, no_list (opened_parts g.W.Word.name g.W.Opening.word_of g.W.Opening.shown) found.0 found.2)
