use Rattle.std.proofs.Common.{◌∙◌, ◌∷◌, ap}
use Rattle.std.proofs.lemmas.Result.{err_from_is_err_and}
use Rattle.json.specs.Reads.{token_of}
use Rattle.serde_json.specs.Data.{string}
use Rattle.json_bounded.proofs.Tokens.{at_string, next}
use Rattle.pattern_json.proofs.Scalars.{no_text_there, text_read}
use Rattle.pattern_json.proofs.word.next_word.Goals as goal

pub returns-in_err-token-clause-refused : goal.returns-in_err-token-clause-refused
returns-in_err-token-clause-refused g c =
    let p = err_from_is_err_and c.from_residual.result c.from_residual.ensures.1 in
    rw (p.1, p.2) (c.in_err-token.ensures.refused c.args.depth)

pub returns-in-String-clause-read : goal.returns-in-String-clause-read
returns-in-String-clause-read g c =
    let text = c.in-String.text.now in
    let rest = c.next_token.new.reader in (
      string text,
      ap (next c.args.depth) (c.in_ok-token.ensures.token ∙ ap (λ t. token_of t ∷ rest) c.in-String.is) ∙ at_string c.args.depth rest text,
      text_read g.W.Word.name text c.named.result c.named.ensures,
    )

pub returns-clause-read : goal.returns-clause-read
returns-clause-read g c =
    let found = c.in_ok-_value.ensures.read in
    let none = no_text_there found.0 c.read_value.new.reader c.args.depth c.in_ok-token.token c.next_token.new.reader c.in_default.not-String found.1 in
    (found.0, rw c.in_ok-token.ensures.token found.1, λ word same. none (g.W.Word.name word) same)
