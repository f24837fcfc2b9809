use Rattle.std.proofs.Common.{◌∙◌, ◌∷◌, ap, arith, length}
use Rattle.std.proofs.lemmas.Result.{err_from_is_err_and}
use Rattle.json.specs.Reads.{token_of}
use Rattle.serde_json.specs.Data.{string}
use Rattle.json_bounded.proofs.Tokens.{at_string, next}
use Rattle.pattern_json.proofs.Scalars.{no_text_there}
use Rattle.live_script.proofs.filing.next_case.Goals as goal

pub returns-in_err-token-clause-refused : goal.returns-in_err-token-clause-refused
returns-in_err-token-clause-refused c =
    let p = err_from_is_err_and c.from_residual.result c.from_residual.ensures.1 in
    rw (p.1, p.2) (c.in_err-token.ensures.refused c.args.depth)

pub returns-in-String-clause-read : goal.returns-in-String-clause-read
returns-in-String-clause-read c =
    let text = c.in-String.name.now in
    let rest = c.next_token.new.reader in (
      string text,
      ap (next c.args.depth) (c.in_ok-token.ensures.token ∙ ap (λ t. token_of t ∷ rest) c.in-String.is) ∙ at_string c.args.depth rest text,
      c.named_case.ensures,
    )

pub returns-in-Ok : goal.returns-in-Ok
returns-in-Ok c =
    let found = c.in-Ok.ensures.read in
    let none = no_text_there found.0 c.certificate_from.new.reader c.args.depth c.in_ok-token.token c.next_token.new.reader c.in_default.not-String found.1 in
    let less = c.in-Ok.ensures.shorter in
    let one = ap length c.in_ok-token.ensures.token in
    record {
      read = (found.0, rw c.in_ok-token.ensures.token found.1, c.certified_case.ensures found.0 none found.2);
      shorter = omega (arith, less, one);
      refused = tt;
    }
