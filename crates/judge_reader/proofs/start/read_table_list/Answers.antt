use Rattle.std.proofs.Common.{◌≡◌, ◌∷◌, Some, sym, ap, ◌∙◌}
use Rattle.std.proofs.lemmas.Result.{err_from_is_err_and}
use Rattle.json.specs.Reads.{token_of}
use Rattle.json.specs.Token.{Token}
use Rattle.std.specs.Prelude.{option_map}
use Rattle.json_bounded.proofs.Stopping.{list_refused}
use Rattle.judge_reader.specs.LongRefusals.{table_of}
use Rattle.judge_reader.specs.Steps.Reading.{table_or}
use Rattle.json_tokens.proofs.Values.{list_there}
use Rattle.judge_reader.proofs.start.read_table_list.Goals as goal

pub returns-in_err-token-clause-refused : goal.returns-in_err-token-clause-refused
returns-in_err-token-clause-refused c =
    let p = err_from_is_err_and c.from_residual.result c.from_residual.ensures.1 in
    rw (p.1, p.2) (c.in_err-token.ensures.refused c.args.depth)

pub returns-in_err-table-clause-refused : goal.returns-in_err-table-clause-refused
returns-in_err-table-clause-refused c =
    let rest = c.next_token.new.reader in
    let first : c.args.reader.now ≡ Token.begin_array ∷ rest = c.in_ok-token.ensures.token ∙ ap (λ t. token_of t ∷ rest) c.in-BeginArray.is in
    let p = err_from_is_err_and c.from_residual-in_err-table.result c.from_residual-in_err-table.ensures.1 in
    rw (p.1, p.2, first) (list_refused c.args.depth rest c.requires c.in_err-table.field-0.0 c.in_err-table.ensures.refused)

pub returns-in-BeginArray-clause-read : goal.returns-in-BeginArray-clause-read
returns-in-BeginArray-clause-read c =
    let rest = c.next_token.new.reader in
    let first : c.args.reader.now ≡ Token.begin_array ∷ rest = c.in_ok-token.ensures.token ∙ ap (λ t. token_of t ∷ rest) c.in-BeginArray.is in
    let found = c.in_ok-table.ensures.read in
    rw first
    (list_there (λ ds. option_map (λ es. table_or (table_of es)) ds ≡ Some c.ok_or.result) c.args.depth rest c.read_table.new.reader c.requires
    (found.0, found.1, ap (λ o. Some (table_or o)) found.2 ∙ ap (λ r. Some r) (sym c.ok_or.ensures.value)))
