use Rattle.std.proofs.Common.{◌≡◌, [], None, arith}
use Rattle.std.proofs.lemmas.Result.{err_from_is_err_and}
use Rattle.json.specs.Json.{after_end_array}
use Rattle.json_tokens.proofs.Elements.{element_refused, read_none}
use Rattle.judge_reader.proofs.scalar.next_scalar.Goals as goal

pub returns-in_err-token-clause-refused : goal.returns-in_err-token-clause-refused
returns-in_err-token-clause-refused c =
    let depth = c.args.depth in
    let old = c.args.reader.now in
    let going : (after_end_array old ≡ None) × (c.take_end_array.new.self ≡ old) = grind arith in
    let p = err_from_is_err_and c.from_residual.result c.from_residual.ensures.1 in
    rw (p.1, p.2) (element_refused depth old old [] (read_none depth old) going.0 c.in_err-token.field-0.0 (rw (← going.1) (c.in_err-token.ensures.refused depth)))

pub returns-in_err-read_scalar-clause-refused : goal.returns-in_err-read_scalar-clause-refused
returns-in_err-read_scalar-clause-refused c =
    let depth = c.args.depth in
    let old = c.args.reader.now in
    let going : (after_end_array old ≡ None) × (c.take_end_array.new.self ≡ old) = grind arith in
    let p = err_from_is_err_and c.from_residual-in_err-read_scalar.result c.from_residual-in_err-read_scalar.ensures.1 in
    rw (p.1, p.2) (element_refused depth old old [] (read_none depth old) going.0 c.in_err-read_scalar.field-0.0 (rw (← going.1, c.in_ok-token.ensures.token) c.in_err-read_scalar.ensures.refused))
