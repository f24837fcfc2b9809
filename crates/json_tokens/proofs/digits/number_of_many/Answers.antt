use Rattle.std.specs.Prelude.{◌≢◌, get_or}
use Rattle.json_tokens.proofs.WholeNumbers.{number_parsed}
use Rattle.json_tokens.proofs.digits.number_of_many.Goals as goal

pub returns-in-Ok : goal.returns-in-Ok
returns-in-Ok c =
    let s = c.args.text.now in
    let no_plus : get_or s 0 0 ≢ 43 = rw (← c.as_bytes-bytes.ensures.value) c.if-bytes-eq43.false in
    number_parsed s c.parse.result c.in-Ok.number no_plus c.parse.ensures.value.0 c.in-Ok.is
