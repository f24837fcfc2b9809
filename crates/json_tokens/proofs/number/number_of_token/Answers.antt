use Rattle.std.proofs.Common.{ap}
use Rattle.json.specs.Reads.{token_of}
use Rattle.json_tokens.proofs.NumberTokens.{alone_if_number}
use Rattle.json_tokens.proofs.number.number_of_token.Goals as goal

pub returns-in-Number : goal.returns-in-Number
returns-in-Number c = alone_if_number (token_of c.args.token.now) c.in-Number.text.now c.whole_number.result (ap token_of c.in-Number.is) c.whole_number.ensures
