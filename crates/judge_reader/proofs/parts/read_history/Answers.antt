use Rattle.std.proofs.Common.{◌≡◌, ◌<◌, ◌∷◌, ap, arith}
use Rattle.json.specs.Reads.{token_of}
use Rattle.json.specs.Token.{Token}
use Rattle.judge_reader.specs.Steps.Reading.{AreParts, parts_in}
use Rattle.json_tokens.proofs.Values.{list_if_read, list_if_refused}
use Rattle.judge_reader.proofs.parts.read_history.Goals as goal

pub returns-in-BeginArray-clause-read : goal.returns-in-BeginArray-clause-read
returns-in-BeginArray-clause-read c =
    let rest = c.args.reader.now in
    let first : token_of c.args.token ∷ rest ≡ Token.begin_array ∷ rest = ap (λ t. token_of t ∷ rest) c.in-BeginArray.is in
    let some : 0 < c.args.depth = omega arith in
    list_if_read c.read_parts.result c.args.depth (token_of c.args.token ∷ rest) rest c.read_parts.new.reader first some (λ r ds. AreParts (parts_in ds) r) c.read_parts.ensures.read

pub returns-in-BeginArray-clause-refused : goal.returns-in-BeginArray-clause-refused
returns-in-BeginArray-clause-refused c =
    let rest = c.args.reader.now in
    let first : token_of c.args.token ∷ rest ≡ Token.begin_array ∷ rest = ap (λ t. token_of t ∷ rest) c.in-BeginArray.is in
    let some : 0 < c.args.depth = omega arith in
    list_if_refused c.read_parts.result c.args.depth (token_of c.args.token ∷ rest) rest c.read_parts.new.reader first some c.read_parts.ensures.refused
