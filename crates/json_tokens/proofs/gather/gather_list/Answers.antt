use Rattle.std.proofs.Common.{◌≡◌, ◌∷◌, ◌<◌, ap, arith}
use Rattle.json.specs.Reads.{token_of}
use Rattle.json.specs.Token.{Token}
use Rattle.json_bounded.proofs.Tokens.{no_list}
use Rattle.json_tokens.specs.Gathers.{IsTakenList}
use Rattle.json_tokens.proofs.Values.{list_if_read, list_if_refused}
use Rattle.json_tokens.proofs.gather.gather_list.Goals as goal

pub returns-then-depth-eq0-clause-refused : goal.returns-then-depth-eq0-clause-refused
returns-then-depth-eq0-clause-refused g c =
    let rest = c.args.reader.now in
    let first : token_of c.args.token ∷ rest ≡ Token.begin_array ∷ rest = ap (λ t. token_of t ∷ rest) c.in-BeginArray.is in
    rw (first, c.if-depth-eq0.true) (no_list rest)

pub returns-in-BeginArray-clause-read : goal.returns-in-BeginArray-clause-read
returns-in-BeginArray-clause-read g c =
    let rest = c.args.reader.now in
    let first : token_of c.args.token ∷ rest ≡ Token.begin_array ∷ rest = ap (λ t. token_of t ∷ rest) c.in-BeginArray.is in
    let some : 0 < c.args.depth = omega arith in
    list_if_read c.gather_rest.result c.args.depth (token_of c.args.token ∷ rest) rest c.gather_rest.new.reader first some
    (λ taken ds. IsTakenList g.G.Gather.is_of g.G.Gather.refuses c.gather_rest.new.gathered taken ds) c.gather_rest.ensures.read

pub returns-in-BeginArray-clause-refused : goal.returns-in-BeginArray-clause-refused
returns-in-BeginArray-clause-refused g c =
    let rest = c.args.reader.now in
    let first : token_of c.args.token ∷ rest ≡ Token.begin_array ∷ rest = ap (λ t. token_of t ∷ rest) c.in-BeginArray.is in
    let some : 0 < c.args.depth = omega arith in
    list_if_refused c.gather_rest.result c.args.depth (token_of c.args.token ∷ rest) rest c.gather_rest.new.reader first some c.gather_rest.ensures.refused
