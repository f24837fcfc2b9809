use Rattle.std.proofs.Common.{◌≡◌, [], ap, ◌∙◌, arith}
use Rattle.json_bounded.proofs.Tokens.{next, at_end}
use Rattle.json_tokens.proofs.passing.next_token.Goals as goal

pub returns-in-None-clause-refused : goal.returns-in-None-clause-refused
returns-in-None-clause-refused c = λ depth.
    let none : c.args.reader.now ≡ [] = grind arith in
    ap (next depth) none ∙ at_end depth
