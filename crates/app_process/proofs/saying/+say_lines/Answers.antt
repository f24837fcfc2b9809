-- The lines of a text are the first, and those after its line feed.
use Rattle.std.proofs.Common.{Some, None, arith}
use Rattle.std.specs.Option.{option_copied}
use Rattle.std.proofs.lemmas.Str.Pattern.{split_parts}
use Rattle.app_process.proofs.SaidLaws.{says_more}
use Rattle.app_process.proofs.saying.+say_lines.Goals as goal

pub say_last-requires : goal.say_last-requires
say_last-requires g t c = split_parts 10 c.args.text.now None c.in-None.ensures.cases (omega arith)

pub returns-in-Some : goal.returns-in-Some
returns-in-Some g t c =
    let cut = split_parts 10 c.args.text.now (Some (c.in-Some.line, c.in-Some.further)) c.in-Some.ensures.cases (omega arith) in
    says_more (option_copied c.args.label) c.args.text.now c.in-Some.line.now c.in-Some.further.now _ _ _ cut.0 cut.1
    c.say_labelled.ensures c.say_lines.ensures
