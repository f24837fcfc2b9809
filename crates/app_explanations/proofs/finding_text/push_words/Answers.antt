use Rattle.std.specs.Prelude.{string_bytes}
use Rattle.app_explanations.proofs.CoreLines.{plain_holds, words_more}
use Rattle.app_explanations.proofs.finding_text.push_words.Goals as goal

pub returns-in_ok-push_line : goal.returns-in_ok-push_line
returns-in_ok-push_line c = λ long history criterion are.
    words_more long history criterion (string_bytes c.args.text.now) c.args.line.now (string_bytes c.push_line.new.text) c.in_ok-push_line.ensures
    (c.is_one_line.ensures.0 c.if-is_one_line.true)
    (plain_holds long history criterion c.args.line.now (c.has_no_core.ensures c.if-has_no_core.true)) are
