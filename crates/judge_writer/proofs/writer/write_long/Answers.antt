use Rattle.std.proofs.Common.{string_bytes, ◌∙◌}
use Rattle.std.proofs.lemmas.Str.{IsUtf8-string_bytes}
use Rattle.json_histories.specs.AnyForm.{form_of}
use Rattle.json_histories.specs.declared.any_history.AnyHistory.TheVariants.{Memory}
use Rattle.json_histories.proofs.FormDepth.{any_form_depth}
use Rattle.judge_writer.proofs.Written.{compact_written, written_read}
use Rattle.judge_writer.proofs.writer.write_long.Goals as goal

pub text_of-requires : goal.text_of-requires
text_of-requires c = c.in_ok-write_history.ensures.before ∙ c.new-out.ensures.before ∙ c.new.ensures.items

pub returns-clause-text : goal.returns-clause-text
returns-clause-text c =
    c.text_of.ensures.text
    ∙ compact_written (form_of (Memory c.args.history.now)) c.new-out.result c.write_history.new.out c.new-out.ensures.tokens c.in_ok-write_history.ensures

pub returns-clause-json : goal.returns-clause-json
returns-clause-json c = (
  IsUtf8-string_bytes c.text_of.result,
  written_read (form_of (Memory c.args.history.now)) c.new-out.result c.write_history.new.out (string_bytes c.text_of.result) c.new-out.ensures.tokens
      c.in_ok-write_history.ensures c.text_of.ensures.tokens (any_form_depth (Memory c.args.history.now)),
)
