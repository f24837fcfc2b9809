use Rattle.std.proofs.Common.{ℕ, [], ◌∷◌, subst}
use Rattle.std.proofs.lemmas.Result.{on_ok_weaker}
use Rattle.serde_json.specs.Data.{string}
use Rattle.json_histories.specs.Reads.{number_form}
use Rattle.judge_writer.specs.Steps.{AreWritten}
use Rattle.judge_writer.proofs.Written.{more_written}
use Rattle.judge_writer.proofs.operation.write_word.Goals as goal

pub returns : goal.returns
returns c =
    on_ok_weaker c.write_number.result (λ after.
    subst (λ (n : ℕ). AreWritten (string c.args.word.now ∷ number_form n ∷ []) c.args.out.now c.write_number.new.out) c.from.ensures
    (more_written (string c.args.word.now ∷ []) (number_form c.from.result ∷ []) _ _ _ c.in_ok-write_text.ensures after)) c.write_number.ensures
