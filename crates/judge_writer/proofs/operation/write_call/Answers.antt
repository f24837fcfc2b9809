use Rattle.std.proofs.Common.{[], ◌∷◌, codes, sym, subst}
use Rattle.std.proofs.lemmas.Result.{on_ok_weaker}
use Rattle.model_objects.specs.declared.register.RegisterCall.{RegisterCall}
use Rattle.serde_json.specs.Data.{string}
use Rattle.json_histories.specs.Reads.{number_form}
use Rattle.judge_writer.specs.Steps.{AreWritten, call_elements}
use Rattle.judge_writer.proofs.Written.{more_written}
use Rattle.judge_writer.proofs.operation.write_call.Goals as goal

pub returns-in_ok-write_word-in-Write : goal.returns-in_ok-write_word-in-Write
returns-in_ok-write_word-in-Write c =
    on_ok_weaker c.write_number.result (λ after.
    subst (λ (call : RegisterCall). AreWritten (call_elements (record { key = c.args.call.now.key; call = call })) c.args.out.now c.write_number.new.out) (sym c.in-Write.is)
    (more_written (string (codes "w") ∷ number_form c.args.call.now.key ∷ []) (number_form c.in-Write.value ∷ []) _ _ _ c.in_ok-write_word-in-Write.ensures after))
    c.write_number.ensures
