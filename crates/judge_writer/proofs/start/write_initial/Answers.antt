use Rattle.std.proofs.Common.{ℕ, [], ◌∷◌, subst}
use Rattle.std.proofs.lemmas.Result.{on_ok_weaker}
use Rattle.json_histories.specs.Json.{list}
use Rattle.json_histories.specs.Reads.{number_form}
use Rattle.judge_writer.specs.Steps.{IsWritten}
use Rattle.judge_writer.proofs.Written.{list_written, more_written}
use Rattle.judge_writer.proofs.start.write_initial.Goals as goal

pub returns : goal.returns
returns c =
    let key = c.from.result in
    let value = c.args.entry.now.1 in
    on_ok_weaker c.end_array.result (λ after.
    subst (λ (n : ℕ). IsWritten (list (number_form n ∷ number_form value ∷ [])) c.args.out.now c.end_array.new.self) c.from.ensures
    (list_written (number_form key ∷ number_form value ∷ []) _ _ _ _ (c.begin_array.ensures.room.0, c.in_ok-begin_array.ensures.ok)
    (more_written (number_form key ∷ []) (number_form value ∷ []) _ _ _ c.in_ok-write_number.ensures c.in_ok-write_number-2.ensures)
    (c.end_array.ensures.room.0, after))) c.end_array.ensures.ok
