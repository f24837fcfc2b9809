use Rattle.std.proofs.Common.{ℕ, List, [], ◌∷◌, codes, map, subst}
use Rattle.std.proofs.lemmas.Result.{on_ok_weaker}
use Rattle.serde_json.specs.Data.{string}
use Rattle.json_histories.specs.Json.{list}
use Rattle.json_histories.specs.RegisterForm as register
use Rattle.json_histories.specs.Spelling.{table_form}
use Rattle.judge_writer.specs.Steps.{AreWritten, operations_form}
use Rattle.judge_writer.proofs.Written.{list_written, more_written}
use Rattle.judge_writer.proofs.writer.write_history.Goals as goal

pub returns : goal.returns
returns c =
    let h = c.args.history.now in
    let sessions = list (map operations_form h.1) in
    let start = table_form register.start_form h.0 in
    let table : AreWritten start c.write_sessions.new.out c.write_start.new.out =
    subst (λ (t : List (ℕ × ℕ)). AreWritten (table_form register.start_form t) c.write_sessions.new.out c.write_start.new.out) c.start.ensures c.in_ok-write_start.ensures in
    on_ok_weaker c.end_array.result (λ after.
    list_written (string (codes "memory") ∷ sessions ∷ start) _ _ _ _ (c.begin_array.ensures.room.0, c.in_ok-begin_array.ensures.ok)
    (more_written (string (codes "memory") ∷ sessions ∷ []) start _ _ _
    (more_written (string (codes "memory") ∷ []) (sessions ∷ []) _ _ _ c.in_ok-write_text.ensures c.in_ok-write_sessions.ensures) table)
    (c.end_array.ensures.room.0, after)) c.end_array.ensures.ok
