use Rattle.serde_json.specs.View.{view}
use Rattle.json_tokens.proofs.CutHistories.{history_read}
use Rattle.json_tokens.proofs.histories.next_history.Goals as goal

pub returns-in-Ok-clause-read : goal.returns-in-Ok-clause-read
returns-in-Ok-clause-read c =
    let seen = c.in-Ok.ensures.read in
    (seen.0, seen.1, history_read seen.0 (view c.in-Ok.value) c.history_of-read.result seen.2 c.history_of-read.ensures.is_history c.history_of-read.ensures.form c.history_of-read.ensures.refused)

pub returns-in-Ok-clause-shorter : goal.returns-in-Ok-clause-shorter
returns-in-Ok-clause-shorter c = c.in-Ok.ensures.shorter

pub returns-in-Err-clause-refused : goal.returns-in-Err-clause-refused
returns-in-Err-clause-refused c = c.in-Err.ensures.refused
