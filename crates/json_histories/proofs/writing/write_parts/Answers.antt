use Rattle.std.proofs.Common.{◌∷◌, [], ap, subst, ◌∙◌}
use Rattle.serde_json.specs.Data.{string}
use Rattle.json_histories.proofs.JsonLists.{view_list}
use Rattle.json_histories.proofs.PartsWritten.{parts_written}
use Rattle.json_histories.proofs.writing.write_parts.Goals as goal

pub returns-clause-form : goal.returns-clause-form
returns-clause-form g c =
    let name = c.in_ok-values.ensures ∙ ap (λ n. string n ∷ []) c.name.ensures in
    let start = c.in_ok-write_start.ensures ∙ ap g.O.Named.start_form c.start.ensures.start in
    view_list c.push_start.new.values _
    (parts_written c.in_ok-values.values.items c.push.new.self.items c.push_start.new.values.items c.in_ok-write_sessions.field-0 _ _ _ _
    name c.in_ok-push.ensures.items c.in_ok-write_sessions.ensures.form c.in_ok-push_start.ensures start)

pub returns-clause-is_history : goal.returns-clause-is_history
returns-clause-is_history g c = record {
  start = subst g.O.SeqObject.is_start c.start.ensures.start c.start.ensures.is_start;
  few = c.in_ok-write_sessions.ensures.few;
  each = c.in_ok-write_sessions.ensures.sessions;
}

pub returns-clause-calls : goal.returns-clause-calls
returns-clause-calls g c = c.in_ok-write_sessions.ensures.calls
