use Rattle.std.proofs.lemmas.Result.{IfErr-weaker}
use Rattle.serde_json.specs.View.{view}
use Rattle.json_histories.proofs.CutReading.{form_if_read, form_seen, refused_for_text}
use Rattle.json_histories.proofs.reader.read_history.Goals as goal

pub returns-in-Ok-clause-form : goal.returns-in-Ok-clause-form
returns-in-Ok-clause-form c =
    form_if_read c.args.text.now (view c.in-Ok.value) c.in-Ok.ensures.read c.history_of.result c.history_of.ensures.is_history c.history_of.ensures.form

pub returns-in-Ok-clause-only : goal.returns-in-Ok-clause-only
returns-in-Ok-clause-only c = λ h is json. c.history_of.ensures.only h is (form_seen c.args.text.now (view c.in-Ok.value) c.in-Ok.ensures.read h is json)

pub returns-in-Ok-clause-refused : goal.returns-in-Ok-clause-refused
returns-in-Ok-clause-refused c =
    IfErr-weaker c.history_of.result _ _ (refused_for_text c.args.text.now (view c.in-Ok.value) c.in-Ok.ensures.read) c.history_of.ensures.refused
