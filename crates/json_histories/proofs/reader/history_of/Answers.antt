use Rattle.std.proofs.Common.{map, sym, ◌∙◌}
use Rattle.std.proofs.lemmas.Result.{IfOk-weaker}
use Rattle.serde_json.specs.View.{view}
use Rattle.json_histories.proofs.AnyHistories.{form_with_name}
use Rattle.json_histories.proofs.PartsForm.{Parts}
use Rattle.json_histories.proofs.reader.history_of.Goals as goal

pub returns-clause-form : goal.returns-clause-form
returns-clause-form c =
    let found : Parts = (c.in-Some.name.now, map view c.in-Some.sessions.now, map view c.in-Some.rest.now) in
    let value = form_with_name (view c.args.value.now) found c.in-Some-object_named.name (sym c.in-Some.ensures) (sym c.in-Some-object_named.ensures) in
    IfOk-weaker c.read_named.result _ _ (λ h form. value ∙ form) c.read_named.ensures.form

pub returns-clause-only : goal.returns-clause-only
returns-clause-only c = λ h is form.
    let found : Parts = (c.in-Some.name.now, map view c.in-Some.sessions.now, map view c.in-Some.rest.now) in
    let value = form_with_name (view c.args.value.now) found c.in-Some-object_named.name (sym c.in-Some.ensures) (sym c.in-Some-object_named.ensures) in
    c.read_named.ensures.only h is (sym value ∙ form)
