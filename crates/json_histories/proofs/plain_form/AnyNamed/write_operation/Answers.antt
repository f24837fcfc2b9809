use Rattle.std.proofs.Common.{List, [], ◌∷◌, ◌++◌, ap, ◌∙◌}
use Rattle.serde_json.specs.Data.{Data, string}
use Rattle.json_histories.specs.Json.{list}
use Rattle.json_histories.specs.Spelling.{rest_form}
use Rattle.json_histories.proofs.plain_form.AnyNamed.write_operation.Goals as goal

pub returns-clause-form : goal.returns-clause-form
returns-clause-form g c =
    let front = c.in_ok-values.ensures ∙ ap (λ word. string word ∷ []) c.word.ensures in
    let rest = rest_form g.O.Spelled.arguments g.O.Spelled.ret_form c.args.call c.args.ret in
    rw c.from.ensures (ap list (c.in_ok-with_rest.ensures ∙ ap (λ (ds : List Data). ds ++ rest) front))
