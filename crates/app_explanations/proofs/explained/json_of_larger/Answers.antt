use Rattle.std.specs.Prelude.{string_bytes}
use Rattle.json_histories.specs.declared.any_history.AnyHistory.TheVariants as histories
use Rattle.app_orders.specs.declared.length.Length.TheVariants.{Any}
use Rattle.app_explanations.proofs.ListedTexts.{told_as_json}
use Rattle.app_explanations.proofs.explained.json_of_larger.Goals as goal

pub returns : goal.returns
returns g c =
    let history = histories.Memory c.args._history.now in
    told_as_json string_bytes Any c.args.clients history c.args.findings.now c.in_ok-remarks.remarks c.findings_text-text.result c.requires
    (c.in_ok-remarks.ensures history) c.findings_text-text.ensures.whole c.findings_text-text.ensures.json
