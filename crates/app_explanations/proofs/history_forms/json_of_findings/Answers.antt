use Rattle.std.specs.Prelude.{string_bytes}
use Rattle.app_orders.specs.declared.length.Length.TheVariants.{Limited}
use Rattle.app_explanations.proofs.ListedTexts.{told_as_json}
use Rattle.app_explanations.proofs.history_forms.json_of_findings.Goals as goal

pub returns : goal.returns
returns g c =
    told_as_json string_bytes Limited c.args.clients c.args.history.now c.args.findings.now c.in_ok-remarks.remarks c.findings_text-text.result c.requires
    c.in_ok-remarks.ensures c.findings_text-text.ensures.whole c.findings_text-text.ensures.json
