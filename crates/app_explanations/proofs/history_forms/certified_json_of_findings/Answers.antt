use Rattle.std.specs.Prelude.{string_bytes}
use Rattle.app_explanations.proofs.ListedTexts.{told_with_certificates}
use Rattle.app_explanations.proofs.history_forms.certified_json_of_findings.Goals as goal

pub returns : goal.returns
returns c =
    told_with_certificates string_bytes c.args.history.now c.args.findings.now c.in_ok-remarks.remarks c.certified_text-text.result c.requires
    c.in_ok-remarks.ensures c.certified_text-text.ensures.whole c.certified_text-text.ensures.json
