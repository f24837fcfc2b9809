use Rattle.std.specs.Prelude.{string_bytes}
use Rattle.app_explanations.proofs.ListedTexts.{listed_as_json}
use Rattle.app_explanations.proofs.fault_lists.text_of_parts.Goals as goal

pub returns-in-Ok : goal.returns-in-Ok
returns-in-Ok c = λ long clients most history found on are.
    listed_as_json string_bytes long clients most history (record { findings = c.args.findings; remarks = c.in-Ok.remarks; faults = c.args.faults })
    c.text_of_report-text.result (record { found = found; remarks = rw c.in-Ok.is at on; faults = are }) c.text_of_report-text.ensures.whole
    c.text_of_report-text.ensures.json
