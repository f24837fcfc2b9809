use Rattle.app_orders.specs.declared.length.Length.TheVariants.{Limited}
use Rattle.app_explanations.specs.Steps.Examining.{history_of}
use Rattle.app_explanations.proofs.history_words.text_of_examined.Goals as goal

pub returns : goal.returns
returns c =
    c.text_of_findings.ensures Limited (history_of c.args.history) c.in_ok-lines_of_finding.ensures c.in_ok-lines_of_finding-2.ensures
    c.in_ok-lines_of_finding-3.ensures
