use Rattle.app_orders.specs.declared.length.Length.TheVariants.{Limited}
use Rattle.app_explanations.specs.Steps.Examining.{history_of}
use Rattle.app_explanations.proofs.long_words.text_of_small.Goals as goal

pub returns : goal.returns
returns g c =
    c.text_of_findings.ensures Limited (history_of c.args.small) c.in_ok-lines_of_small_finding.ensures c.in_ok-lines_of_small_finding-2.ensures
    c.in_ok-lines_of_small_finding-3.ensures
