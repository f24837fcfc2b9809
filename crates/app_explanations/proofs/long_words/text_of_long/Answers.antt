use Rattle.json_histories.specs.declared.any_history.AnyHistory.TheVariants as histories
use Rattle.app_orders.specs.declared.length.Length.TheVariants.{Any}
use Rattle.app_explanations.proofs.long_words.text_of_long.Goals as goal

pub returns : goal.returns
returns g c =
    c.text_of_findings.ensures Any (histories.Memory c.args.history.now) c.in_ok-lines_of_long_finding.ensures c.in_ok-lines_of_long_finding-2.ensures
    c.in_ok-lines_of_long_finding-3.ensures
