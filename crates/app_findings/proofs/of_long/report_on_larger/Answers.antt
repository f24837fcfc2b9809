use Rattle.json_histories.specs.declared.any_history.AnyHistory.TheVariants as histories
use Rattle.app_findings.specs.Answers.{IsLongTrueOf}
use Rattle.app_findings.proofs.Each.{each_answer}
use Rattle.app_findings.proofs.of_long.report_on_larger.Goals as goal

pub returns-clause-truth : goal.returns-clause-truth
returns-clause-truth g c = record {
  each =
      each_answer (λ k said. IsLongTrueOf (histories.Memory c.args.history.now) k said) _ c.finding_of.ensures.truth c.finding_of-2.ensures.truth
      c.finding_of-3.ensures.truth;
  within = λ is. absurd (c.requires.over is);
}
