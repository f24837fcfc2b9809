use Rattle.std.proofs.Common.{subst, sym}
use Rattle.std.specs.Prelude.{◌↔◌, IfOk, IsTrue}
use Rattle.json_histories.specs.declared.any_history.AnyHistory.{AnyHistory}
use Rattle.app_findings.specs.Answers.{IsPatternOf}
use Rattle.app_engine.proofs.refuting.is_pattern_of.Goals as goal

pub returns-in-Some-clause-exact : goal.returns-in-Some-clause-exact
returns-in-Some-clause-exact c =
    let same = rw c.in-Some.is at c.as_memory.ensures.memory in
    subst (λ (h : AnyHistory). IfOk c.check_pattern.result (λ yes. IsTrue yes ↔ IsPatternOf h c.args.criterion c.args.pattern.now))
    (sym same) c.check_pattern.ensures.exact
