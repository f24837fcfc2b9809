use Rattle.std.proofs.Common.{subst}
use Rattle.judge_decision.specs.declared.decisions.LongDecision.{LongDecision}
use Rattle.judge_decision.specs.LongDecisions.{IsLongDecided}
use Rattle.judge_witnesses.specs.Relabelled.{back}
use Rattle.judge_witnesses.proofs.witnessed.is_met.Goals as goal

pub returns-in-Meets : goal.returns-in-Meets
returns-in-Meets c = λ _.
    c.renamed_histories_meet_what_they_were_renamed_from.ensures (back c.args._history.now c.args._written.now) c.args._other.now c.args._history.now
    c.requires.renamed c.args._criterion
    (subst (λ (d : LongDecision). IsLongDecided c.args._other.now c.args._criterion d) c.in-Meets.is c.requires.decided)
