use Rattle.judge_witnesses.specs.Witnesses.{AreWitnessed}
use Rattle.judge_witnesses.proofs.witnessed.witnessed_by.Given as goal

-- each witness so far is one
abbrev pub invariant-loop-plan : goal.invariant-loop-plan
invariant-loop-plan g l = AreWitnessed l.history l.found
