use Rattle.app_logs.specs.Witnesses.{AreWitnesses}
use Rattle.app_logs.proofs.witnesses.witnesses_of.Given as goal

abbrev pub invariant-loop-walk : goal.invariant-loop-walk
invariant-loop-walk g l = AreWitnesses l.log.in_time l.log.log.now l.witnesses
