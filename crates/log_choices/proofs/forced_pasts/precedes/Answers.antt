use Rattle.std.proofs.Common.{inl}
use Rattle.log_choices.proofs.ForcedPasts.{precedes-comes}
use Rattle.log_choices.proofs.forced_pasts.precedes.Goals as goal

pub returns-then-not-write : goal.returns-then-not-write
returns-then-not-write c = λ in_time es q kept was _. precedes-comes in_time es c.args.write.now c.args.past.now q kept was c.if-past-client.false (inl c.if-not-write.true)
