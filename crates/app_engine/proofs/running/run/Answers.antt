-- A run of `judge` writes lines that are true of a memory.
use Rattle.app_engine.proofs.MemoryLineLaws.{result_judged}
use Rattle.app_engine.proofs.running.run.Goals as goal

pub returns-clause-memory : goal.returns-clause-memory
returns-clause-memory g c = λ judging same. result_judged c.args.order.now judging _ _ _ _ same c.run_keeping.ensures.answered
