use Rattle.app_engine.proofs.running.checked.Goals as goal

pub returns-clause-error : goal.returns-clause-error
returns-clause-error g c = c.check.ensures.error c.args.workers
