use Rattle.app_engine.proofs.alone.line_of.Goals as goal

pub returns-clause-error : goal.returns-clause-error
returns-clause-error c = c.check.ensures.error 1
