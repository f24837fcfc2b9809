use Rattle.judge_columns.proofs.WordSteps.{no-step}
use Rattle.judge_columns.proofs.words.has_no_past.Goals as goal

pub returns-in-None-None : goal.returns-in-None-None
returns-in-None-None c is o p is_op at =
    no-step c.args.index.now.history o (c.in-None-None.ensures.before o is_op at) (c.in-None-None.ensures'.source o is_op at) p
