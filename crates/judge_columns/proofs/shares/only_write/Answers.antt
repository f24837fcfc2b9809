use Rattle.judge_columns.proofs.Shared.{only-write}
use Rattle.judge_columns.proofs.shares.only_write.Goals as goal

pub returns-in-None-first_write : goal.returns-in-None-first_write
returns-in-None-first_write c =
    only-write c.args.index.now.history c.args.session c.start.result c.end-end.result c.in-Some.write c.start.ensures.number
    c.end-end.ensures.number c.in-Some.ensures c.in-None-first_write.ensures
