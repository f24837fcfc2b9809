use Rattle.json_line_workers.proofs.FiledLaws.{part-long}
use Rattle.json_line_workers.proofs.piece.part_of_long.Goals as goal

pub returns : goal.returns
returns g c =
    part-long (g.C.LineHandler.says c.args.handler.now) (g.C.LineHandler.most c.args.handler.now) c.answer_long-outcome.result c.new-text.result.items c.answer_long-outcome.new.text.items
    c.new-text.ensures.items c.answer_long-outcome.ensures.answered c.answer_long-outcome.ensures.unchanged c.answer_long-outcome.ensures.error
