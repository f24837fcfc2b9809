use Rattle.log_reader.proofs.DecimalLaws.{unanswered}
use Rattle.log_reader.proofs.book.answered.Goals as goal

pub returns-in-Whole : goal.returns-in-Whole
returns-in-Whole c = unanswered c.args.answer c.in-Whole.is
