use Rattle.log_reader.proofs.EventLineLaws.{events_on_lines}
use Rattle.log_reader.proofs.laws.lines_say_events.Goals as goal

pub returns : goal.returns
returns c = events_on_lines
