use Rattle.log_reader.specs.Steps.{call_view, ending_view, name_in}
use Rattle.log_reader.proofs.QuickLaws.{rest_begin, rest_end, rest_start}
use Rattle.log_reader.proofs.quick.rest_of_said.Goals as goal

pub returns-in_ok-next_call-in-Begin : goal.returns-in_ok-next_call-in-Begin
returns-in_ok-next_call-in-Begin c =
    rest_begin c.args.word.now (name_in c.args.name) c.args.reader.now c.next_call.new.reader (call_view c.in_ok-next_call-in-Begin.field-0) c.in-Begin.ensures c.in_ok-next_call-in-Begin.ensures

pub returns-in_ok-next_answer-in-End : goal.returns-in_ok-next_answer-in-End
returns-in_ok-next_answer-in-End c =
    rest_end c.args.word.now (name_in c.args.name) c.args.reader.now c.next_answer.new.reader (ending_view c.in_ok-next_answer-in-End.field-0) c.in-End.ensures c.in_ok-next_answer-in-End.ensures

pub returns-in_ok-next_value-in-Start : goal.returns-in_ok-next_value-in-Start
returns-in_ok-next_value-in-Start c =
    rest_start c.args.word.now (name_in c.args.name) c.args.reader.now c.next_value.new.reader (name_in c.in_ok-next_value-in-Start.field-0) c.in-Start.ensures c.in_ok-next_value-in-Start.ensures
