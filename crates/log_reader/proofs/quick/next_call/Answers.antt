use Rattle.std.proofs.Common.{◌≡◌, Some, arith}
use Rattle.json.specs.Json.{after_end_array}
use Rattle.log_reader.specs.Steps.{call_view, name_in}
use Rattle.log_reader.proofs.QuickLaws.{call_next}
use Rattle.log_reader.proofs.quick.next_call.Goals as goal

pub returns-then-take_end_array : goal.returns-then-take_end_array
returns-then-take_end_array c =
    let over : after_end_array c.rest_of_call.new.reader ≡ Some c.take_end_array.new.self = grind arith in
    call_next c.args.reader.now c.begin_list.new.reader c.next_word.new.reader c.next_name.new.reader c.rest_of_call.new.reader c.take_end_array.new.self
    c.in_ok-word.word.now (name_in c.in_ok-key.key) (call_view c.in_ok-call.call) c.in_ok-begin_list.ensures c.in_ok-word.ensures c.in_ok-key.ensures
    c.in_ok-call.ensures over
