use Rattle.std.proofs.Common.{◌≡◌, [], Some, arith}
use Rattle.json.specs.Json.{after_end_array}
use Rattle.log_reader.specs.Steps.{name_in, said_view}
use Rattle.log_reader.proofs.QuickLaws.{all_said}
use Rattle.log_reader.proofs.quick.said_of_tokens.Goals as goal

pub returns-in-None : goal.returns-in-None
returns-in-None c =
    let bracket : after_end_array c.rest_of_said.new.reader ≡ Some c.take_end_array.new.self = grind arith in
    let over : c.take_end_array.new.self ≡ [] = grind arith in
    all_said c.args.reader.now c.begin_list.new.reader c.next_word.new.reader c.next_name.new.reader c.rest_of_said.new.reader c.take_end_array.new.self
    c.in_ok-word.word.now (name_in c.in_ok-name.name) (said_view c.in_ok-said.said) c.in_ok-begin_list.ensures c.in_ok-word.ensures c.in_ok-name.ensures
    c.in_ok-said.ensures bracket over
