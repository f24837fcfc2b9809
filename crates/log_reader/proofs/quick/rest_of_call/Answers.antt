use Rattle.log_reader.specs.Steps.{name_in}
use Rattle.log_reader.proofs.QuickLaws.{rest_write}
use Rattle.log_reader.proofs.quick.rest_of_call.Goals as goal

pub returns-in_ok-next_value-in-Write : goal.returns-in_ok-next_value-in-Write
returns-in_ok-next_value-in-Write c =
    rest_write c.args.word.now (name_in c.args.key) c.args.reader.now c.next_value.new.reader (name_in c.in_ok-next_value-in-Write.field-0) c.in-Write.ensures c.in_ok-next_value-in-Write.ensures
