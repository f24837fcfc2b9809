use Rattle.log_reader.proofs.OrderLaws.{first_order, order_first}
use Rattle.log_reader.proofs.laws.first_lines_say_order.Goals as goal

pub returns : goal.returns
returns c = record { said = order_first; kept = first_order }
