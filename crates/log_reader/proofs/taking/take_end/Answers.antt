use Rattle.log_reader.specs.Steps.{ending_view, name_in}
use Rattle.log_reader.proofs.BookLaws.{extends-more}
use Rattle.log_reader.proofs.TakeLaws.{end_added, end_refused, if_error, on_one}
use Rattle.log_reader.proofs.taking.take_end.Goals as goal

pub returns-in-Some-clause-added : goal.returns-in-Some-clause-added
returns-in-Some-clause-added c =
    let said = ending_view c.args.ending in
    on_one c.take_ending.result _ _ c.take_ending.ensures.ended
    (end_added c.args.line c.args.book.now c.client.new.self (name_in c.args.client) c.in_ok-client.client c.in-Some.call said
    c.in_ok-client.ensures.log c.in_ok-client.ensures.number c.in-Some.ensures c.take_ending.new.book)

pub returns-in-Some-clause-fault : goal.returns-in-Some-clause-fault
returns-in-Some-clause-fault c =
    let said = ending_view c.args.ending in
    if_error c.take_ending.result _ _ c.take_ending.ensures.fault
    (end_refused c.args.line c.args.book.now c.client.new.self (name_in c.args.client) c.in_ok-client.client c.in-Some.call said
    c.in_ok-client.ensures.log c.in_ok-client.ensures.number c.in-Some.ensures)

pub returns-in-Some-clause-extends : goal.returns-in-Some-clause-extends
returns-in-Some-clause-extends c = extends-more c.args.book.now c.client.new.self c.take_ending.new.book c.client.ensures.extends c.take_ending.ensures.extends
