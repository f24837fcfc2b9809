use Rattle.std.proofs.Common.{◌≡◌}
use Rattle.log_events.specs.declared.event.Event.TheVariants.{Begins}
use Rattle.log_reader.specs.Logs.{MayFollow, with_event}
use Rattle.log_reader.specs.Steps.{call_view, name_in}
use Rattle.log_reader.proofs.BookLaws.{extends-more, longer}
use Rattle.log_reader.proofs.TakeLaws.{begin_added, begin_refused, if_error, on_both}
use Rattle.log_reader.proofs.taking.take_begin.Goals as goal

pub returns-clause-added : goal.returns-clause-added
returns-clause-added c =
    let client = c.in_ok-client.client in
    let call = c.in_ok-call.call in
    on_both c.add.result (MayFollow c.call.new.self (Begins client call)) (c.add.new.self ≡ with_event c.call.new.self c.args.line (Begins client call)) _
    c.add.ensures.follows c.add.ensures.log
    (begin_added c.args.line c.args.book.now c.client.new.self c.call.new.self (name_in c.args.client) (call_view c.args.call) client call
    c.in_ok-client.ensures.log c.in_ok-call.ensures.log c.in_ok-client.ensures.number c.in_ok-call.ensures.call c.add.new.self)

pub returns-clause-fault : goal.returns-clause-fault
returns-clause-fault c =
    if_error c.add.result _ _ c.add.ensures.error
    (begin_refused c.args.line c.args.book.now c.client.new.self c.call.new.self (name_in c.args.client) (call_view c.args.call) c.in_ok-client.client c.in_ok-call.call
    c.in_ok-client.ensures.log c.in_ok-call.ensures.log c.in_ok-client.ensures.number c.in_ok-call.ensures.call)

pub returns-clause-extends : goal.returns-clause-extends
returns-clause-extends c =
    extends-more c.args.book.now c.call.new.self c.add.new.self
    (extends-more c.args.book.now c.client.new.self c.call.new.self c.client.ensures.extends c.call.ensures.extends) c.add.ensures.extends

pub add-requires : goal.add-requires
add-requires c = (
  longer c.client.new.self.clients c.call.new.self.clients c.in_ok-client.client c.call.ensures.extends.clients c.in_ok-client.ensures.within,
  c.in_ok-call.ensures.named,
)

pub returns-in_err-call-clause-extends : goal.returns-in_err-call-clause-extends
returns-in_err-call-clause-extends c = extends-more c.args.book.now c.client.new.self c.call.new.self c.client.ensures.extends c.call.ensures.extends
