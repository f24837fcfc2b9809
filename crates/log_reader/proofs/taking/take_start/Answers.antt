use Rattle.std.proofs.Common.{◌≡◌}
use Rattle.log_events.specs.declared.event.Event.TheVariants.{Starts}
use Rattle.log_reader.specs.Logs.{MayFollow, with_event}
use Rattle.log_reader.specs.Steps.{name_in}
use Rattle.log_reader.proofs.BookLaws.{extends-more, longer}
use Rattle.log_reader.proofs.TakeLaws.{if_error, on_both, start_added, start_refused}
use Rattle.log_reader.proofs.taking.take_start.Goals as goal

pub returns-clause-added : goal.returns-clause-added
returns-clause-added c =
    let key = c.in_ok-key.key in
    let value = c.in_ok-value.value in
    on_both c.add.result (MayFollow c.value.new.self (Starts key value)) (c.add.new.self ≡ with_event c.value.new.self c.args.line (Starts key value)) _
    c.add.ensures.follows c.add.ensures.log
    (start_added c.args.line c.args.book.now c.key.new.self c.value.new.self (name_in c.args.key) (name_in c.args.value) key value
    c.in_ok-key.ensures.log c.in_ok-value.ensures.log c.in_ok-key.ensures.number c.in_ok-value.ensures.number c.add.new.self)

pub returns-clause-fault : goal.returns-clause-fault
returns-clause-fault c =
    if_error c.add.result _ _ c.add.ensures.error
    (start_refused c.args.line c.args.book.now c.key.new.self c.value.new.self (name_in c.args.key) (name_in c.args.value) c.in_ok-key.key c.in_ok-value.value
    c.in_ok-key.ensures.log c.in_ok-value.ensures.log c.in_ok-key.ensures.number c.in_ok-value.ensures.number)

pub add-requires : goal.add-requires
add-requires c = (
  longer c.key.new.self.keys c.value.new.self.keys c.in_ok-key.key c.value.ensures.extends.keys c.in_ok-key.ensures.within,
  c.in_ok-value.ensures.within,
)

pub returns-in_err-value-clause-extends : goal.returns-in_err-value-clause-extends
returns-in_err-value-clause-extends c = extends-more c.args.book.now c.key.new.self c.value.new.self c.key.ensures.extends c.value.ensures.extends

pub returns-clause-extends : goal.returns-clause-extends
returns-clause-extends c =
    extends-more c.args.book.now c.value.new.self c.add.new.self
    (extends-more c.args.book.now c.key.new.self c.value.new.self c.key.ensures.extends c.value.ensures.extends) c.add.ensures.extends
