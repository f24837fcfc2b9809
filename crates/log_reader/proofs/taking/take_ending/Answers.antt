use Rattle.std.proofs.Common.{◌≡◌, Option, sym, subst, ◌∙◌}
use Rattle.std.specs.Prelude.{IfSome}
use Rattle.log_events.specs.declared.event.Ending.{Ending}
use Rattle.log_events.specs.declared.event.Event.TheVariants.{Ends}
use Rattle.log_reader.specs.Logs.{MayFollow, with_event}
use Rattle.log_reader.specs.Readings.{IsEndingNamed}
use Rattle.log_reader.specs.Steps.{ending_view}
use Rattle.log_reader.proofs.BookLaws.{extends-more, longer}
use Rattle.log_reader.proofs.TakeLaws.{ending_ended, ending_refused, if_error, on_both}
use Rattle.log_reader.proofs.taking.take_ending.Goals as goal

pub add-requires : goal.add-requires
add-requires c = (
  longer c.args.book.now.clients c.ending.new.self.clients c.args.client c.ending.ensures.extends.clients c.requires.known,
  subst (λ (o : Option Ending). IfSome o (IsEndingNamed c.ending.new.self)) c.in-Some.is c.in_ok-ending.ensures.named,
)

pub returns-in-Some-clause-ended : goal.returns-in-Some-clause-ended
returns-in-Some-clause-ended c =
    let e = c.in-Some.ending in
    on_both c.add.result (MayFollow c.ending.new.self (Ends c.args.client e)) (c.add.new.self ≡ with_event c.ending.new.self c.args.line (Ends c.args.client e)) _
    c.add.ensures.follows c.add.ensures.log
    (ending_ended c.args.line c.args.book.now c.ending.new.self c.args.client c.args.call (ending_view c.args.ending) e (sym c.in_ok-ending.ensures.ending ∙ c.in-Some.is)
    c.in_ok-ending.ensures.log c.add.new.self)

pub returns-in-Some-clause-fault : goal.returns-in-Some-clause-fault
returns-in-Some-clause-fault c =
    if_error c.add.result _ _ c.add.ensures.error
    (λ fault. ending_refused c.args.book.now c.ending.new.self c.args.client c.args.call (ending_view c.args.ending) c.args.line c.in-Some.ending fault c.requires.pending
    (sym c.in_ok-ending.ensures.ending ∙ c.in-Some.is) c.in_ok-ending.ensures.log)

pub returns-in-Some-clause-extends : goal.returns-in-Some-clause-extends
returns-in-Some-clause-extends c = extends-more c.args.book.now c.ending.new.self c.add.new.self c.ending.ensures.extends c.add.ensures.extends
