use Rattle.std.proofs.Common.{List, ap, subst}
use Rattle.log_events.specs.declared.event.Event.{Event}
use Rattle.log_reader.specs.Logs.{IsPending, Log}
use Rattle.log_reader.proofs.FollowLaws.{pending_by}
use Rattle.log_reader.proofs.book.Book.pending.Goals as goal

pub returns : goal.returns
returns c =
    subst (λ (es : List Event). IsPending es c.args.client c.pending.result) (ap (λ (l : Log). l.events) c.self.view_is)
    (pending_by c.self.inside.log c.args.client c.pending.result c.pending.ensures.none c.pending.ensures.some)
