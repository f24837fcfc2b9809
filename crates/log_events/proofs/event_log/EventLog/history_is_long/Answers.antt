use Rattle.std.proofs.Common.{List, subst}
use Rattle.judge_memory.specs.LongHistories.{IsLongHistory}
use Rattle.log_events.specs.declared.event.Event.{Event}
use Rattle.log_events.specs.Histories.{history_of}
use Rattle.log_events.proofs.HistoryKept.{long_history}
use Rattle.log_events.proofs.event_log.EventLog.history_is_long.Goals as goal

pub returns : goal.returns
returns c =
    let es = c.self.inside.past.events in
    subst (λ (l : List Event). IsLongHistory (history_of l)) c.self.view_is
    (long_history es c.self.inside.starts c.self.inside.calls.items c.self.inside.pending.items c.self.inside.clients c.self.inside.events c.self.invariant.0)
