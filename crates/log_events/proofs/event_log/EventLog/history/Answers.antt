use Rattle.std.proofs.Common.{◌≡◌, List, ap, sym, subst, ◌∙◌}
use Rattle.judge_memory.specs.LongHistories.{IsLongHistory}
use Rattle.order_memory.specs.Memory.{MemoryHistory}
use Rattle.log_events.specs.declared.event.Event.{Event}
use Rattle.log_events.specs.Histories.{history_of}
use Rattle.log_events.proofs.event_log.EventLog.history.Goals as goal

pub of-requires-2 : goal.of-requires-2
of-requires-2 c =
    let es = c.args.self.now in
    let start = c.in_ok-start.ensures in
    let sessions = c.in_ok-sessions.ensures ∙ ap (λ (l : List Event). (history_of l).1) c.in_ok-outcomes.ensures in
    let whole : ◌≡◌ {A = MemoryHistory} (c.in_ok-start.start, c.in_ok-sessions.sessions) (history_of es) = λ i. (start i, sessions i) in
    subst IsLongHistory (sym whole) c.history_is_long.ensures
