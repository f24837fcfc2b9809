use Rattle.std.proofs.Common.{map}
use Rattle.std.proofs.lemmas.Result.{err_from_is_err_and}
use Rattle.serde_json.specs.View.{view}
use Rattle.json_histories.specs.declared.object_name.ObjectName.TheVariants as names
use Rattle.json_histories.proofs.AnyReading.{read, refused}
use Rattle.json_histories.proofs.reader.read_named.Goals as goal

pub returns-in_err-history-in-Register : goal.returns-in_err-history-in-Register
returns-in_err-history-in-Register c =
    let clauses = c.in_err-history-in-Register.ensures in
    let p = err_from_is_err_and c.from_residual.result c.from_residual.ensures.1 in
    rw (c.in-Register.is, p.1, p.2) (refused names.Register (map view c.args.sessions.now) (map view c.args.rest.now) _ c.in_err-history-in-Register.field-0.0 clauses.refused
    (λ h is s t. clauses.only h is.0 (λ x i d r here. tt) is.1 s t))

pub returns-in_ok-history-in-Register : goal.returns-in_ok-history-in-Register
returns-in_ok-history-in-Register c =
    let clauses = c.in_ok-history-in-Register.ensures in
    rw (c.in-Register.is, c.of.ensures) (read names.Register (map view c.args.sessions.now) (map view c.args.rest.now) _ c.in_ok-history-in-Register.history (clauses.is_history, clauses.has_form) clauses.sessions clauses.start
    (λ h is s t. clauses.only h is.0 (λ x i d r here. tt) is.1 s t))

pub returns-in_err-history-in-Counter : goal.returns-in_err-history-in-Counter
returns-in_err-history-in-Counter c =
    let clauses = c.in_err-history-in-Counter.ensures in
    let p = err_from_is_err_and c.from_residual-in_err-history-in-Counter.result c.from_residual-in_err-history-in-Counter.ensures.1 in
    rw (c.in-Counter.is, p.1, p.2) (refused names.Counter (map view c.args.sessions.now) (map view c.args.rest.now) _ c.in_err-history-in-Counter.field-0.0 clauses.refused
    (λ h is s t. clauses.only h is.0 (λ x i d r here. tt) is.1 s t))

pub returns-in_ok-history-in-Counter : goal.returns-in_ok-history-in-Counter
returns-in_ok-history-in-Counter c =
    let clauses = c.in_ok-history-in-Counter.ensures in
    rw (c.in-Counter.is, c.of-in-Counter.ensures) (read names.Counter (map view c.args.sessions.now) (map view c.args.rest.now) _ c.in_ok-history-in-Counter.history (clauses.is_history, clauses.has_form) clauses.sessions clauses.start
    (λ h is s t. clauses.only h is.0 (λ x i d r here. tt) is.1 s t))

pub returns-in_err-history-in-Set : goal.returns-in_err-history-in-Set
returns-in_err-history-in-Set c =
    let clauses = c.in_err-history-in-Set.ensures in
    let p = err_from_is_err_and c.from_residual-in_err-history-in-Set.result c.from_residual-in_err-history-in-Set.ensures.1 in
    rw (c.in-Set.is, p.1, p.2) (refused names.Set (map view c.args.sessions.now) (map view c.args.rest.now) _ c.in_err-history-in-Set.field-0.0 clauses.refused
    (λ h is s t. clauses.only h is.0 (λ x i d r here. tt) is.1 s t))

pub returns-in_ok-history-in-Set : goal.returns-in_ok-history-in-Set
returns-in_ok-history-in-Set c =
    let clauses = c.in_ok-history-in-Set.ensures in
    rw (c.in-Set.is, c.of-in-Set.ensures) (read names.Set (map view c.args.sessions.now) (map view c.args.rest.now) _ c.in_ok-history-in-Set.history (clauses.is_history, clauses.has_form) clauses.sessions clauses.start
    (λ h is s t. clauses.only h is.0 (λ x i d r here. tt) is.1 s t))

pub returns-in_err-history-in-Queue : goal.returns-in_err-history-in-Queue
returns-in_err-history-in-Queue c =
    let clauses = c.in_err-history-in-Queue.ensures in
    let p = err_from_is_err_and c.from_residual-in_err-history-in-Queue.result c.from_residual-in_err-history-in-Queue.ensures.1 in
    rw (c.in-Queue.is, p.1, p.2) (refused names.Queue (map view c.args.sessions.now) (map view c.args.rest.now) _ c.in_err-history-in-Queue.field-0.0 clauses.refused
    (λ h is s t. clauses.only h is.0 (λ x i d r here. tt) is.1 s t))

pub returns-in_ok-history-in-Queue : goal.returns-in_ok-history-in-Queue
returns-in_ok-history-in-Queue c =
    let clauses = c.in_ok-history-in-Queue.ensures in
    rw (c.in-Queue.is, c.of-in-Queue.ensures) (read names.Queue (map view c.args.sessions.now) (map view c.args.rest.now) _ c.in_ok-history-in-Queue.history (clauses.is_history, clauses.has_form) clauses.sessions clauses.start
    (λ h is s t. clauses.only h is.0 (λ x i d r here. tt) is.1 s t))

pub returns-in_err-read_parts-in-Memory : goal.returns-in_err-read_parts-in-Memory
returns-in_err-read_parts-in-Memory c =
    let clauses = c.in_err-read_parts-in-Memory.ensures in
    let p = err_from_is_err_and c.from_residual-in_err-read_parts-in-Memory.result c.from_residual-in_err-read_parts-in-Memory.ensures.1 in
    rw (c.in-Memory.is, p.1, p.2) (refused names.Memory (map view c.args.sessions.now) (map view c.args.rest.now) _ c.in_err-read_parts-in-Memory.field-0.0 clauses.refused
    (λ h is s t. clauses.only h is.0 is.1 tt s t))

pub returns-in_ok-read_parts-in-Memory : goal.returns-in_ok-read_parts-in-Memory
returns-in_ok-read_parts-in-Memory c =
    let clauses = c.in_ok-read_parts-in-Memory.ensures in
    rw c.in-Memory.is (read names.Memory (map view c.args.sessions.now) (map view c.args.rest.now) _ c.in_ok-read_parts-in-Memory.field-0 (clauses.is_history, clauses.each_call) clauses.sessions clauses.start
    (λ h is s t. clauses.only h is.0 is.1 tt s t))

pub returns-in_err-read_parts-in-Counters : goal.returns-in_err-read_parts-in-Counters
returns-in_err-read_parts-in-Counters c =
    let clauses = c.in_err-read_parts-in-Counters.ensures in
    let p = err_from_is_err_and c.from_residual-in_err-read_parts-in-Counters.result c.from_residual-in_err-read_parts-in-Counters.ensures.1 in
    rw (c.in-Counters.is, p.1, p.2) (refused names.Counters (map view c.args.sessions.now) (map view c.args.rest.now) _ c.in_err-read_parts-in-Counters.field-0.0 clauses.refused
    (λ h is s t. clauses.only h is.0 is.1 tt s t))

pub returns-in_ok-read_parts-in-Counters : goal.returns-in_ok-read_parts-in-Counters
returns-in_ok-read_parts-in-Counters c =
    let clauses = c.in_ok-read_parts-in-Counters.ensures in
    rw c.in-Counters.is (read names.Counters (map view c.args.sessions.now) (map view c.args.rest.now) _ c.in_ok-read_parts-in-Counters.field-0 (clauses.is_history, clauses.each_call) clauses.sessions clauses.start
    (λ h is s t. clauses.only h is.0 is.1 tt s t))

pub returns-in_err-read_parts-in-Sets : goal.returns-in_err-read_parts-in-Sets
returns-in_err-read_parts-in-Sets c =
    let clauses = c.in_err-read_parts-in-Sets.ensures in
    let p = err_from_is_err_and c.from_residual-in_err-read_parts-in-Sets.result c.from_residual-in_err-read_parts-in-Sets.ensures.1 in
    rw (c.in-Sets.is, p.1, p.2) (refused names.Sets (map view c.args.sessions.now) (map view c.args.rest.now) _ c.in_err-read_parts-in-Sets.field-0.0 clauses.refused
    (λ h is s t. clauses.only h is.0 is.1 tt s t))

pub returns-in_ok-read_parts-in-Sets : goal.returns-in_ok-read_parts-in-Sets
returns-in_ok-read_parts-in-Sets c =
    let clauses = c.in_ok-read_parts-in-Sets.ensures in
    rw c.in-Sets.is (read names.Sets (map view c.args.sessions.now) (map view c.args.rest.now) _ c.in_ok-read_parts-in-Sets.field-0 (clauses.is_history, clauses.each_call) clauses.sessions clauses.start
    (λ h is s t. clauses.only h is.0 is.1 tt s t))

pub returns-in_err-read_parts-in-Queues : goal.returns-in_err-read_parts-in-Queues
returns-in_err-read_parts-in-Queues c =
    let clauses = c.in_err-read_parts-in-Queues.ensures in
    let p = err_from_is_err_and c.from_residual-in_err-read_parts-in-Queues.result c.from_residual-in_err-read_parts-in-Queues.ensures.1 in
    rw (c.in-Queues.is, p.1, p.2) (refused names.Queues (map view c.args.sessions.now) (map view c.args.rest.now) _ c.in_err-read_parts-in-Queues.field-0.0 clauses.refused
    (λ h is s t. clauses.only h is.0 is.1 tt s t))

pub returns-in_ok-read_parts-in-Queues : goal.returns-in_ok-read_parts-in-Queues
returns-in_ok-read_parts-in-Queues c =
    let clauses = c.in_ok-read_parts-in-Queues.ensures in
    rw c.in-Queues.is (read names.Queues (map view c.args.sessions.now) (map view c.args.rest.now) _ c.in_ok-read_parts-in-Queues.field-0 (clauses.is_history, clauses.each_call) clauses.sessions clauses.start
    (λ h is s t. clauses.only h is.0 is.1 tt s t))
