-- The clients of the calls of a run.
use Rattle.std.proofs.Common.{◌<◌, List, get_or}
use Rattle.std.specs.Prelude.{All}
use Rattle.std.proofs.lemmas.Option.{slice_get-get_or}
use Rattle.log_events.specs.declared.event.Event.{Event}
use Rattle.log_events.specs.Events.{Call, run_calls}
use Rattle.log_events.specs.Histories.{clients}
use Rattle.log_events.proofs.CallPlaces.{calls-from}
use Rattle.log_events.proofs.OperationPlaces.{client-below}

-- each client that calls has a session
pub run_calls-client : (es : List Event) → All (λ (a : Call). a.client < clients es) (run_calls es)
run_calls-client es k d within =
    let a = get_or (run_calls es) k d in
    let r = calls-from 0 es k a (slice_get-get_or (run_calls es) k d within) in
    client-below es r.0 a.client a.call r.2.begun
