use Rattle.std.proofs.Common.{ap, arith}
use Rattle.std.specs.Prelude.{option_map}
use Rattle.model_history.proofs.Entries.{entry_at, place_within, session_within}
use Rattle.model_history.proofs.history.History.call.Goals as goal

pub session-requires-after_bounds : goal.session-requires-after_bounds
session-requires-after_bounds g c =
    let below = session_within c.args.self.now c.args.op c.session_place.result 0 c.requires c.session_place.ensures in
    omega (arith, below)

pub bounds-session-place : goal.bounds-session-place
bounds-session-place g c = place_within c.args.self.now c.args.op _ _ c.requires c.session_place.ensures _ c.session.ensures.operations c.place.ensures

pub bounds-session-place-2 : goal.bounds-session-place-2
bounds-session-place-2 g c = place_within c.args.self.now c.args.op _ _ c.requires c.session_place.ensures _ c.session.ensures.operations c.place.ensures

pub returns : goal.returns
returns g c = ap (option_map (λ e. e.0)) (entry_at c.args.self.now c.args.op _ _ c.requires c.session_place.ensures _ c.session.ensures.operations c.place.ensures _)
