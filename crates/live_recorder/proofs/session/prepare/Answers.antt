use Rattle.std.proofs.Common.{◌<◌, ◌≤◌, length, subst, sym, ◌∙◌}
use Rattle.model_history.specs.declared.limits.TheConstants.{MAX_OPERATIONS}
use Rattle.live_recorder.proofs.session.prepare.Goals as goal

pub new-requires-2 : goal.new-requires-2
new-requires-2 g c = subst (λ l. length l ≤ MAX_OPERATIONS) (sym c.reserve-2.ensures.list) c.requires

pub returns : goal.returns
returns g c = record {
  calls = c.in_ok-reserve.ensures.list;
  returns = c.in_ok-pending.ensures.list ∙ c.reserve-2.ensures.list;
  call_room = c.in_ok-reserve.ensures.room;
  return_room = subst (λ n. 0 < n) (sym c.in_ok-pending.ensures.room) c.in_ok-reserve-2.ensures.room;
  boxed = c.in_ok-boxed.ensures.ok;
  pending_call = c.in_ok-pending.ensures.call;
  pending_notes = c.in_ok-pending.ensures.notes ∙ c.reserve-2.ensures.list;
}
