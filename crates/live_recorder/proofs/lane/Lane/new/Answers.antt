use Rattle.std.proofs.Common.{◌≤◌, subst, sym, ◌∙◌}
use Rattle.once_cell.specs.Once.{cell_name}
use Rattle.model_history.specs.declared.limits.TheConstants.{MAX_OPERATIONS}
use Rattle.live_recorder.proofs.Telling.{length_map}
use Rattle.live_recorder.proofs.lane.Lane.new.Goals as goal

pub invariant_of-result : goal.invariant_of-result
invariant_of-result g c =
    let calls = length_map cell_name c.in_ok-calls.calls.items ∙ c.in_ok-calls.ensures in
    record {
      even = length_map cell_name c.in_ok-returns.returns.items ∙ (c.in_ok-returns.ensures ∙ sym calls);
      short = subst (λ n. n ≤ MAX_OPERATIONS) (sym calls) c.requires;
    }

pub returns : goal.returns
returns g c = length_map cell_name c.in_ok-calls.calls.items ∙ c.in_ok-calls.ensures
