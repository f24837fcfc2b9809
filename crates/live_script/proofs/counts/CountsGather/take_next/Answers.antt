use Rattle.std.proofs.Common.{◌≤◌}
use Rattle.model_history.specs.declared.limits.TheConstants.{MAX_OPERATIONS}
use Rattle.json_histories.specs.Reads.{number_form}
use Rattle.pattern_json.proofs.CertificateForms.{no_forms}
use Rattle.live_script.proofs.counts.CountsGather.take_next.Goals as goal

pub returns-in_default-clause-taken : goal.returns-in_default-clause-taken
returns-in_default-clause-taken c =
    let read = rw c.in_default.is at c.in_ok-count.ensures.read in
    (read.0, read.1, λ ds so_far more. no_forms (λ n. n ≤ MAX_OPERATIONS) number_form ds more read.0 read.2)
