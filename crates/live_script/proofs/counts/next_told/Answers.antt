use Rattle.std.proofs.Common.{◌≤◌}
use Rattle.model_history.specs.declared.limits.TheConstants.{MAX_OPERATIONS}
use Rattle.json_histories.specs.Reads.{number_form}
use Rattle.pattern_json.specs.Steps.Lists.{AreForms, AreNoForms}
use Rattle.pattern_json.proofs.CertificateForms.{list_is, list_is_none, list_taken}
use Rattle.live_script.proofs.counts.next_told.Goals as goal

pub returns-then-branch-clause-read : goal.returns-then-branch-clause-read
returns-then-branch-clause-read c =
    let read = rw c.if-branch.true at c.in_ok-next_list.ensures.read in
    let counts = c.next_list.new.gathered.counts.items in
    let taken = list_taken (λ ds. AreForms (λ n. n ≤ MAX_OPERATIONS) number_form ds counts) (AreNoForms (λ n. n ≤ MAX_OPERATIONS) number_form) read.0 read.2 in
    (read.0, read.1, rw (c.of.ensures) (list_is (λ n. n ≤ MAX_OPERATIONS) number_form read.0 taken.0 counts taken.1 taken.2))

pub returns-else-branch-clause-read : goal.returns-else-branch-clause-read
returns-else-branch-clause-read c =
    let read = rw c.if-branch.false at c.in_ok-next_list.ensures.read in (
      read.0,
      read.1,
      list_is_none (λ n. n ≤ MAX_OPERATIONS) number_form (λ ds. AreForms (λ n. n ≤ MAX_OPERATIONS) number_form ds c.next_list.new.gathered.counts.items) read.0 read.2,
    )
