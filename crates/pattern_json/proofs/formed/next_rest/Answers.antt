use Rattle.json_histories.specs.Json.{listed}
use Rattle.pattern_json.proofs.formed.next_rest.Goals as goal

pub returns-then-branch-clause-read : goal.returns-then-branch-clause-read
returns-then-branch-clause-read g c =
    let found = rw c.if-branch.true at c.in_ok-gather_rest.ensures.read in (found.0, found.1, c.whole.ensures (listed found.0) found.2)

pub returns-else-branch-clause-read : goal.returns-else-branch-clause-read
returns-else-branch-clause-read g c =
    let found = rw c.if-branch.false at c.in_ok-gather_rest.ensures.read in (found.0, found.1, λ whole. g.met.P.Parts.refuses_parts (listed found.0) whole found.2)
