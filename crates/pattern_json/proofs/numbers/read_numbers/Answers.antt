use Rattle.pattern_json.proofs.numbers.read_numbers.Goals as goal

pub returns-then-branch-clause-read : goal.returns-then-branch-clause-read
returns-then-branch-clause-read g c = rw c.if-branch.true at c.in_ok-next_numbers.ensures.read

pub returns-else-branch-clause-read : goal.returns-else-branch-clause-read
returns-else-branch-clause-read g c = rw c.if-branch.false at c.in_ok-next_numbers.ensures.read
