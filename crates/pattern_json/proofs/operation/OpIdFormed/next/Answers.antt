use Rattle.pattern_json.proofs.operation.OpIdFormed.next.Goals as goal

pub returns-in_default-clause-read : goal.returns-in_default-clause-read
returns-in_default-clause-read c =
    let found = rw c.in_default.is at c.in_ok-numbers.ensures.read in
    (found.0, found.1, λ op same. found.2 (op.session, op.index) same)
