use Rattle.pattern_json.proofs.list_number.next_number.Goals as goal

pub returns-in-Some-clause-read : goal.returns-in-Some-clause-read
returns-in-Some-clause-read g c =
    let read = rw c.in-Some.is at c.in_ok-number.ensures.read in (read.0, read.1, rw read.2 c.of.ensures)

pub returns-in-None-clause-read : goal.returns-in-None-clause-read
returns-in-None-clause-read g c =
    let read = rw c.in-None.is at c.in_ok-number.ensures.read in (read.0, read.1, λ n fits same. read.2 (g.T.Number.whole n) same)
