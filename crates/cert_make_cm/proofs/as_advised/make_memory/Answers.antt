-- What is known of a history is known of that history.
use Rattle.cert_make_cm.proofs.as_advised.make_memory.Goals as goal

pub returns-clause-advised : goal.returns-clause-advised
returns-clause-advised c = rw c.in_ok-memory.ensures at c.make_indexed.ensures.advised

pub returns-clause-vectors : goal.returns-clause-vectors
returns-clause-vectors c = rw c.in_ok-memory.ensures at c.make_indexed.ensures.vectors

pub returns-clause-turns : goal.returns-clause-turns
returns-clause-turns c = rw c.in_ok-memory.ensures at c.make_indexed.ensures.turns

pub returns-clause-none : goal.returns-clause-none
returns-clause-none c = rw c.in_ok-memory.ensures at c.make_indexed.ensures.none

pub returns-clause-some : goal.returns-clause-some
returns-clause-some c = rw c.in_ok-memory.ensures at c.make_indexed.ensures.some

pub returns-clause-explained : goal.returns-clause-explained
returns-clause-explained c = rw c.in_ok-memory.ensures at c.make_indexed.ensures.explained
