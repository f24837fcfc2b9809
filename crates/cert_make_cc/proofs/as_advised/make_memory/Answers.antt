-- What is known of a history is known of that history.
use Rattle.cert_make_cc.proofs.as_advised.make_memory.Goals as goal

pub returns-clause-advised : goal.returns-clause-advised
returns-clause-advised c = rw c.in_ok-memory.ensures at c.make_indexed.ensures.advised

pub returns-clause-exact : goal.returns-clause-exact
returns-clause-exact c = rw c.in_ok-memory.ensures at c.make_indexed.ensures.exact

pub returns-clause-none : goal.returns-clause-none
returns-clause-none c = rw c.in_ok-memory.ensures at c.make_indexed.ensures.none

pub returns-clause-made : goal.returns-clause-made
returns-clause-made c = rw c.in_ok-memory.ensures at c.make_indexed.ensures.made

pub returns-clause-explained : goal.returns-clause-explained
returns-clause-explained c = rw c.in_ok-memory.ensures at c.make_indexed.ensures.explained
