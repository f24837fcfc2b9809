-- The certificate by advice is that of the history of which all is known.
use Rattle.cert_make_ccv.proofs.as_advised.make_indexed.Goals as goal

pub returns-in_ok-make_by_advice-clause-advised : goal.returns-in_ok-make_by_advice-clause-advised
returns-in_ok-make_by_advice-clause-advised c = λ decides. rw c.history.ensures at c.in_ok-make_by_advice.ensures.exact
