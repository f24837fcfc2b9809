use Rattle.pattern_search.proofs.search.reasons.Reasons.raise.Goals as goal

pub returns : goal.returns
returns c = rw (← c.self.view_is) c.raise_at.ensures
