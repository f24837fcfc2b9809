use Rattle.model_history.proofs.history.History.value_is_history.Goals as goal

pub returns : goal.returns
returns g c = rw (← c.self.view_is) c.self.invariant
