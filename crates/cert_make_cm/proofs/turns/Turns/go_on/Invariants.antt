use Rattle.cert_make_cm.specs.Steps.Started.{AreStarted}
use Rattle.cert_make_cm.proofs.turns.Turns.go_on.Given as goal

-- the operations so far have had their turns
abbrev pub invariant-loop-index : goal.invariant-loop-index
invariant-loop-index l = AreStarted l.vectors l.session l.index l.self.walk l.self.starts.items
