use Rattle.std.proofs.Common.{◌≡◌, length}
use Rattle.cert_make_cc.specs.Steps.Cuts.{ArePlaces}
use Rattle.cert_make_cc.proofs.whole_walk.places_of.Given as goal

-- the sessions so far have their places
abbrev pub invariant-loop-session : goal.invariant-loop-session
invariant-loop-session l = (length l.places ≡ l.session) × ArePlaces l.schedule l.places
