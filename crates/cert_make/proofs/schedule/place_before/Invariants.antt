use Rattle.std.specs.Prelude.{◌≡◌, ◌++◌, replicate}
use Rattle.cert_make.proofs.schedule.place_before.Given as goal

-- so many operations more of the session are placed
abbrev pub invariant-loop-index : goal.invariant-loop-index
invariant-loop-index l = l.walk ≡ l.fn.walk ++ replicate l._index l.session
