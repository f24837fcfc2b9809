use Rattle.std.specs.Prelude.{◌≡◌, take}
use Rattle.cert_make.specs.ByStamp.{sessions_of}
use Rattle.cert_make.proofs.by_stamp.sessions_of.Given as goal

-- the operations so far have their sessions
abbrev pub invariant-loop-session : goal.invariant-loop-session
invariant-loop-session l = l.sessions.items ≡ sessions_of (take l.session-index l.ops)
