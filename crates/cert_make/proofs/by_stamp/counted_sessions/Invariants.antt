use Rattle.std.specs.Prelude.{◌≡◌, take}
use Rattle.cert_make.specs.ByStamp.{counted_of, sessions_of}
use Rattle.cert_make.proofs.by_stamp.counted_sessions.Given as goal

-- of the operations so far those that are counted have their sessions
abbrev pub invariant-loop-session : goal.invariant-loop-session
invariant-loop-session l = l.sessions.items ≡ sessions_of (counted_of l.vectors l.fn.op (take l.session-index l.ops))
