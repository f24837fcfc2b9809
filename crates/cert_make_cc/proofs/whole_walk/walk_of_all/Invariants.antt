use Rattle.std.proofs.Common.{◌≡◌, ◌<◌, ℕ, length, get_or}
use Rattle.model_history.specs.History.{session}
use Rattle.cert_make_cc.proofs.whole_walk.walk_of_all.Given as goal

-- the sessions so far have their ends
abbrev pub invariant-loop-session : goal.invariant-loop-session
invariant-loop-session g l = (length l.ends.items ≡ l.session)
    × ((s : ℕ) → s < l.session → get_or l.ends.items s 0 ≡ length (session l.h s))
