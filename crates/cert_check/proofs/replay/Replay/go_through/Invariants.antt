use Rattle.std.proofs.Common.{take}
use Rattle.cert_check.specs.Schedules.{named}
use Rattle.cert_check.specs.Steps.Replays.{kept_of, AreAnswered, IsReplayAt}
use Rattle.cert_check.proofs.replay.Replay.go_through.Given as goal

-- the replay has taken in what was named so far, and what is kept of it is answered if what was before is
abbrev pub invariant-loop-place : goal.invariant-loop-place
invariant-loop-place g l =
    IsReplayAt g.O.SeqObject.stands l.h l.list l.place (take l.place (named l.list)) l.self.naming.counts.items l.self.object
    × (AreAnswered g.O.SeqObject.answer l.h (kept_of l.kept) l.list l.from → AreAnswered g.O.SeqObject.answer l.h (kept_of l.kept) l.list l.place)
