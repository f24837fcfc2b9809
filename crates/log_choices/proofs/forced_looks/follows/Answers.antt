use Rattle.std.proofs.Common.{◌<◌, get_or, subst, List, ℕ}
use Rattle.log_choices.proofs.ForcedKept.{read-earlier, read-precedes}
use Rattle.log_choices.proofs.forced_looks.follows.Goals as goal

pub returns-then-write-read-2 : goal.returns-then-write-read-2
returns-then-write-read-2 c =
    λ _. read-earlier c.args.timed.now.in_time c.args.timed.now.log.now c.args.read c.requires.read c.args.write.now c.requires.write
    c.if-write-read.true c.if-write-read-2.true

pub returns : goal.returns
returns c =
    let below = subst (λ (l : List ℕ). c.args.read.place < get_or l c.args.read.client 0) c.as_slice-past.ensures.value c.if-past-client.false in
    λ _. read-precedes c.args.timed.now.in_time c.args.timed.now.log.now c.args.read c.requires.read c.args.write.now c.requires.write below
