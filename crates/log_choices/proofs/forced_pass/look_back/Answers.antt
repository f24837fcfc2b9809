use Rattle.std.proofs.Common.{sym, subst}
use Rattle.log_choices.specs.ForcedSteps.{IsPast}
use Rattle.log_choices.proofs.forced_pass.look_back.Goals as goal

pub seen_by-requires-clause-past : goal.seen_by-requires-clause-past
seen_by-requires-clause-past c =
    subst (IsPast c.args.timed.now.in_time c.args.timed.now.log.now c.args.past.now) (sym c.in-Some.ensures.1) c.requires.past

pub put_down-requires-clause-past : goal.put_down-requires-clause-past
put_down-requires-clause-past c =
    subst (IsPast c.args.timed.now.in_time c.args.timed.now.log.now c.args.past.now) (sym c.in-Some.ensures.1) c.requires.past

pub returns-in_ok-put_down-in-ReadOf-Some-GotNothing-clause-past : goal.returns-in_ok-put_down-in-ReadOf-Some-GotNothing-clause-past
returns-in_ok-put_down-in-ReadOf-Some-GotNothing-clause-past c =
    subst (IsPast c.args.timed.now.in_time c.args.timed.now.log.now c.put_down.new.past) c.in-Some.ensures.1
    c.in_ok-put_down-in-ReadOf-Some-GotNothing.ensures.past
