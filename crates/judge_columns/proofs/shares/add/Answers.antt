use Rattle.std.specs.Prelude.{length}
use Rattle.judge_columns.proofs.Shared.{fork-only, fork-shared, pushed-below, session-shared}
use Rattle.judge_columns.proofs.shares.add.Goals as goal

pub returns-in_ok-push-in-Some-clause-share : goal.returns-in_ok-push-in-Some-clause-share
returns-in_ok-push-in-Some-clause-share c =
    let h = c.args.index.now.history in
    let w = c.in-Some.ensures in
    record {
      below = c.requires.share.below;
      only = fork-only h c.args.share.now.sessions.items c.args.share.now.forks.items c.push.new.self.items c.in-Some.write c.args.session
          c.in_ok-push-in-Some.ensures.items w.0 w.1 w.2 w.3 c.requires.share.only w.4;
    }

pub returns-in_ok-push-in-Some-clause-added : goal.returns-in_ok-push-in-Some-clause-added
returns-in_ok-push-in-Some-clause-added c =
    let h = c.args.index.now.history in
    let w = c.in-Some.ensures in
    fork-shared h c.args.share.now.sessions.items c.args.share.now.forks.items c.push.new.self.items c.in-Some.write c.args.session
    c.in_ok-push-in-Some.ensures.items w.0 w.1 w.2 w.3

pub returns-in_ok-push-in-None-clause-share : goal.returns-in_ok-push-in-None-clause-share
returns-in_ok-push-in-None-clause-share c =
    let h = c.args.index.now.history in
    record {
      below = pushed-below c.args.share.now.sessions.items c.push-in-None.new.self.items c.args.session (length h.1)
          c.in_ok-push-in-None.ensures.items c.requires.session c.requires.share.below;
      only = c.requires.share.only;
    }

pub returns-in_ok-push-in-None-clause-added : goal.returns-in_ok-push-in-None-clause-added
returns-in_ok-push-in-None-clause-added c =
    session-shared c.args.index.now.history c.args.share.now.sessions.items c.args.share.now.forks.items c.push-in-None.new.self.items
    c.args.session c.in_ok-push-in-None.ensures.items
