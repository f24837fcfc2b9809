use Rattle.std.proofs.Common.{◌≡◌, ◌+◌, length, ap, ◌∙◌, subst, arith}
use Rattle.std.specs.Prelude.{MatchResult, MatchOption, vec_len}
use Rattle.live_recorder.proofs.Telling.{length_push}
use Rattle.live_driver.specs.Clients.{AreOfLanesFrom, IsGivenUp, IsPlayed}
use Rattle.live_driver.proofs.Calls.{seals_joined}
use Rattle.live_driver.proofs.FirstCalls.{lanes_more, recorded_more}
use Rattle.live_driver.proofs.Gathered.{StandFrom, stand_all, played_before, played_last, stand_more, told_more}
use Rattle.live_driver.proofs.gathering.gather.Goals as goal

pub loop-result-preserved : goal.loop-result-preserved
loop-result-preserved g c =
    let run = c.args.run.now in
    let old = c.loop-result in
    let left = c.pop.new.self.items in
    let e = c.in-Some.ensures.items in
    let n = length left in
    let last = played_last run.lanes.now run.plan.stop run.input.now old.results.items left c.in-Some.result e old.invariant.played in
    let is = subst (λ q. MatchResult q (IsPlayed run.lanes.now run.plan.stop run.input.now n) IsGivenUp) c.in-Ok.is last in
    let grown = c.in_ok-keep.ensures.receipts in
    let more = ap length e ∙ length_push left c.in-Some.result in
    record {
      recorded = recorded_more run.lanes.now run.input.now old.sessions.items c.keep.new.sessions.items c.in-Ok.played.own c.in_ok-keep.ensures.sessions is.recorded old.invariant.recorded;
      lanes = lanes_more run.input.now n old.sessions.items c.keep.new.sessions.items c.in-Ok.played.own c.in_ok-keep.ensures.sessions is.lane (subst (λ k. AreOfLanesFrom k run.input.now old.sessions.items) more old.invariant.lanes);
      played = played_before run.lanes.now run.plan.stop run.input.now old.results.items left c.in-Some.result e old.invariant.played;
      told = told_more run.lanes.now run.plan.stop run.input.now n c.in-Ok.played is old.receipts.items c.keep.new.receipts.items grown old.invariant.told;
      calls = stand_more run.lanes.now run.plan.stop run.input.now n c.in-Ok.played is old.receipts.items c.keep.new.receipts.items grown (subst (λ k. StandFrom run.lanes.now run.plan.stop run.input.now k old.receipts.items) more old.invariant.calls);
      seals = seals_joined run.lanes.now old.seals.items c.in-Ok.played.seals c.keep.new.seals.items c.in_ok-keep.ensures.seals old.invariant.seals is.seals;
    }

pub returns-in-Err-clause-refused : goal.returns-in-Err-clause-refused
returns-in-Err-clause-refused g c =
    let run = c.args.run.now in
    let old = c.loop-result in
    let left = c.pop.new.self.items in
    let n = length left in
    let last = played_last run.lanes.now run.plan.stop run.input.now old.results.items left c.in-Some.result c.in-Some.ensures.items old.invariant.played in
    subst (λ q. MatchResult q (IsPlayed run.lanes.now run.plan.stop run.input.now n) IsGivenUp) c.in-Err.is last

pub returns-clause-calls : goal.returns-clause-calls
returns-clause-calls g c =
    let run = c.args.run.now in
    let old = c.loop-result in
    let none : length old.results.items ≡ 0 =
    let none_left = subst (λ r. MatchOption r ((vec_len old.results ≡ 0) × (vec_len c.pop.new.self ≡ 0)) (λ _. vec_len c.pop.new.self + 1 ≡ vec_len old.results)) c.in_default.is c.pop.ensures.cases in
    omega (arith, none_left.0, old.results.ok.0)
    in
    stand_all run.lanes.now run.plan.stop run.input.now (length old.results.items) old.receipts.items none old.invariant.calls

pub returns-clause-lanes : goal.returns-clause-lanes
returns-clause-lanes g c =
    let run = c.args.run.now in
    let old = c.loop-result in
    let none : length old.results.items ≡ 0 =
    let none_left = subst (λ r. MatchOption r ((vec_len old.results ≡ 0) × (vec_len c.pop.new.self ≡ 0)) (λ _. vec_len c.pop.new.self + 1 ≡ vec_len old.results)) c.in_default.is c.pop.ensures.cases in
    omega (arith, none_left.0, old.results.ok.0)
    in
    subst (λ k. AreOfLanesFrom k run.input.now old.sessions.items) none old.invariant.lanes

pub returns-clause-recorded : goal.returns-clause-recorded
returns-clause-recorded g c = c.loop-result.invariant.recorded

pub returns-clause-told : goal.returns-clause-told
returns-clause-told g c = c.loop-result.invariant.told

pub returns-clause-seals : goal.returns-clause-seals
returns-clause-seals g c = c.loop-result.invariant.seals
