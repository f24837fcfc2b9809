use Rattle.std.proofs.Common.{◌≡◌, ◌<◌, ◌≤◌, rules, arith, sym, subst, length}
use Rattle.std.proofs.Math.Nat.{min-le_left}
use Rattle.live_seals.proofs.Advising.{meet_advice}
use Rattle.live_seals.proofs.Meetings.{meet_shares_return, meet_shares_call, meet_returns, meet_first_calls, fewer_returns, fewer_calls, more_returns, more_calls, meet_calls}
use Rattle.live_seals.proofs.meeting.meet.Goals as goal

pub compare_returns-requires-clause-shared : goal.compare_returns-requires-clause-shared
compare_returns-requires-clause-shared g c = λ i h. meet_shares_return g.O.SeqObject.matches c.args.sealed.now c.args.session.now c.lane.result c.lane-lane.result.now c.lane.ensures c.lane-lane.ensures.session c.lane-lane.ensures.cells c.requires i

pub returns-then-done-held-clause-returns : goal.returns-then-done-held-clause-returns
returns-then-done-held-clause-returns g c = fewer_returns g.O.SeqObject.matches c.args.sealed.now c.args.session.now c.lane.result c.lane-lane.result.now c.lane.ensures c.lane-lane.ensures.session c.lane-lane.ensures.cells c.requires c.returned-done.result c.returned-held.result c.returned-done.ensures c.returned-held.ensures c.if-done-held.true

pub returns-then-done-held-clause-calls : goal.returns-then-done-held-clause-calls
returns-then-done-held-clause-calls g c = fewer_calls g.O.SeqObject.matches c.args.sealed.now c.args.session.now c.lane.result c.lane-lane.result.now c.lane.ensures c.lane-lane.ensures.session c.lane-lane.ensures.cells c.requires c.returned-done.result c.returned-held.result c.returned-done.ensures c.returned-held.ensures c.if-done-held.true

pub returns-then-done-held-clause-same_returns : goal.returns-then-done-held-clause-same_returns
returns-then-done-held-clause-same_returns g c =
    let d : c.returned-done.result ≡ length c.args.session.now.done = c.returned-done.ensures in let e : c.returned-held.result ≡ length c.lane-lane.result.now.returns = c.returned-held.ensures in let h : c.returned-done.result < c.returned-held.result = c.if-done-held.true in
    meet_returns g.O.SeqObject.matches c.args.sealed.now c.args.session.now c.lane.result c.lane-lane.result.now c.lane.ensures c.lane-lane.ensures.session c.lane-lane.ensures.cells c.requires c.returned-done.result (omega arith) (omega arith) c.compare_returns.ensures

pub returns-then-done-held-clause-same_calls : goal.returns-then-done-held-clause-same_calls
returns-then-done-held-clause-same_calls g c =
    let d : c.returned-done.result ≡ length c.args.session.now.done = c.returned-done.ensures in let e : c.returned-held.result ≡ length c.lane-lane.result.now.returns = c.returned-held.ensures in let h : c.returned-done.result < c.returned-held.result = c.if-done-held.true in
    meet_first_calls g.O.SeqObject.matches c.args.sealed.now c.args.session.now c.lane.result c.lane-lane.result.now c.lane.ensures c.lane-lane.ensures.session c.lane-lane.ensures.cells c.requires c.returned-done.result (omega arith) (omega arith) c.compare_returns.ensures

pub compare_returns-requires-2-clause-shared : goal.compare_returns-requires-2-clause-shared
compare_returns-requires-2-clause-shared g c = λ i h. meet_shares_return g.O.SeqObject.matches c.args.sealed.now c.args.session.now c.lane.result c.lane-lane.result.now c.lane.ensures c.lane-lane.ensures.session c.lane-lane.ensures.cells c.requires i

pub compare_calls-requires-clause-shared : goal.compare_calls-requires-clause-shared
compare_calls-requires-clause-shared g c = λ i h. meet_shares_call g.O.SeqObject.matches c.args.sealed.now c.args.session.now c.lane.result c.lane-lane.result.now c.lane.ensures c.lane-lane.ensures.session c.lane-lane.ensures.cells c.requires i

pub returns-clause-returns : goal.returns-clause-returns
returns-clause-returns g c =
    let no : c.returned-held.result ≤ c.returned-done.result = search (rules, c.if-done-held.false) in
    more_returns g.O.SeqObject.matches c.args.sealed.now c.args.session.now c.lane.result c.lane-lane.result.now c.lane.ensures c.lane-lane.ensures.session c.lane-lane.ensures.cells c.requires c.returned-done.result c.returned-held.result c.returned-done.ensures c.returned-held.ensures no

pub returns-clause-calls : goal.returns-clause-calls
returns-clause-calls g c =
    let no : c.returned-held.result ≤ c.returned-done.result = search (rules, c.if-done-held.false) in
    more_calls g.O.SeqObject.matches c.args.sealed.now c.args.session.now c.lane.result c.lane-lane.result.now c.lane.ensures c.lane-lane.ensures.session c.lane-lane.ensures.cells c.requires c.returned-done.result c.returned-held.result c.returned-done.ensures c.returned-held.ensures no c.called.result c.called-2.result c.smaller-behind.result c.called.ensures c.called-2.ensures c.smaller-behind.ensures

pub returns-clause-same_returns : goal.returns-clause-same_returns
returns-clause-same_returns g c =
    let no : c.returned-held.result ≤ c.returned-done.result = search (rules, c.if-done-held.false) in
    let d : c.returned-done.result ≡ length c.args.session.now.done = c.returned-done.ensures in let e : c.returned-held.result ≡ length c.lane-lane.result.now.returns = c.returned-held.ensures in
    meet_returns g.O.SeqObject.matches c.args.sealed.now c.args.session.now c.lane.result c.lane-lane.result.now c.lane.ensures c.lane-lane.ensures.session c.lane-lane.ensures.cells c.requires c.returned-held.result (omega arith) (omega arith) c.compare_returns-2.ensures

pub returns-clause-same_calls : goal.returns-clause-same_calls
returns-clause-same_calls g c =
    let no : c.returned-held.result ≤ c.returned-done.result = search (rules, c.if-done-held.false) in
    meet_calls g.O.SeqObject.matches c.args.sealed.now c.args.session.now c.lane.result c.lane-lane.result.now c.lane.ensures c.lane-lane.ensures.session c.lane-lane.ensures.cells c.requires c.returned-done.result c.returned-held.result c.returned-done.ensures c.returned-held.ensures no c.called.result c.smaller-behind.result c.called.ensures (subst (λ n. n ≤ c.called.result) (sym c.smaller-behind.ensures) (min-le_left c.called.result _)) c.compare_returns-2.ensures c.compare_calls.ensures

pub returns-then-done-held-clause-same_advice : goal.returns-then-done-held-clause-same_advice
returns-then-done-held-clause-same_advice g c =
    let d : c.returned-done.result ≡ length c.args.session.now.done = c.returned-done.ensures in let e : c.returned-held.result ≡ length c.lane-lane.result.now.returns = c.returned-held.ensures in let h : c.returned-done.result < c.returned-held.result = c.if-done-held.true in
    meet_advice c.args.sealed.now c.args.session.now c.lane.result c.lane-lane.result.now c.lane.ensures c.lane-lane.ensures.advice c.returned-done.result (omega arith) (omega arith) c.compare_returns.ensures

pub returns-clause-same_advice : goal.returns-clause-same_advice
returns-clause-same_advice g c =
    let no : c.returned-held.result ≤ c.returned-done.result = search (rules, c.if-done-held.false) in
    let d : c.returned-done.result ≡ length c.args.session.now.done = c.returned-done.ensures in let e : c.returned-held.result ≡ length c.lane-lane.result.now.returns = c.returned-held.ensures in
    meet_advice c.args.sealed.now c.args.session.now c.lane.result c.lane-lane.result.now c.lane.ensures c.lane-lane.ensures.advice c.returned-held.result (omega arith) (omega arith) c.compare_returns-2.ensures
