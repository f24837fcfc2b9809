use Rattle.std.proofs.Common.{rules, arith, ◌≡◌, ◌<◌, ◌+◌, ◌++◌, ◌∷◌, [], ℕ, length, map, ap, subst, sym, ◌∙◌}
use Rattle.std.proofs.lemmas.List.{length-append, map-append}
use Rattle.model_history.specs.History.{IsSession}
use Rattle.live_simulation.specs.Steps.Recordings.{IsLane, found_lanes, lane_of}
use Rattle.live_simulation.proofs.Kept.{each_more, found_here, found_pushed, found_session, same_lane}
use Rattle.live_simulation.proofs.recording.Recording.sealed.Goals as goal

pub returns : goal.returns
returns g c = λ p stands many.
    let within = c.loop-s.auto.s-end in
    let past = c.loop-s-test.false in
    let end = c.len-s-end.ensures in
    let viewed = ap (λ w. length w.lanes) c.self.view_is in
    let all : c.loop-s.s ≡ length c.args.self.now.lanes = omega arith in
    let begins = c.in_ok-start.ensures ∙ ap (λ w. w.start) c.self.view_is in
    let found = c.loop-s.invariant.found p stands many ∙ ap (λ (n : ℕ). found_lanes c.args.self.now p 0 n) all in
    c.of.ensures ∙ (λ i. (begins i, found i))

pub loop-s-preserved : goal.loop-s-preserved
loop-s-preserved g c =
    let within : c.loop-s.s < length c.self.inside.lanes.items = search rules in
    let is : map (λ v. v.items) c.push.new.self.items ≡ map (λ v. v.items) c.loop-s.sessions.items ++ c.in_ok-ops.ops.items ∷ [] =
    ap (map (λ v. v.items)) c.in_ok-push.ensures.items ∙ map-append (λ v. v.items) c.loop-s.sessions.items (c.in_ok-ops.ops ∷ []) in
    let here = same_lane g.O.SeqObject.is_start g.O.SeqObject.matches record { start = c.self.inside.start; lanes = c.self.inside.lanes.items; plans = c.self.inside.plans.items } c.self.invariant c.loop-s.s c.index.result.now within c.index.ensures in
    let lane_is = here ∙ ap (λ w. lane_of w c.loop-s.s) c.self.view_is in
    let good : IsLane g.O.SeqObject.matches c.index.result.now = subst (IsLane g.O.SeqObject.matches) (sym here) (c.self.invariant.each c.loop-s.s) in
    let session : IsSession g.O.SeqObject.matches c.in_ok-ops.ops.items =
    subst (IsSession g.O.SeqObject.matches) (sym c.in_ok-ops.ensures) (found_session g.O.SeqObject.matches c.index.result.now c.calls_found-calls.result c.returns_found-returns.result good) in
    record {
      many = ap length c.in_ok-push.ensures.items ∙ (length-append c.loop-s.sessions.items (c.in_ok-ops.ops ∷ []) ∙ ap (λ (n : ℕ). n + 1) c.loop-s.invariant.many);
      each = each_more (IsSession g.O.SeqObject.matches) c.in_ok-ops.ops.items [] session (map (λ v. v.items) c.loop-s.sessions.items) (map (λ v. v.items) c.push.new.self.items) is c.loop-s.invariant.each;
      found = λ p stands many.
          let lanes : length c.self.inside.lanes.items ≡ length c.args.self.now.lanes = ap (λ w. length w.lanes) c.self.view_is in
          let inside : c.loop-s.s < p.lanes = (let all : p.lanes ≡ length c.args.self.now.lanes = many in omega arith) in
          found_pushed c.args.self.now p c.loop-s.s (map (λ v. v.items) c.loop-s.sessions.items) (map (λ v. v.items) c.push.new.self.items) c.in_ok-ops.ops.items is
          (found_here c.args.self.now p c.loop-s.s c.calls_found-calls.result c.returns_found-returns.result c.index.result.now c.in_ok-ops.ops.items c.in_ok-ops.ensures lane_is
          (c.calls_found-calls.ensures p stands inside) (c.returns_found-returns.ensures p stands inside))
          (c.loop-s.invariant.found p stands many);
    }
