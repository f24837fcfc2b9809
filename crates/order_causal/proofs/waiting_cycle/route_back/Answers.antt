use Rattle.std.proofs.Common.{◌≡◌, ◌+◌, ◌-◌, ℕ, List, [], ◌∷◌, ◌++◌, arith, ap, sym, subst, ◌∙◌, length, get_or}
use Rattle.std.proofs.lemmas.List.{length_push}
use Rattle.std.proofs.lemmas.Option.{slice_get-get_or}
use Rattle.model_history.specs.declared.op_id.OpId.{OpId}
use Rattle.order_causal.specs.Orders.{op, StandsAt}
use Rattle.order_causal.specs.Steps.Waiting.{IsRoute}
use Rattle.order_causal.specs.Schedules.{next_of}
use Rattle.order_causal.specs.Waits.{IsAwaited}
use Rattle.order_causal.proofs.WaitRoutes.{at-place, chain-few, route-none, route-later, route-same, route-cycle}
use Rattle.order_causal.proofs.waiting_cycle.route_back.Goals as goal
use Rattle.order_causal.proofs.waiting_cycle.route_back.Goals.{then-reached-op+in_ok-push, else-reached-op}

pub next_in_session_of-reached-requires : goal.next_in_session_of-reached-requires
next_in_session_of-reached-requires c =
    chain-few c.args.waits.now c.args.walk.now c.requires.waits c.args.chain.now c.requires.chain c.args.places.1 (op 0 0) c.requires.places.inside

pub loop-back-init : goal.loop-back-init
loop-back-init c =
    let r = c.next_in_session_of-reached.result in
    let is : c.in_ok-route.route.items ≡ r ∷ [] = c.in_ok-route.ensures.items in
    let len = ap (λ (ops : List OpId). length ops) is in
    record {
      route = subst (λ (ops : List OpId). IsRoute c.args.waits.now ops r r) (sym is) (route-none c.args.waits.now r);
      at = λ a at. c.next_in_session_of-reached.ensures
          ∙ ap (λ (b : OpId). next_of c.args.walk.now b.session) (at-place c.args.chain.now (c.args.places.1 - 0) c.args.places.1 a (op 0 0) (omega arith) at);
      some = omega arith;
    }

pub next_in_session_of-reached-requires-in-loop-back : goal.next_in_session_of-reached-requires-in-loop-back
next_in_session_of-reached-requires-in-loop-back c =
    let inside = c.requires.places.inside in
    chain-few c.args.waits.now c.args.walk.now c.requires.waits c.args.chain.now c.requires.chain (c.args.places.1 - c.loop-back.back - 1) (op 0 0) (omega arith)

pub loop-back-preserved : goal.loop-back-preserved
loop-back-preserved c =
    let v = c.args.waits.now in
    let schedule = c.args.walk.now in
    let chain = c.args.chain.now in
    let inv = c.loop-back.invariant in
    let some = inv.some in
    let inside = c.requires.places.inside in
    let below = c.loop-back-test.true in
    let later : ℕ = c.args.places.1 - c.loop-back.back in
    let a : OpId = get_or chain later (op 0 0) in
    let b : OpId = get_or chain (later - 1) (op 0 0) in
    let at_a : StandsAt chain later a = slice_get-get_or chain later (op 0 0) (omega arith) in
    let at_b : StandsAt chain (later - 1) b = slice_get-get_or chain (later - 1) (op 0 0) (omega arith) in
    let again : later ≡ later - 1 + 1 = omega arith in
    let unplaced = c.requires.chain.unplaced later a at_a in
    let awaited = c.requires.chain.awaited (later - 1) b a at_b (subst (λ (n : ℕ). StandsAt chain n a) again at_a) in
    let w = c.next_in_session_of-reached-in-loop-back.result in
    let is_w : w ≡ next_of schedule b.session = c.next_in_session_of-reached-in-loop-back.ensures in
    let awaited_w : IsAwaited v w a = subst (λ (o : OpId). IsAwaited v o a) (sym is_w) awaited in
    let route = c.loop-back.route.items in
    let begin = c.next_in_session_of-reached.result in
    let more = length_push c.if-reached-op.route.items w in
    let pushed : c.push-in-loop-back.new.self.items ≡ c.if-reached-op.route.items ++ w ∷ [] = c.in_ok-push-2.ensures.items in
    let size = ap (λ (ops : List OpId). length ops) pushed in
    let next : (x : OpId) → StandsAt chain (c.args.places.1 - (c.loop-back.back + 1)) x → w ≡ next_of schedule x.session =
    λ x at. is_w ∙ ap (λ (o : OpId). next_of schedule o.session) (at-place chain (c.args.places.1 - (c.loop-back.back + 1)) (later - 1) x (op 0 0) (omega arith) at) in
    elim c.if-reached-op.branch [
      | then-reached-op+in_ok-push x ↦
          let mid : c.if-reached-op.route.items ≡ route ++ a ∷ [] = ap (λ ops. ops.items) x.route-is ∙ x.in_ok-push.ensures.items in
          let len = ap (λ (ops : List OpId). length ops) mid in
          let one = length_push route a in
          record {
            route = subst (λ (ops : List OpId). IsRoute v ops begin w) (sym pushed)
                (subst (λ (ops : List OpId). IsRoute v (ops ++ w ∷ []) begin w) (sym mid)
                (route-later v schedule a w unplaced awaited_w c.loop-back.reached (inv.at a at_a) route begin inv.route x.if-reached-op.true));
            at = next;
            some = omega arith;
          }
      | else-reached-op x ↦
          let mid : c.if-reached-op.route.items ≡ route = ap (λ ops. ops.items) x.route-is in
          let len = ap (λ (ops : List OpId). length ops) mid in
          record {
            route = subst (λ (ops : List OpId). IsRoute v ops begin w) (sym pushed)
                (subst (λ (ops : List OpId). IsRoute v (ops ++ w ∷ []) begin w) (sym mid)
                (route-same v schedule a w unplaced awaited_w c.loop-back.reached (inv.at a at_a) route begin inv.route x.if-reached-op.false));
            at = next;
            some = omega arith;
          }
    ]

pub returns : goal.returns
returns c =
    let v = c.args.waits.now in
    let schedule = c.args.walk.now in
    let chain = c.args.chain.now in
    let inv = c.loop-back.invariant in
    let some = inv.some in
    let inside = c.requires.places.inside in
    let ordered = c.requires.places.ordered in
    let done = c.loop-back-test.false in
    let a : OpId = get_or chain c.args.places.0 (op 0 0) in
    let b : OpId = get_or chain c.args.places.1 (op 0 0) in
    let at_a : StandsAt chain c.args.places.0 a = slice_get-get_or chain c.args.places.0 (op 0 0) (omega arith) in
    let at_b : StandsAt chain c.args.places.1 b = slice_get-get_or chain c.args.places.1 (op 0 0) inside in
    let same : a.session ≡ b.session = c.requires.places.same a b at_a at_b in
    let place : c.args.places.0 ≡ c.args.places.1 - c.loop-back.back = omega arith in
    let end : c.loop-back.reached ≡ next_of schedule a.session = inv.at a (subst (λ (n : ℕ). StandsAt chain n a) place at_a) in
    let begin : c.next_in_session_of-reached.result ≡ next_of schedule b.session = c.next_in_session_of-reached.ensures in
    route-cycle v c.loop-back.route.items c.next_in_session_of-reached.result c.loop-back.reached inv.route
    (begin ∙ ap (λ (s : ℕ). next_of schedule s) (sym same) ∙ sym end) (omega arith)
