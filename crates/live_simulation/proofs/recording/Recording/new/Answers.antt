use Rattle.std.proofs.Common.{◌≡◌, ℕ, ◌+◌, ◌∷◌, ◌++◌, [], arith, ap, get_or, length, refl, subst, sym, ◌∙◌}
use Rattle.std.proofs.lemmas.List.{get_or_past, length-append}
use Rattle.live_simulation.specs.Steps.Recordings.{State}
use Rattle.live_simulation.proofs.Fresh.{all_more, fresh_kept, fresh_shows}
use Rattle.live_simulation.proofs.recording.Recording.new.Goals as goal

pub loop-session-init : goal.loop-session-init
loop-session-init g c = record {
  many = ap length c.in_ok-lanes.ensures.items;
  each = λ s. subst (λ l. get_or l s ([], []) ≡ ([], [])) (sym c.in_ok-lanes.ensures.items) (get_or_past [] s ([], []) (omega arith));
}

pub loop-session-preserved : goal.loop-session-preserved
loop-session-preserved g c =
    let lanes = c.loop-session.lanes.items in
    let pushed = c.in_ok-push.ensures.items ∙ ap (λ l. lanes ++ l ∷ []) c.new.ensures in
    record {
      many = ap length c.in_ok-push.ensures.items
          ∙ (length-append lanes (c.new.result ∷ []) ∙ ap (λ (n : ℕ). n + 1) c.loop-session.invariant.many);
      each = λ s. subst (λ l. get_or l s ([], []) ≡ ([], [])) (sym pushed) (all_more lanes ([], []) c.loop-session.invariant.each s);
    }

pub invariant_of-result : goal.invariant_of-result
invariant_of-result g c =
    let state : State g.row.O-Start.Denot g.row.O-Call.Denot g.row.O-Ret.Denot =
    record { start = c.args.start; lanes = c.loop-session.lanes.items; plans = c.new-plans.result.items } in
    let many = c.loop-session.invariant.many in
    let within = c.loop-session.auto._session-end in
    let few = c.requires.few in
    fresh_kept state c.loop-session.invariant.each g.O.SeqObject.is_start g.O.SeqObject.matches c.requires.start (omega arith)

pub returns : goal.returns
returns g c =
    let state : State g.row.O-Start.Denot g.row.O-Call.Denot g.row.O-Ret.Denot =
    record { start = c.args.start; lanes = c.loop-session.lanes.items; plans = c.new-plans.result.items } in
    let many = c.loop-session.invariant.many in
    let within = c.loop-session.auto._session-end in
    let past = c.loop-session-test.false in
    fresh_shows state c.loop-session.invariant.each c.args.start c.args.k refl (omega arith) c.new-plans.ensures.items
