use Rattle.std.proofs.Common.{◌≡◌, ◌≤◌, List, ℕ, take, get_or, min, sym, subst, ⊎_elim, arith}
use Rattle.std.specs.Prelude.{◌≢◌}
use Rattle.std.proofs.lemmas.Bool.{cases_eq}
use Rattle.order_causal.specs.Schedules.{placed}
use Rattle.order_causal.proofs.Placed.{placed-up}
use Rattle.cert_make_cc.proofs.whole_walk.WholeWalk.common.Goals as goal
use Rattle.cert_make_cc.proofs.whole_walk.WholeWalk.common.Goals.{then-limits-session, else-limits-session}

pub loop-session-preserved : goal.loop-session-preserved
loop-session-preserved c = λ s below apart.
    let whole : List ℕ = c.args.self.now in
    let limits : List ℕ = c.args.limits.now in
    let others : List ℕ = c.args.others.now in
    let t = c.loop-session.session in
    elim c.if-limits-session.branch [
      | then-limits-session w ↦
          let least = w.min-common.ensures in
          let now = w.common-is in
          ⊎_elim
          (λ (same : s ≡ t).
          let up = placed-up whole c.if-limits-session.common w.place_of.result t (omega arith) in
          let place = w.place_of.ensures in
          let bound : placed (take c.if-limits-session.common whole) t ≤ min (get_or limits t 0) (get_or others t 0) = omega arith in
          subst (λ (r : ℕ). placed (take c.if-limits-session.common whole) r ≤ min (get_or limits r 0) (get_or others r 0)) (sym same) bound)
          (λ (other : s ≢ t).
          let up = placed-up whole c.if-limits-session.common c.loop-session.common s (omega arith) in
          let bound = c.loop-session.invariant s (omega arith) apart in
          omega arith)
          (cases_eq s t)
      | else-limits-session w ↦
          let now = w.common-is in
          ⊎_elim
          (λ (same : s ≡ t). absurd (apart (subst (λ (r : ℕ). get_or limits r 0 ≡ get_or others r 0) (sym same) w.if-limits-session.false)))
          (λ (other : s ≢ t).
          let up = placed-up whole c.if-limits-session.common c.loop-session.common s (omega arith) in
          let bound = c.loop-session.invariant s (omega arith) apart in
          omega arith)
          (cases_eq s t)
    ]
