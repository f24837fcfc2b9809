use Rattle.std.proofs.Common.{◌≡◌, arith, inl, refl}
use Rattle.std.specs.Prelude.{slice_index}
use Rattle.std.proofs.lemmas.List.{get_or_read}
use Rattle.order_memory.specs.Steps.GrowthSteps.{NoMore, NoReads}
use Rattle.order_memory.proofs.GrowthLaws.{within-then}
use Rattle.order_memory.proofs.GrowingSteps.{behind-more, behind-same, settled-behind}
use Rattle.order_causal.proofs.OrdersLaws.{session-of_history}
use Rattle.order_memory.proofs.Raises.{grows-followed, settled-within}
use Rattle.order_memory.proofs.Stale.{raised-none}
use Rattle.order_memory.proofs.growing_order.GrowingOrder.add_behind.Goals as goal
use Rattle.order_memory.proofs.growing_order.GrowingOrder.add_behind.Goals.{then-index-from+in_ok-raise_from, else-index-from}

pub raise_from-requires-clause-held : goal.raise_from-requires-clause-held
raise_from-requires-clause-held c =
    let value = c.count-count.ensures in
    let held = c.requires.growing.counts.held c.args.raised.op c.args.raised.session c.requires.is_op in
    omega arith

pub first_behind-index-requires-clause-monotone : goal.first_behind-index-requires-clause-monotone
first_behind-index-requires-clause-monotone c =
    (settled-within c.args.h.now NoReads (λ e. e ≡ c.args.raised) c.args.self.now c.loop-session.self c.loop-session.invariant.within c.requires.settled).monotone

pub loop-session-preserved : goal.loop-session-preserved
loop-session-preserved c =
    let h = c.args.h.now in
    let at = c.loop-session.self in
    let p = c.args.raised.op in
    let u = c.args.raised.session in
    let first = c.first_behind-index.ensures in
    let same = c.loop-session.invariant.same in
    elim c.if-index-from.branch [
      | then-index-from+in_ok-raise_from w ↦
          let new = w.raise_from.new.self in
          let one = w.in_ok-raise_from.ensures.within NoReads (λ below. (inl (first.here below), omega arith)) in
          let within = within-then h NoReads c.args.self.now at new c.loop-session.invariant.within one in
          let monotone = (settled-within h NoReads (λ e. e ≡ c.args.raised) c.args.self.now new within c.requires.settled).monotone in
          rw w.self-is (record {
            within = within;
            same = behind-same at.counts new.counts at new c.loop-session.session c.first_behind-index.result u c.count-count.result p first refl w.in_ok-raise_from.ensures.raised one.past monotone same;
            behind = behind-more at.counts new.counts at new c.loop-session.session c.first_behind-index.result u c.count-count.result p first refl w.in_ok-raise_from.ensures.raised one.past monotone
                c.loop-session.invariant.behind;
          })
      | else-index-from w ↦
          let growing = c.loop-session.invariant.within.grows.growing in
          let sessions = growing.sessions in
          let count = c.sessions-session-end.ensures.count in
          let test = c.loop-session-test.true in
          let past = get_or_read at.past.items _ _ (omega arith) c.index.ensures 0 in
          let none = w.if-index-from.false in
          let monotone = (settled-within h NoReads (λ e. e ≡ c.args.raised) c.args.self.now at c.loop-session.invariant.within c.requires.settled).monotone in
          rw w.self-is (record {
            within = c.loop-session.invariant.within;
            same = same;
            behind = behind-more at.counts at.counts at at c.loop-session.session c.first_behind-index.result u c.count-count.result p first refl
                (raised-none at.counts (slice_index at.past.items c.loop-session.session) c.loop-session.session c.first_behind-index.result u c.count-count.result (omega arith)) refl monotone
                c.loop-session.invariant.behind;
          })
    ]

pub returns-clause-settled : goal.returns-clause-settled
returns-clause-settled c =
    let h = c.args.h.now in
    let at = c.loop-session.self in
    let within = c.loop-session.invariant.within in
    let same = c.loop-session.invariant.same in
    let ended = c.loop-session-test.false in
    let sessions = c.sessions-session-end.ensures.count in
    settled-behind at c.args.raised
    (settled-within h NoReads (λ e. e ≡ c.args.raised) c.args.self.now at within c.requires.settled)
    (grows-followed h NoReads NoMore c.args.self.now at within.grows c.args.raised.op c.args.raised.session c.requires.followed)
    (λ b is_in counts.
    let most = within.grows.growing.past b.session in
    let exists = session-of_history h b (omega arith) in
    let enough = c.loop-session.invariant.behind b (omega arith) is_in counts in
    omega arith)
