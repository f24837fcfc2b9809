use Rattle.std.specs.Prelude.{ℕ, ◌+◌, ◌<◌, length}
use Rattle.std.proofs.Common.{arith, refl, sym, subst}
use Rattle.std.proofs.lemmas.List.{get_or_read}
use Rattle.judge_memory.specs.Placements.{ArePassed, IsUnfinished, next_of}
use Rattle.judge_memory.specs.declared.rounds.Unfinished.{Unfinished}
use Rattle.judge_memory.proofs.Listing.{AreUnfinishedBelow, listed-finished, listed-more}
use Rattle.judge_memory.proofs.rounds.Placement.unfinished.Goals as goal
use Rattle.judge_memory.proofs.rounds.Placement.unfinished.Goals.{then-next-end+in_ok-push, else-next-end}

pub loop-session-preserved : goal.loop-session-preserved
loop-session-preserved c =
    let h = c.args.index.now.history in
    let edges = c.args.edges.now in
    let next = c.args.self.now.next.items in
    let s = c.loop-session.session in
    let inside : s < length h.1 = grind arith in
    let count = c.requires.placement.count in
    let value = get_or_read next s c.index-next.result.now (omega arith) c.index-next.ensures 0 in
    let end = c.end.ensures.number in
    elim c.if-next-end.branch [
      | then-next-end+in_ok-push w ↦ (
          let left : IsUnfinished h (next_of next) s = (let below = w.if-next-end.true in omega arith) in
          let u : Unfinished = record { session = s; passed = w.pass-passed.result } in
          rw (w.sessions-is, w.passed-is)
          (subst (AreUnfinishedBelow h edges (next_of next) (s + 1) w.pass-passed.result) (sym w.in_ok-push.ensures.items)
          (listed-more h edges next c.args.self.now.order.items c.requires.placement s c.loop-session.passed c.loop-session.sessions.items
          c.loop-session.invariant u refl inside left
          (subst (λ (n : ℕ). ArePassed h edges (next_of next) n w.pass-passed.result) value w.pass-passed.ensures.passed)))
          )
      | else-next-end w ↦ rw (w.sessions-is, w.passed-is)
          (listed-finished h edges next c.args.self.now.order.items c.requires.placement s c.loop-session.passed c.loop-session.sessions.items
          c.loop-session.invariant (λ left. let above = w.if-next-end.false in omega arith))
    ]
