use Rattle.std.proofs.Common.{◌≡◌, get_or, ap, ◌∙◌, subst, sym}
use Rattle.model_history.specs.declared.op_id.OpId.{OpId}
use Rattle.order_causal.specs.Schedules.{next_of}
use Rattle.order_causal.specs.Vectors.{list_of}
use Rattle.order_causal.specs.Steps.Waiting.{IsUnplaced}
use Rattle.order_causal.specs.Waits.{IsAwaited}
use Rattle.order_causal.proofs.WaitRoutes.{right-other, right-own}
use Rattle.order_causal.proofs.waiting_cycle.awaited.Goals as goal
use Rattle.order_causal.proofs.waiting_cycle.awaited.Goals.{then-missing-counts, else-missing-counts}

pub returns-clause-awaited : goal.returns-clause-awaited
returns-clause-awaited c =
    let v = c.args.waits.now in
    let schedule = c.args.walk.now in
    let s = c.args.session in
    let counts = c.get-counts.result.now in
    let read : counts ≡ list_of v (next_of schedule s) = c.get-counts.ensures ∙ ap (λ (o : OpId). list_of v o) c.next_operation.ensures in
    let found = c.first_missing-missing.ensures in
    let is : c.from.result ≡ get_or counts c.if-missing-counts.from 0 = c.from.ensures in
    subst (λ (o : OpId). IsAwaited v (next_of schedule s) o) (sym c.at.ensures) (elim c.if-missing-counts.branch [
      | then-missing-counts w ↦
          (right-other v schedule c.requires.waits s c.requires.is_open counts read c.if-missing-counts.from c.from.result is
          c.first_missing-missing.result w.from-is (found.missing w.if-missing-counts.true) (found.not_placed w.if-missing-counts.true)).0
      | else-missing-counts w ↦
          (right-own v schedule c.requires.waits s c.requires.is_open counts read c.if-missing-counts.from c.from.result is
          c.requires.stuck w.from-is c.first_missing-missing.result w.if-missing-counts.false found.seen).0
    ])

pub returns-clause-unplaced : goal.returns-clause-unplaced
returns-clause-unplaced c =
    let v = c.args.waits.now in
    let schedule = c.args.walk.now in
    let s = c.args.session in
    let counts = c.get-counts.result.now in
    let read : counts ≡ list_of v (next_of schedule s) = c.get-counts.ensures ∙ ap (λ (o : OpId). list_of v o) c.next_operation.ensures in
    let found = c.first_missing-missing.ensures in
    let is : c.from.result ≡ get_or counts c.if-missing-counts.from 0 = c.from.ensures in
    subst (λ (o : OpId). IsUnplaced v schedule o) (sym c.at.ensures) (elim c.if-missing-counts.branch [
      | then-missing-counts w ↦
          (right-other v schedule c.requires.waits s c.requires.is_open counts read c.if-missing-counts.from c.from.result is
          c.first_missing-missing.result w.from-is (found.missing w.if-missing-counts.true) (found.not_placed w.if-missing-counts.true)).1
      | else-missing-counts w ↦
          (right-own v schedule c.requires.waits s c.requires.is_open counts read c.if-missing-counts.from c.from.result is
          c.requires.stuck w.from-is c.first_missing-missing.result w.if-missing-counts.false found.seen).1
    ])
