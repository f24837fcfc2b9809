use Rattle.std.specs.Prelude.{◌≡◌, ◌<◌, ◌+◌, true, length}
use Rattle.std.proofs.Common.{arith, ap, ◌∙◌, subst}
use Rattle.std.proofs.lemmas.List.{get_or-set_same}
use Rattle.model_history.specs.History.{many_before}
use Rattle.judge_memory.specs.declared.rounds.Unfinished.{Unfinished}
use Rattle.judge_memory.specs.Placements.{next_of}
use Rattle.judge_memory.specs.Sessions.{IsStuck}
use Rattle.judge_memory.proofs.Placings.{grown-grown}
use Rattle.judge_memory.proofs.RunSteps.{run-stuck, run-placement, run-grown, run-passed}
use Rattle.judge_memory.proofs.rounds.Placement.run.Goals as goal

pub returns-then-not-can_follow-clause-stuck : goal.returns-then-not-can_follow-clause-stuck
returns-then-not-can_follow-clause-stuck c u same =
    let h = c.args.index.now.history in
    let below : c.loop-operation.operation < many_before h (c.args.at.session + 1) = grind arith in
    let left : ◌≡◌ {A = Unfinished} (record { session = c.args.at.session; passed = c.pass-passed.result }) u = cc in
    subst (IsStuck h c.args.edges.now (next_of c.loop-operation.self.next.items)) (ap (λ (w : Unfinished). w.session) left)
    (run-stuck h c.args.edges.now c.loop-operation.self.next.items c.loop-operation.self.order.items c.loop-operation.invariant.placement
    c.args.at.session c.loop-operation.operation c.requires.gone.session c.loop-operation.invariant.next below
    (c.can_follow.ensures.waits (λ follows. let no = c.if-not-can_follow.true in absurd (let both = rw follows at no in cc))))

pub loop-operation-preserved : goal.loop-operation-preserved
loop-operation-preserved c =
    let h = c.args.index.now.history in
    let before = c.loop-operation.self in
    let after = c.place.new.self in
    let o = c.loop-operation.operation in
    let s = c.args.at.session in
    let now = c.loop-operation.invariant.placement in
    let below : o < many_before h (s + 1) = grind arith in
    let follows : c.can_follow.result ≡ true = grind arith in
    let ready = c.can_follow.ensures.ready follows in
    let is_o = c.loop-operation.invariant.next in
    let is_after = c.in_ok-place.ensures.next in
    let is_longer = c.in_ok-place.ensures.order in
    let inside = c.requires.gone.session in
    let count = now.count in
    let listed : s < length before.next.items = omega arith in
    record {
      placement = run-placement h c.args.edges.now before.next.items before.order.items now s o inside is_o below ready after.next.items
          after.order.items is_after is_longer;
      grown = grown-grown c.args.self.now.next.items c.args.self.now.order.items before.next.items before.order.items after.next.items
          after.order.items c.loop-operation.invariant.grown
          (run-grown h c.args.edges.now before.next.items before.order.items now s o inside is_o below ready after.next.items after.order.items
          is_after is_longer);
      next = ap (λ xs. next_of xs s) is_after ∙ get_or-set_same before.next.items s (o + 1) 0 listed;
      passed = run-passed h c.args.edges.now before.next.items before.order.items now s o inside is_o below ready after.next.items
          after.order.items is_after is_longer c.pass-passed.result c.pass-passed.ensures.passed;
    }
