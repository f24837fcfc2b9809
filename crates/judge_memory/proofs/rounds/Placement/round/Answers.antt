use Rattle.std.specs.Prelude.{◌<◌, ◌≤◌, length, Ok}
use Rattle.std.proofs.Common.{arith, refl, ap, sym, ◌∙◌, subst}
use Rattle.std.proofs.lemmas.List.{length-set}
use Rattle.std.proofs.lemmas.Option.{slice_get_read}
use Rattle.judge_memory.specs.Placements.{next_of}
use Rattle.judge_memory.specs.Sessions.{AreStuck, AreUnfinished}
use Rattle.judge_memory.proofs.RoundSteps.{round-more, round-finished, round-kept, round-unfinished, round-stuck}
use Rattle.judge_memory.proofs.rounds.Placement.round.Goals as goal
use Rattle.judge_memory.proofs.rounds.Placement.round.Goals.{in-Some, in_default}

pub loop-place-preserved : goal.loop-place-preserved
loop-place-preserved c =
    let h = c.args.index.now.history in
    let edges = c.args.edges.now in
    let sessions = c.loop-place.sessions.items in
    let before = c.index.result.now in
    let after = c.run.new.self in
    let run = c.in_ok-at.ensures in
    let below : c.loop-place.place < length sessions = grind arith in
    let at_place = slice_get_read sessions (length sessions) c.loop-place.place before refl below c.index.ensures in
    let moved =
    round-more h edges _ _ _ _ _ _ _ c.loop-place.invariant.round after.next.items after.order.items run.placement run.grown in
    elim c.match-branch-2.branch [
      | in-Some w ↦ rw (w.sessions-is, w.kept-is) (record {
        size = length-set sessions c.loop-place.kept w.in-Some.at ∙ c.loop-place.invariant.size;
        round = (let same = ap (λ x. Ok x) w.in-Some.is in
            round-kept h edges _ _ _ _ _ _ _ moved before at_place w.in-Some.at (run.session w.in-Some.at same)
            (run.gone w.in-Some.at same) (run.stuck w.in-Some.at same));
      })
      | in_default w ↦ rw (w.sessions-is, w.kept-is) (record {
        size = c.loop-place.invariant.size;
        round = round-finished h edges _ _ _ _ _ _ _ moved before at_place (run.finished (ap (λ x. Ok x) w.in_default.is));
      })
    ]

pub returns-clause-sessions : goal.returns-clause-sessions
returns-clause-sessions c =
    let whole : length c.loop-place.sessions.items ≤ c.loop-place.place = grind arith in
    subst (AreUnfinished c.args.index.now.history c.args.edges.now (next_of c.loop-place.self.next.items)) (sym c.truncate.ensures.items)
    (round-unfinished c.args.index.now.history c.args.edges.now _ _ _ _ _ _ _ c.loop-place.invariant.round whole)

pub returns-clause-stuck : goal.returns-clause-stuck
returns-clause-stuck c as_long =
    subst (AreStuck c.args.index.now.history c.args.edges.now (next_of c.loop-place.self.next.items)) (sym c.truncate.ensures.items)
    (round-stuck c.args.index.now.history c.args.edges.now _ _ _ _ _ _ _ c.loop-place.invariant.round as_long)
