use Rattle.std.specs.Prelude.{◌≡◌, ◌+◌, ◌<◌, ◌≤◌, ◌++◌, ◌∷◌, ℕ, List, [], length, slice_index_or}
use Rattle.std.proofs.Common.{arith, sym, ◌∙◌, subst}
use Rattle.std.proofs.lemmas.Option.{same_Some, slice_get-get_or}
use Rattle.judge_workers.specs.Numbers.{HasNumber}
use Rattle.judge_workers.proofs.NumberLists.{has-first, range-more}
use Rattle.judge_memory.proofs.Orders.{order_by-straight}
use Rattle.judge_columns.specs.Lanes.{IsLane}
use Rattle.judge_columns.proofs.swept.sweep_four.Goals as goal
use Rattle.judge_columns.proofs.swept.sweep_four.Goals.{then-place-to+in_ok-sweep_session+in_ok-push, else-place-to}

pub find_lanes-requires-clause-sessions : goal.find_lanes-requires-clause-sessions
find_lanes-requires-clause-sessions c k below =
    let listed = c.four_from.ensures.listed k below in c.requires.below listed.0 _ listed.1

pub sweep_session-requires-clause-straight : goal.sweep_session-requires-clause-straight
sweep_session-requires-clause-straight c = order_by-straight c.args.index.now.history [] c.args.order.now c.requires.order

pub sweep_session-requires-clause-session : goal.sweep_session-requires-clause-session
sweep_session-requires-clause-session c =
    let list : List ℕ = c.args.sessions.now in
    let place : ℕ = c.args.range.0 + c.loop-lane.lane in
    let inside : place < length list = grind arith in
    c.requires.below place (slice_index_or list place 0) (slice_get-get_or list place 0 inside)

pub sweep_session-requires-clause-column : goal.sweep_session-requires-clause-column
sweep_session-requires-clause-column c =
    let list : List ℕ = c.args.sessions.now in
    let lane : ℕ = c.loop-lane.lane in
    let place : ℕ = c.args.range.0 + lane in
    let inside : place < length list = grind arith in
    let below : lane < 4 = grind arith in
    subst (λ (t : ℕ). IsLane c.args.index.now.history c.find_lanes.new.lanes lane t)
    (same_Some _ _ (sym (c.four_from.ensures.places lane below inside) ∙ slice_get-get_or list place 0 inside))
    (c.find_lanes.ensures.lanes lane below)

pub loop-lane-preserved : goal.loop-lane-preserved
loop-lane-preserved c =
    let list : List ℕ = c.args.sessions.now in
    let from : ℕ = c.args.range.0 in
    let to : ℕ = c.args.range.1 in
    let lane : ℕ = c.loop-lane.lane in
    let place : ℕ = from + lane in
    let old : List ℕ = c.loop-lane.found.numbers.items in
    let was = c.loop-lane.invariant in
    elim c.if-place-to.branch [
      | then-place-to+in_ok-sweep_session+in_ok-push w ↦
          let now : List ℕ = w.push.new.self.items in
          let grown : now ≡ old ++ place ∷ [] = w.in_ok-push.ensures.items in
          let inside : place < length list = (let below = w.if-place-to.true in let end = c.requires.below_end in omega arith) in
          rw (w.arrays-is, w.found-is) (record {
            numbers = w.in_ok-sweep_session.ensures.numbers;
            swept = rw (grown) (w.in_ok-sweep_session.ensures.swept list old place (slice_get-get_or list place 0 inside) was.swept);
            kept = λ k has. subst (λ (xs : List ℕ). HasNumber xs k) (sym grown) (has-first old (place ∷ []) k (was.kept k has));
            added = subst (λ (xs : List ℕ). (k : ℕ) → from ≤ k → k < from + (lane + 1) → k < to → HasNumber xs k) (sym grown)
                (range-more old from lane to was.added);
          })
      | else-place-to w ↦
          rw (w.arrays-is, w.found-is) (record {
            numbers = was.numbers;
            swept = was.swept;
            kept = was.kept;
            added = λ k low high below. let past = w.if-place-to.false in was.added k low (omega arith) below;
          })
    ]

pub returns-clause-added : goal.returns-clause-added
returns-clause-added c k low high =
    let end : c.loop-lane.lane ≡ 4 = grind arith in
    let few = c.requires.few in
    c.loop-lane.invariant.added k low (omega arith) high
