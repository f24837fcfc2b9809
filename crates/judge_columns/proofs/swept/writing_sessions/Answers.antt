use Rattle.std.specs.Prelude.{◌≡◌, ◌<◌, ℕ, List, Some, length, slice_get}
use Rattle.std.proofs.Common.{arith, ⊎_elim}
use Rattle.model_history.specs.History.{number}
use Rattle.order_memory.proofs.MemoryLaws.{write-of_history}
use Rattle.judge_memory.specs.Steps.{many}
use Rattle.judge_memory.proofs.Numbers.{number-all}
use Rattle.judge_columns.proofs.Shared.{none-at}
use Rattle.judge_columns.proofs.Sights.{unwritten}
use Rattle.judge_columns.proofs.Writers.{writers-more, writers-same}
use Rattle.judge_columns.proofs.swept.writing_sessions.Goals as goal
use Rattle.judge_columns.proofs.swept.writing_sessions.Goals.{in-Write+in_ok-add_session, in_default}

pub returns-clause-each : goal.returns-clause-each
returns-clause-each c w x v wrote =
    let h = c.args.index.now.history in
    let end : c.loop-operation.operation ≡ many h = grind arith in
    let below : number h w < many h = number-all h w (write-of_history h w x v wrote) in
    c.loop-operation.invariant.each w x v wrote (omega arith)

pub returns-clause-below : goal.returns-clause-below
returns-clause-below c = c.loop-operation.invariant.below

pub loop-operation-init : goal.loop-operation-init
loop-operation-init c = record {
  each = λ w x v wrote below. absurd (omega arith);
  below = λ k t at. absurd (none-at c.new-sessions.result.items c.new-sessions.ensures.items k t at);
}

pub loop-operation-preserved : goal.loop-operation-preserved
loop-operation-preserved c =
    let h = c.args.index.now.history in
    let n : ℕ = c.loop-operation.operation in
    let old : List ℕ = c.loop-operation.sessions.items in
    elim c.match-part.branch [
      | in-Write+in_ok-add_session w ↦
          let s : ℕ = w.session_of.result in
          let new : List ℕ = w.add_session.new.sessions.items in
          let added = w.in_ok-add_session.ensures in
          let below : (k t : ℕ) → slice_get new k ≡ Some t → t < length h.1 = λ k t at. ⊎_elim
          (λ (was : slice_get old k ≡ Some t). c.loop-operation.invariant.below k t was)
          (λ (last : t ≡ s). let inside = w.session_of.ensures.below in omega (arith, last, inside))
          (added.others k t at) in
          rw w.sessions-is (record {
            each = writers-more h old new n s w.session_of.ensures.session added.added added.kept c.loop-operation.invariant.each;
            below = below;
          })
      | in_default w ↦
          rw w.sessions-is (record {
            each = writers-same h old n
                (λ o x v wrote is. unwritten h o c.part.result (c.part.ensures.part o (write-of_history h o x v wrote) is)
                (λ same. w.in_default.not-Write same) x v wrote)
                c.loop-operation.invariant.each;
            below = c.loop-operation.invariant.below;
          })
    ]
