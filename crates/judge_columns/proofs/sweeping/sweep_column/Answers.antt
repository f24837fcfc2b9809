use Rattle.std.specs.Prelude.{◌<◌, ◌≤◌, ℕ, List, slice_index_or}
use Rattle.std.proofs.Common.{arith, refl, sym, ◌∙◌, subst}
use Rattle.judge_memory.specs.Steps.{many}
use Rattle.judge_columns.specs.declared.sight.Sight.TheVariants.{Nothing}
use Rattle.judge_columns.specs.Sights.{IsSeen, IsTable, WritesNumbered}
use Rattle.judge_columns.proofs.ColumnSteps.{column-noted, end-from, end-to, late-below}
use Rattle.judge_columns.proofs.LastWrites.{table-empty}
use Rattle.judge_columns.proofs.Sights.{are-numbered, looks-write}
use Rattle.judge_columns.proofs.Sweeps.{swept-first, swept-starts, swept-reads, swept-edges}
use Rattle.judge_columns.proofs.sweeping.sweep_column.Goals as goal
use Rattle.judge_columns.proofs.sweeping.sweep_column.Goals.{in-Write, in_default}

pub advance-requires-clause-from : goal.advance-requires-clause-from
advance-requires-clause-from c =
    let from = end-from c.args.index.now.history c.args.session (λ n. slice_index_or c.args.ends.now n 0)
    (λ n. slice_index_or c.args.firsts.now n 0) c.requires.within c.requires.session c.loop-operation.operation (grind arith) in
    let start = c.start-start.ensures.number in
    omega arith

pub advance-requires-clause-within : goal.advance-requires-clause-within
advance-requires-clause-within c =
    end-to c.args.index.now.history c.args.session (λ n. slice_index_or c.args.ends.now n 0) (λ n. slice_index_or c.args.firsts.now n 0)
    c.requires.within c.requires.session c.loop-operation.operation (grind arith)

pub loop-operation-init : goal.loop-operation-init
loop-operation-init c =
    let h = c.args.index.now.history in
    record {
      last_size = c.requires.last_size;
      late_size = c.requires.late_size;
      table = subst (λ (n : ℕ). IsTable h c.args.index.now.variables c.args.session n c.args.last.now.items)
          (sym c.start-start.ensures.number)
          (table-empty h (WritesNumbered h c.args.index.now.variables) (are-numbered h c.args.index.now.variables) c.args.session
          (λ x. slice_index_or c.args.last.now.items x 0) c.requires.no_last);
      swept = swept-first h c.args.session (λ n. slice_index_or c.args.ends.now n 0) (λ n. slice_index_or c.args.firsts.now n 0)
          (λ n. slice_index_or c.args.late.now.items n 0) c.requires.no_late;
    }

pub loop-operation-preserved : goal.loop-operation-preserved
loop-operation-preserved c =
    let h = c.args.index.now.history in
    let ends : ℕ → ℕ = λ n. slice_index_or c.args.ends.now n 0 in
    let firsts : ℕ → ℕ = λ n. slice_index_or c.args.firsts.now n 0 in
    let below : c.loop-operation.operation < many h = grind arith in
    let was = c.loop-operation.invariant in
    let before = c.loop-operation.overwritten in
    let late : ℕ → ℕ = λ n. slice_index_or c.loop-operation.late.items n 0 in
    elim c.match-part.branch [
      | in-Write w ↦ rw (w.last-is, w.late-is, w.at-is, w.overwritten-is) (record {
        last_size = was.last_size;
        late_size = was.late_size;
        table = was.table;
        swept = column-noted h c.args.session ends firsts c.value_is_indexed.ensures.distinct c.loop-operation.operation below
            before.start before.read late was.swept before.start before.read late Nothing
            (λ a is_op at. looks-write h c.args.session ends firsts a (w.in-Write.ensures.part a is_op at)) (refl, refl, λ n. refl);
      })
      | in_default w ↦
          let end : ℕ = slice_index_or c.args.ends.now c.loop-operation.operation 0 in
          let table = w.advance.ensures.table c.args.session c.start-start.ensures.number was.table in
          let after = w.note.new.overwritten in
          rw (w.last-is, w.late-is, w.at-is, w.overwritten-is) (record {
            last_size = w.advance.ensures.size;
            late_size = w.note.ensures.size ∙ was.late_size;
            table = table;
            swept = column-noted h c.args.session ends firsts c.value_is_indexed.ensures.distinct c.loop-operation.operation below
                before.start before.read late was.swept after.start after.read (λ n. slice_index_or w.note.new.late.items n 0) w.look.result
                (λ a is_op at. w.look.ensures.sight c.args.session a c.start-start.ensures.number is_op at c.requires.within
                (subst (λ (xs : List ℕ). IsTable h c.args.index.now.variables c.args.session end xs) (sym w.deref.ensures.value) table))
                w.note.ensures.noted;
          })
    ]

pub returns-clause-start : goal.returns-clause-start
returns-clause-start c =
    let h = c.args.index.now.history in
    let whole : many h ≤ c.loop-operation.operation = grind arith in
    swept-starts h c.args.session (λ n. slice_index_or c.args.ends.now n 0) (λ n. slice_index_or c.args.firsts.now n 0) c.requires.ends
    c.loop-operation.operation whole c.loop-operation.overwritten.start c.loop-operation.overwritten.read
    (λ n. slice_index_or c.loop-operation.late.items n 0) c.loop-operation.invariant.swept

pub returns-clause-read : goal.returns-clause-read
returns-clause-read c =
    let h = c.args.index.now.history in
    let whole : many h ≤ c.loop-operation.operation = grind arith in
    swept-reads h c.args.session (λ n. slice_index_or c.args.ends.now n 0) (λ n. slice_index_or c.args.firsts.now n 0) c.requires.ends
    c.loop-operation.operation whole c.loop-operation.overwritten.start c.loop-operation.overwritten.read
    (λ n. slice_index_or c.loop-operation.late.items n 0) c.loop-operation.invariant.swept c.requires.straight c.requires.firsts

pub returns-clause-edges : goal.returns-clause-edges
returns-clause-edges c =
    let h = c.args.index.now.history in
    let whole : many h ≤ c.loop-operation.operation = grind arith in
    swept-edges h c.args.session (λ n. slice_index_or c.args.ends.now n 0) (λ n. slice_index_or c.args.firsts.now n 0) c.requires.ends
    c.loop-operation.operation whole c.loop-operation.overwritten.start c.loop-operation.overwritten.read
    (λ n. slice_index_or c.loop-operation.late.items n 0) c.loop-operation.invariant.swept c.requires.straight c.requires.firsts

pub returns-clause-writes : goal.returns-clause-writes
returns-clause-writes c w n is_op is =
    late-below c.args.index.now.history c.args.session (λ k. slice_index_or c.args.ends.now k 0) (λ k. slice_index_or c.args.firsts.now k 0)
    (IsSeen c.args.index.now.history c.loop-operation.operation) c.loop-operation.overwritten.start c.loop-operation.overwritten.read
    (λ k. slice_index_or c.loop-operation.late.items k 0) c.loop-operation.invariant.swept w n is_op is
