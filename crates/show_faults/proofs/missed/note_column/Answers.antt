use Rattle.std.specs.Prelude.{◌<◌, ◌≤◌, ℕ, ◌+◌, List, length, slice_index_or}
use Rattle.std.proofs.Common.{arith, sym, subst}
use Rattle.std.proofs.lemmas.List.{get_or_read}
use Rattle.std.proofs.lemmas.Option.{slice_get-get_or}
use Rattle.judge_memory.specs.Steps.{many}
use Rattle.judge_memory.proofs.Numbers.{number-found}
use Rattle.judge_columns.specs.Sights.{IsTable, WritesNumbered}
use Rattle.judge_columns.proofs.ColumnSteps.{end-from, end-to}
use Rattle.judge_columns.proofs.LastWrites.{table-empty}
use Rattle.judge_columns.proofs.Sights.{are-numbered}
use Rattle.show_faults.specs.Noted.{IsLater, IsNoted, IsOfFirst}
use Rattle.show_faults.proofs.Noting.{below-first, below-more, below-whole, first-more, noted-below, noted-more}
use Rattle.show_faults.proofs.missed.note_column.Goals as goal

pub advance-requires-clause-from : goal.advance-requires-clause-from
advance-requires-clause-from c =
    let from = end-from c.args.index.now.history (slice_index_or c.args.sessions.now c.args.i 0) (λ n. slice_index_or c.args.ends.now n 0)
    (λ n. slice_index_or c.args.firsts.now n 0) c.requires.within c.requires.session c.loop-operation.operation (grind arith) in
    let start = c.start-start.ensures.number in
    omega arith

pub advance-requires-clause-within : goal.advance-requires-clause-within
advance-requires-clause-within c =
    end-to c.args.index.now.history (slice_index_or c.args.sessions.now c.args.i 0) (λ n. slice_index_or c.args.ends.now n 0)
    (λ n. slice_index_or c.args.firsts.now n 0) c.requires.within c.requires.session c.loop-operation.operation (grind arith)

pub loop-operation-init : goal.loop-operation-init
loop-operation-init c =
    let h = c.args.index.now.history in
    let t : ℕ = slice_index_or c.args.sessions.now c.args.i 0 in
    record {
      last_size = c.requires.last_size;
      table = subst (λ (n : ℕ). IsTable h c.args.index.now.variables t n c.args.last.now.items)
          (sym c.start-start.ensures.number)
          (table-empty h (WritesNumbered h c.args.index.now.variables) (are-numbered h c.args.index.now.variables) t
          (λ x. slice_index_or c.args.last.now.items x 0) c.requires.no_last);
      noted = below-first h c.args.sessions.now c.args.i c.args.missed.now.items c.requires.noted;
    }

pub later-latest-requires : goal.later-latest-requires
later-latest-requires c =
    let h = c.args.index.now.history in
    let sessions : List ℕ = c.args.sessions.now in
    let n : ℕ = c.loop-operation.operation in
    let missed : List ℕ = c.loop-operation.missed.items in
    let below : n < many h = grind arith in
    let o = number-found h n below in
    let at = o.2 in
    let noted = c.loop-operation.invariant.noted.rest o.0 o.1 (omega arith) in
    let few = noted-below h (IsOfFirst h sessions c.args.i) o.0 (slice_index_or missed n 0)
    (subst (λ (k : ℕ). IsNoted h (IsOfFirst h sessions c.args.i) o.0 (slice_index_or missed k 0)) at noted) in
    let size = c.requires.firsts_size in
    let long = c.loop-operation.invariant.noted.size in
    let inside : n < length missed = omega arith in
    let read = get_or_read missed _ _ inside c.index.ensures 0 in
    omega arith

pub loop-operation-preserved : goal.loop-operation-preserved
loop-operation-preserved c =
    let h = c.args.index.now.history in
    let sessions : List ℕ = c.args.sessions.now in
    let i : ℕ = c.args.i in
    let t : ℕ = slice_index_or sessions i 0 in
    let n : ℕ = c.loop-operation.operation in
    let missed : List ℕ = c.loop-operation.missed.items in
    let below : n < many h = grind arith in
    let o = number-found h n below in
    let at = o.2 in
    let table = c.advance.ensures.table t c.start-start.ensures.number c.loop-operation.invariant.table in
    let noted = subst (λ (k : ℕ). IsNoted h (IsOfFirst h sessions i) o.0 (slice_index_or missed k 0)) at
    (c.loop-operation.invariant.noted.rest o.0 o.1 (omega arith)) in
    let write = c.last_missed-write.ensures t o.0 c.start-start.ensures.number o.1 at c.requires.ends c.requires.within c.requires.firsts
    c.requires.straight
    (subst (λ (xs : List ℕ). IsTable h c.args.index.now.variables t (slice_index_or c.args.ends.now n 0) xs) (sym c.deref.ensures.value)
    table) in
    let long = c.loop-operation.invariant.noted.size in
    let inside : n < length missed = omega arith in
    let read = get_or_read missed _ _ inside c.index.ensures 0 in
    let latest = subst (λ (k : ℕ). IsLater (λ m. slice_index_or c.args.firsts.now m 0) k c.last_missed-write.result c.later-latest.result)
    read c.later-latest.ensures in
    record {
      last_size = c.advance.ensures.size;
      table = table;
      noted = below-more h sessions i n missed c.loop-operation.invariant.noted o.0 o.1 at c.later-latest.result
          (noted-more h c.requires.straight t (λ k. slice_index_or c.args.firsts.now k 0) c.requires.firsts o.0 (IsOfFirst h sessions i)
          (IsOfFirst h sessions (i + 1)) (first-more h sessions i t (slice_get-get_or sessions i 0 c.requires.inside))
          (slice_index_or missed n 0) c.last_missed-write.result c.later-latest.result noted write latest);
    }

pub returns-clause-noted : goal.returns-clause-noted
returns-clause-noted c =
    let h = c.args.index.now.history in
    let whole : many h ≤ c.loop-operation.operation = grind arith in
    below-whole h c.args.sessions.now c.args.i c.loop-operation.operation c.loop-operation.missed.items whole
    c.loop-operation.invariant.noted
