use Rattle.std.specs.Prelude.{◌+◌, ◌<◌, ℕ, List, length, slice_set}
use Rattle.std.proofs.Common.{arith, sym, ap, ◌∙◌, subst}
use Rattle.judge_memory.proofs.Numbers.{number-found}
use Rattle.judge_columns.specs.Sights.{IsTable}
use Rattle.judge_columns.proofs.Sights.{passed-other, passed-write}
use Rattle.judge_columns.proofs.sweeping.pass_one.Goals as goal

pub returns-in-Write-clause-table : goal.returns-in-Write-clause-table
returns-in-Write-clause-table c t now =
    let h = c.args.index.now.history in
    let a = number-found h c.args.operation c.requires.operation in
    let x : ℕ = c.variable.result in
    let size = c.requires.size in
    let below = c.variable.ensures.below in
    let inside : x < length c.args.last.now.items = omega arith in
    let same = c.put.ensures ∙ ap (λ (n : ℕ). slice_set c.args.last.now.items x n) c.number_after.ensures in
    subst (λ (xs : List ℕ). IsTable h c.args.index.now.variables t (c.args.operation + 1) xs) (sym same)
    (passed-write h c.args.index.now.variables t c.args.operation x c.args.last.now.items a.0 a.1 a.2 (c.in-Write.ensures.part a.0 a.1 a.2)
    c.variable.ensures.variable inside now)

pub returns-in_default : goal.returns-in_default
returns-in_default c =
    let h = c.args.index.now.history in
    let a = number-found h c.args.operation c.requires.operation in
    record {
      size = c.requires.size;
      table = λ t now. passed-other h c.args.index.now.variables t c.args.operation 0 c.args.last.now.items a.0 a.1 a.2 c.part.result
          (c.part.ensures.part a.0 a.1 a.2) (λ same. c.in_default.not-Write same) now;
    }
