use Rattle.std.specs.Prelude.{ℕ, ◌<◌, ◌≤◌, List, replicate}
use Rattle.std.proofs.Common.{arith, subst, sym, ◌∙◌, ⊎_elim}
use Rattle.std.proofs.lemmas.Bool.{cases_lt}
use Rattle.std.proofs.lemmas.List.{get_or-replicate, get_or_past, length-replicate}
use Rattle.judge_columns.specs.Lanes.{IsClear}
use Rattle.judge_columns.proofs.swept.Arrays.new.Goals as goal

-- a list of zeros is clear
zeros-clear : (n : ℕ) → IsClear (replicate n 0)
zeros-clear n k = ⊎_elim
    (λ (inside : k < n). get_or-replicate n k 0 0 inside)
    (λ (past : n ≤ k). let size = length-replicate {A = ℕ} n 0 in get_or_past (replicate n 0) k 0 (omega arith))
    (cases_lt k n)

pub returns : goal.returns
returns c =
    let count = c.operations-operations.ensures.count in
    let bound = c.variables.ensures.bound in
    let late = c.in_ok-vec-4.ensures.items_if_clones_equal (λ y same. same) in
    record {
      ends = sym c.in_ok-vec.field-0.ok.0 ∙ (c.in_ok-vec.ensures.len ∙ count);
      firsts = sym c.in_ok-vec-2.field-0.ok.0 ∙ (c.in_ok-vec-2.ensures.len ∙ count);
      last = sym c.in_ok-vec-3.field-0.ok.0 ∙ (c.in_ok-vec-3.ensures.len ∙ bound);
      late = sym c.in_ok-vec-4.field-0.ok.0 ∙ (c.in_ok-vec-4.ensures.len ∙ count);
      clear = subst (λ (xs : List ℕ). IsClear xs) (sym late) (zeros-clear c.operations-operations.result);
    }
