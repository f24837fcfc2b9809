use Rattle.std.specs.Prelude.{◌≡◌, ◌≤◌, ◌<◌, ℕ, List, length, slice_index_or}
use Rattle.std.proofs.Common.{arith, ap, replicate, subst, ⊎_elim, ◌∙◌}
use Rattle.std.proofs.lemmas.Bool.{cases_lt}
use Rattle.std.proofs.lemmas.List.{get_or-replicate, get_or_past}
use Rattle.std.proofs.Math.ListN.{length-replicate}
use Rattle.judge_memory.specs.Steps.{many}
use Rattle.judge_session_orders.specs.LoneSources.{CountsWrites}
use Rattle.judge_session_orders.proofs.lone_sources.count_writes.Goals as goal

zeros : (n i : ℕ) → slice_index_or (replicate {A = ℕ} n 0) i 0 ≡ 0
zeros n i = ⊎_elim
    (λ (inside : i < n). get_or-replicate n i 0 0 inside)
    (λ (past : n ≤ i). get_or_past (replicate {A = ℕ} n 0) i 0 (let size = length-replicate {A = ℕ} n 0 in omega arith))
    (cases_lt i n)

pub loop-operation-init : goal.loop-operation-init
loop-operation-init c =
    let counts = c.in_ok-counts.ensures.items_if_clones_equal (λ y same. same) in
    record {
      size = ap (λ (xs : List ℕ). length xs) counts ∙ length-replicate {A = ℕ} c.variables.result 0 ∙ c.variables.ensures.bound;
      counts = record {
        most = λ x. (let zero = ap (λ (xs : List ℕ). slice_index_or xs x 0) counts ∙ zeros c.variables.result x in omega arith);
        none = λ x a is_a below. absurd (omega arith);
        one = λ x a b is_a is_b below. absurd (omega arith);
      };
    }

pub returns-clause-counts : goal.returns-clause-counts
returns-clause-counts c =
    let h = c.args.index.now.history in
    let end : c.loop-operation.operation ≡ many h = grind arith in
    subst (λ (n : ℕ). CountsWrites h c.args.index.now.variables n c.loop-operation.counts.items) end c.loop-operation.invariant.counts
