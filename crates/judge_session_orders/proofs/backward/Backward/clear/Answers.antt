use Rattle.std.specs.Prelude.{◌≡◌, ◌≤◌, ◌<◌, ℕ, List, length, slice_index_or}
use Rattle.std.proofs.Common.{arith, ap, replicate, ⊎_elim, ◌∙◌}
use Rattle.std.proofs.lemmas.Bool.{cases_lt}
use Rattle.std.proofs.lemmas.List.{get_or-replicate, get_or_past}
use Rattle.std.proofs.Math.ListN.{length-replicate}
use Rattle.judge_session_orders.proofs.backward.Backward.clear.Goals as goal

zeros : (n i : ℕ) → slice_index_or (replicate {A = ℕ} n 0) i 0 ≡ 0
zeros n i = ⊎_elim
    (λ (inside : i < n). get_or-replicate n i 0 0 inside)
    (λ (past : n ≤ i). get_or_past (replicate {A = ℕ} n 0) i 0 (let size = length-replicate {A = ℕ} n 0 in omega arith))
    (cases_lt i n)

pub returns : goal.returns
returns c =
    let ends = c.in_ok-vec.ensures.items_if_clones_equal (λ y same. same) in
    let readers = c.in_ok-vec-2.ensures.items_if_clones_equal (λ y same. same) in
    let writes = c.in_ok-vec-3.ensures.items_if_clones_equal (λ y same. same) in
    let of_ends : (t : ℕ) → slice_index_or c.in_ok-vec.field-0.items t 0 ≡ 0 = λ t. ap (λ (xs : List ℕ). slice_index_or xs t 0) ends ∙
    zeros _ t in
    let of_readers : (t : ℕ) → slice_index_or c.in_ok-vec-2.field-0.items t 0 ≡ 0 = λ t. ap (λ (xs : List ℕ). slice_index_or xs t 0)
    readers ∙ zeros _ t in
    let of_writes : (t : ℕ) → slice_index_or c.in_ok-vec-3.field-0.items t 0 ≡ 0 = λ t. ap (λ (xs : List ℕ). slice_index_or xs t 0)
    writes ∙ zeros _ t in
    let size_ends = c.in_ok-vec.ensures.len in
    let size_readers = c.in_ok-vec-2.ensures.len in
    let size_writes = c.in_ok-vec-3.ensures.len in
    let size_locks = c.in_ok-no_locks.ensures.size in
    let sessions = c.sessions.ensures.count in
    record {
      few = (let most = c.operations.ensures.few in let count = c.operations.ensures.count in omega arith);
      sizes = record {
        ends = ap (λ (xs : List ℕ). length xs) ends ∙ length-replicate {A = ℕ} c.sessions.result 0 ∙ c.sessions.ensures.count;
        readers = ap (λ (xs : List ℕ). length xs) readers ∙ length-replicate {A = ℕ} c.operations.result 0 ∙ c.operations.ensures.count;
        writes = ap (λ (xs : List ℕ). length xs) writes ∙ length-replicate {A = ℕ} c.variables.result 0 ∙ c.variables.ensures.bound;
        locks = size_locks ∙ c.variables-2.ensures.bound;
      };
      none = λ t is_open. (let zero = of_ends t in omega arith);
      zero = record {
        readers = λ n. (let zero = of_readers n in omega arith);
        writes = λ x. (let zero = of_writes x in omega arith);
      };
      unlocked = c.in_ok-no_locks.ensures.none;
    }
