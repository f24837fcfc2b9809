-- The vectors of program order alone.
use Rattle.std.specs.Prelude.{◌≡◌, ◌≢◌, ℕ, ◌+◌, ◌<◌, ◌≤◌, List, length}
use Rattle.std.proofs.Common.{arith, get_or, set, ◌∙◌, ⊎_elim, replicate}
use Rattle.std.proofs.lemmas.Bool.{cases_lt}
use Rattle.std.proofs.lemmas.List.{get_or_past, get_or-replicate, length-replicate, get_or-set_same, get_or-set_other, length-set}
use Rattle.order_causal.specs.Orders.{op}
use Rattle.order_causal.specs.ProgramOrder.{IsOwnVector}

-- an entry of a list of zeros is 0
pub zeros-at : (n s : ℕ) → ◌≡◌ {A = ℕ} (get_or (replicate n 0) s 0) 0
zeros-at n s = ⊎_elim
    (λ (inside : s < n). get_or-replicate n s 0 0 inside)
    (λ (past : n ≤ s). let len = length-replicate {A = ℕ} n 0 in get_or_past (replicate n 0) s 0 (omega arith))
    (cases_lt s n)

-- counts of one session alone are the vector of the operation that is counted last
pub own-next : (k s i : ℕ) (counts : List ℕ) → length counts ≡ k → ((t : ℕ) → t ≢ s → get_or counts t 0 ≡ 0) → s < k
    → IsOwnVector k (op s i) (set counts s (i + 1))
own-next k s i counts size others below = record {
  size = length-set counts s _ ∙ size;
  own = get_or-set_same counts s _ 0 (omega arith);
  others = λ t apart. get_or-set_other counts s t _ 0 apart ∙ others t apart;
}
