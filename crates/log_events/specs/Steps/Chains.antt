-- The calls of each client, each linked to the next.
use Rattle.std.specs.Prelude.{◌≡◌, ℕ, ◌+◌, ◌-◌, ◌==◌, ◌<◌, ◌≤◌, if◌then◌else◌, List, [], ◌∷◌, ◌++◌, drop, filter, length, slice_get, slice_index, Some}
use Rattle.log_events.specs.Events.{Call}

-- a link is one more than the number of a call, or 0 after the last. It leads through these calls, whose numbers rise from low on
abbrev pub Leads : List Call → List ℕ → ℕ → ℕ → List Call → Type 0
Leads calls next low link [] = link ≡ 0
Leads calls next low link (a ∷ rest) =
    (k : ℕ) × (link ≡ k + 1) × (low ≤ k) × (slice_get calls k ≡ Some a) × Leads calls next (k + 1) (slice_index next k) rest

-- for each client the link to its first call from the number n on, and for each of these calls the link to its client's next
pub record AreChainsFrom (calls : List Call) (clients : ℕ) (first next : List ℕ) (n : ℕ) : Type 0 where
  pub many : length first ≡ clients
  pub as_many : length next ≡ length calls
  pub lead : (client : ℕ) → client < clients
      → Leads calls next n (slice_index first client) (filter (λ (a : Call). a.client == client) (drop n calls))

abbrev pub AreChains : List Call → ℕ → List ℕ → List ℕ → Type 0
AreChains calls clients first next = AreChainsFrom calls clients first next 0

-- on a chain through all these calls, of which some were found
pub record IsOnChain (calls : List Call) (next : List ℕ) (all found : List Call) (link : ℕ) : Type 0 where
  pub low : ℕ
  pub rest : List Call
  pub leads : Leads calls next low link rest
  pub joined : found ++ rest ≡ all

-- how much of the chain may be left
abbrev pub left : List Call → ℕ → ℕ
left calls link = if link == 0 then 0 else length calls + 1 - link
