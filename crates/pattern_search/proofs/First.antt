-- Which operation is the first thin-air read.
use Rattle.std.proofs.Common.{◌≡◌, ℕ, ◌+◌, ◌<◌, ◌≤◌, ⊎_elim, length, arith, subst, ◌∙◌, eq-or-lt_of_le}
use Rattle.std.proofs.lemmas.Option.{slice_get_within}
use Rattle.model_history.specs.declared.op_id.OpId.{OpId}
use Rattle.model_history.specs.History.{IsOp, session}
use Rattle.order_memory.specs.Memory.{MemoryHistory}
use Rattle.pattern_check.specs.Kinds.{IsThinAirRead}
use Rattle.order_causal.specs.Orders.{op}
use Rattle.pattern_search.specs.Steps.Found.{IsFirst, IsFirstOf}
use Rattle.order_causal.proofs.OrdersLaws.{session-of_history}

module _ (h : MemoryHistory) where
  pub thin_air-of_history : (r : OpId) → IsThinAirRead h r → IsOp h r
  thin_air-of_history r thin_air = slice_get_within (session h r.session) r.index _ thin_air.2

  -- a session without a thin-air read among its operations
  pub no_thin_air_of : (s n : ℕ) → length (session h s) ≤ n → ((i : ℕ) → i < n → ¬ IsThinAirRead h (op s i))
      → (i : ℕ) → ¬ IsThinAirRead h (op s i)
  no_thin_air_of s n ended none i thin_air =
      let below = thin_air-of_history (op s i) thin_air in
      none i (omega arith) thin_air

  -- a history without a thin-air read in its sessions
  pub no_thin_air : (n : ℕ) → length h.1 ≤ n → ((s i : ℕ) → s < n → ¬ IsThinAirRead h (op s i)) → (r : OpId) → ¬ IsThinAirRead h r
  no_thin_air n ended none r thin_air =
      let below = session-of_history h r (thin_air-of_history r thin_air) in
      none r.session r.index (omega arith) thin_air

  -- one session more without a thin-air read
  pub no_thin_air-more : (n : ℕ) → ((s i : ℕ) → s < n → ¬ IsThinAirRead h (op s i)) → ((i : ℕ) → ¬ IsThinAirRead h (op n i))
      → (s i : ℕ) → s < n + 1 → ¬ IsThinAirRead h (op s i)
  no_thin_air-more n none here s i below thin_air =
      ⊎_elim
      (λ (same : s ≡ n). here i (subst (λ (t : ℕ). IsThinAirRead h (op t i)) same thin_air))
      (λ (earlier : s < n). none s i earlier thin_air)
      (let up_to : s ≤ n = omega arith in eq-or-lt_of_le up_to)

  -- the first of the first session that has one
  pub first-from_session : (s : ℕ) (r : OpId) → ((t i : ℕ) → t < s → ¬ IsThinAirRead h (op t i)) → IsFirstOf h s r → IsFirst h r
  first-from_session s r none first = record {
    thin_air = first.thin_air;
    none_earlier = λ a earlier thin_air. ⊎_elim
        (λ (below : a.session < r.session). none a.session a.index (let of_session = first.of_session in omega arith) thin_air)
        (λ (same : (a.session ≡ r.session) × (a.index < r.index)).
        first.none_earlier a.index same.1 (subst (λ (t : ℕ). IsThinAirRead h (op t a.index)) (same.0 ∙ first.of_session) thin_air))
        earlier;
  }
