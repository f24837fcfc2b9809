-- The sessions that a plan sealed: their calls and returns.
use Rattle.std.proofs.Common.{◌≡◌, ℕ, zero, suc, ◌+◌, ◌<◌, ◌≤◌, List, [], ◌∷◌, length, refl, ◌∙◌, ap, arith}
use Rattle.std.specs.Prelude.{Option, Some, None, map, slice_get, slice_index_or}
use Rattle.std.specs.List.{filter_map}
use Rattle.live_cut_plan.specs.Plans.{Plan}
use Rattle.live_seals.specs.Runs.{Event, operations, sealed_session, sealed_sessions}

module _ {C R : Type 0} where
  -- calls with their returns
  pub operations_calls : (cs : List C) (rs : List R) → map (λ (e : C × Option R). e.0) (operations cs rs) ≡ cs
  operations_calls [] rs = refl
  operations_calls (c ∷ cs) [] = ap (λ (l : List C). c ∷ l) (operations_calls cs [])
  operations_calls (c ∷ cs) (r ∷ rs) = ap (λ (l : List C). c ∷ l) (operations_calls cs rs)

  pub operations_many : (cs : List C) (rs : List R) → length (operations cs rs) ≡ length cs
  operations_many [] rs = refl
  operations_many (c ∷ cs) [] = ap suc (operations_many cs [])
  operations_many (c ∷ cs) (r ∷ rs) = ap suc (operations_many cs rs)

  pub operations_returns : (cs : List C) (rs : List R) → length rs ≤ length cs → filter_map (λ (e : C × Option R). e.1) (operations cs rs) ≡ rs
  operations_returns [] [] l = refl
  operations_returns [] (r ∷ rs) l = absurd (let l' : suc (length rs) ≤ 0 = l in omega arith)
  operations_returns (c ∷ cs) [] l = operations_returns cs [] (omega arith)
  operations_returns (c ∷ cs) (r ∷ rs) l = ap (λ (m : List R). r ∷ m) (operations_returns cs rs (let l' : suc (length rs) ≤ suc (length cs) = l in omega arith))

  -- the n-th has a return exactly where there are more than n returns
  pub operations_return : (cs : List C) (rs : List R) (n : ℕ) → length rs ≤ length cs → n < length rs → (c : C) × (r : R) × (slice_get (operations cs rs) n ≡ Some (c, Some r))
  operations_return cs [] n l m = absurd (let m' : n < 0 = m in omega arith)
  operations_return [] (r ∷ rs) n l m = absurd (let l' : suc (length rs) ≤ 0 = l in omega arith)
  operations_return (c ∷ cs) (r ∷ rs) zero l m = (c, r, refl)
  operations_return (c ∷ cs) (r ∷ rs) (suc n) l m = operations_return cs rs n (let l' : suc (length rs) ≤ suc (length cs) = l in omega arith) (let m' : suc n < suc (length rs) = m in omega arith)

  abbrev second : Option (C × Option R) → Option R
  second None = None
  second (Some e) = e.1

  pub operations_returned : (cs : List C) (rs : List R) (n : ℕ) (c : C) (r : R) → slice_get (operations cs rs) n ≡ Some (c, Some r) → n < length rs
  operations_returned [] rs zero c r e = absurd (cc)
  operations_returned [] rs (suc n) c r e = absurd (cc)
  operations_returned (d ∷ cs) [] zero c r e = let bad : ◌≡◌ {A = Option R} None (Some r) = ap second e in absurd (cc)
  operations_returned (d ∷ cs) [] (suc n) c r e = let l : n < 0 = operations_returned cs [] n c r e in omega arith
  operations_returned (d ∷ cs) (s ∷ rs) zero c r e = omega arith
  operations_returned (d ∷ cs) (s ∷ rs) (suc n) c r e = let l : n < length rs = operations_returned cs rs n c r e in omega arith

  module _ (es : List (Event C R)) (p : Plan) where
    sessions_at : (n s i : ℕ) → i < n → slice_index_or (sealed_sessions es p s n) i [] ≡ sealed_session es p (s + i)
    sessions_at zero s i l = absurd (let l' : i < 0 = l in omega arith)
    sessions_at (suc n) s zero l = ap (sealed_session es p) (let x : s ≡ s + 0 = omega arith in x)
    sessions_at (suc n) s (suc i) l = sessions_at n (s + 1) i (let l' : suc i < suc n = l in omega arith) ∙ ap (sealed_session es p) (let x : s + 1 + i ≡ s + suc i = omega arith in x)

    -- each of n sessions, and none behind them
    pub session_at : (n s : ℕ) → s < n → slice_index_or (sealed_sessions es p 0 n) s [] ≡ sealed_session es p s
    session_at n s l = sessions_at n 0 s l ∙ ap (sealed_session es p) (let x : 0 + s ≡ s = omega arith in x)

    pub session_past : (n s i : ℕ) → n ≤ i → slice_index_or (sealed_sessions es p s n) i [] ≡ []
    session_past zero s zero l = refl
    session_past zero s (suc i) l = refl
    session_past (suc n) s zero l = absurd (let l' : suc n ≤ 0 = l in omega arith)
    session_past (suc n) s (suc i) l = session_past n (s + 1) i (let l' : suc n ≤ suc i = l in omega arith)
