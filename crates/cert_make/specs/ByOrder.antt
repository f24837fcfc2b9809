-- The schedule of an operation in the order in which a store had taken updates in (Ahamad, Neiger, Burns, Kohli and Hutto, "Causal
-- memory", 1995; where queries go: this project's profile).
use Rattle.std.specs.Prelude.{◌≡◌, ◌⊎◌, ℕ, ◌+◌, ◌-◌, ◌<◌, ◌≤◌, ◌++◌, Bool, false, not, IsTrue, List, [], ◌∷◌, length, replicate}
use Rattle.std.specs.Prelude.{⊤, Option, Some, None, MatchOption, option_map, slice_index_or}
use Rattle.std.proofs.Common.{zero, suc}
use Rattle.model_history.specs.declared.advice.Advice.{Advice}
use Rattle.model_history.specs.declared.op_id.OpId.{OpId}
use Rattle.model_history.specs.History.{HistoryValue, entry}
use Rattle.order_causal.specs.Orders.{op}
use Rattle.order_causal.specs.Schedules.{placed}
use Rattle.cert_make.specs.Advice.{order_of}

-- the order of the operation at a place of a session, and how many of its entries come before that of the operation itself
abbrev pub order_at : List (Option Advice) → ℕ → List ℕ
order_at reported i = order_of (slice_index_or reported i None)

abbrev pub many_first : List (Option Advice) → ℕ → ℕ
many_first reported i = length (order_at reported i) - 1

module _ {C : Type 0} (query : C → Bool) where
  abbrev pub is_query_call : Option C → Bool
  is_query_call (Some c) = query c
  is_query_call None = false

  abbrev pub is_update_call : Option C → Bool
  is_update_call (Some c) = not (query c)
  is_update_call None = false

module _ {S C R : Type 0} (query : C → Bool) (h : HistoryValue S C R) where
  -- a query of the history, and an update
  abbrev pub is_query : OpId → Bool
  is_query o = is_query_call query (option_map (λ (e : C × Option R). e.0) (entry h o))

  abbrev pub is_update : OpId → Bool
  is_update o = is_update_call query (option_map (λ (e : C × Option R). e.0) (entry h o))

  -- the first update of the session s from an index on
  pub record IsNextUpdate (s from i : ℕ) : Type 0 where
    pub behind : from ≤ i
    pub update : IsTrue (is_update (op s i))
    pub first : (j : ℕ) → from ≤ j → j < i → ¬ IsTrue (is_update (op s j))

  abbrev pub HasNoUpdate : ℕ → ℕ → Type 0
  HasNoUpdate s from = (i : ℕ) → from ≤ i → ¬ IsTrue (is_update (op s i))

  -- behind a schedule an entry names the next update of the session s, and the queries before it come just before it;
  -- where there is none it names nothing
  abbrev pub IsNamed : ℕ → List ℕ → List ℕ → Type 0
  IsNamed s before whole =
      ((i : ℕ) × IsNextUpdate s (placed before s) i × (whole ≡ before ++ replicate (i + 1 - placed before s) s))
      ⊎ (HasNoUpdate s (placed before s) × (whole ≡ before))

  module _ (reported : List (Option Advice)) (o : OpId) where
    -- an own query before o comes once so many entries are done as come before its own, and at the end if no number is given
    pub record MayCome (done : Option ℕ) (i : ℕ) : Type 0 where
      pub earlier : i < o.index
      pub asks : IsTrue (is_query (op o.session i))
      pub due : MatchOption done ⊤ (λ n. many_first reported i ≤ n)

    -- behind a schedule come the next operations of the session of o, as far as they may
    pub record AreAsked (done : Option ℕ) (before whole : List ℕ) : Type 0 where
      pub end : ℕ
      pub behind : placed before o.session ≤ end
      pub each : (i : ℕ) → placed before o.session ≤ i → i < end → MayCome done i
      pub last : ¬ MayCome done end
      pub placed_next : whole ≡ before ++ replicate (end - placed before o.session) o.session

    -- the turn of the entry n: the own queries that are due, then what it names
    pub record IsTurn (n : ℕ) (before whole : List ℕ) : Type 0 where
      pub asked : List ℕ
      pub queries : AreAsked (Some n) before asked
      pub named : IsNamed (slice_index_or (order_at reported o.index) n 0) asked whole

    -- the turns of the first n entries
    abbrev pub AreTurns : ℕ → List ℕ → Type 0
    AreTurns zero schedule = schedule ≡ []
    AreTurns (suc n) schedule = (before : List ℕ) × AreTurns n before × IsTurn n before schedule

    -- the turns of all entries but the last, the own queries that are left, and o, for which the last entry stands
    pub record GoesByOrder (schedule : List ℕ) : Type 0 where
      pub taken : List ℕ
      pub turns : AreTurns (many_first reported o.index) taken
      pub asked : List ℕ
      pub queries : AreAsked None taken asked
      pub whole : schedule ≡ asked ++ o.session ∷ []
