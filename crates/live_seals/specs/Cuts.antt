-- Consistent cuts of a run. (This project's profile, after Chandy and Lamport, "Distributed snapshots", 1985.)
use Rattle.std.specs.Prelude.{◌≡◌, ℕ, ◌<◌, ◌++◌, List, map, Option, Some}
use Rattle.std.specs.List.{filter_map}
use Rattle.model_history.specs.declared.op_id.OpId.{OpId}
use Rattle.model_history.specs.History.{HistoryValue, Precedes, IsOp, entry, session}
use Rattle.live_seals.specs.Runs.{Event, begun, ended, IsAt}
use Rattle.live_seals.specs.Runs.Event.{Began, Ended, Started}

abbrev pub IsPrefixOf : {A : Type 0} → List A → List A → Type 0
IsPrefixOf {A} xs ys = (rest : List A) × (xs ++ rest ≡ ys)

module _ {S C R : Type 0} where
  -- the history holds the operation with its return
  abbrev pub HasReturn : HistoryValue S C R → OpId → Type 0
  HasReturn h o = (c : C) × (r : R) × (entry h o ≡ Some (c, Some r))

  -- the history of sealer z is a consistent cut of the run
  pub record IsConsistentCut (es : List (Event C R)) (z : ℕ) (h : HistoryValue S C R) : Type 0 where
    -- in each session its calls are the first that began, and its returns, which are those of its first calls, the first
    -- that were given
    pub calls : (s : ℕ) → IsPrefixOf (map (λ (e : C × Option R). e.0) (session h s)) (begun s es)
    pub returns : (s : ℕ) → IsPrefixOf (filter_map (λ (e : C × Option R). e.1) (session h s)) (ended s es)
    pub returns_first : (a b : OpId) → Precedes a b → HasReturn h b → HasReturn h a
    -- with a return it holds each call that began before this return was given
    pub before_return : (i j : ℕ) (a b : OpId) (c : C) (r : R) → i < j → IsAt es i (Began a c) → IsAt es j (Ended b r) → HasReturn h b → IsOp h a
    -- it holds each call that began, and each return that was given, before its sealer started
    pub calls_before_start : (i j : ℕ) (a : OpId) (c : C) (told : List ℕ) → i < j → IsAt es i (Began a c) → IsAt es j (Started z told) → IsOp h a
    pub returns_before_start : (i j : ℕ) (a : OpId) (r : R) (told : List ℕ) → i < j → IsAt es i (Ended a r) → IsAt es j (Started z told) → HasReturn h a
