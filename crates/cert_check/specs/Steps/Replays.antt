-- Replays over a list of session numbers, which the functions of the checker speak of among themselves.
use Rattle.std.specs.Prelude.{◌≡◌, ℕ, ◌<◌, Bool, IsTrue, List, Option, Some, filter, length, option_map, take}
use Rattle.model_history.specs.declared.op_id.OpId.{OpId}
use Rattle.model_history.specs.History.{HistoryValue, IsOp, calls, entry}
use Rattle.order_causal.specs.Orders.{Ops, StandsAt, only, program_past}
use Rattle.cert_check.specs.declared.kept.Kept.{Kept}
use Rattle.cert_check.specs.declared.kept.Kept.TheVariants.{Only, ProgramPast}
use Rattle.order_causal.specs.Vectors.{Counts}
use Rattle.cert_check.specs.Certificates.{counted}
use Rattle.cert_check.specs.Schedules.{named}
use Rattle.cert_check.specs.Steps.Namings.{AreCountsAt}

-- the operations whose known returns are kept
abbrev pub kept_of : Kept → Ops
kept_of (Only o) = only o
kept_of (ProgramPast o) = program_past o

-- a replay has counted the first i numbers of a list, and its object represents the calls of some operations
pub record IsReplayAt {S C R X : Type 0} (stands : X → S → List C → Type 0) (h : HistoryValue S C R) (list : List ℕ) (i : ℕ) (taken : List OpId) (counts : List ℕ) (object : X) : Type 0 where
  pub counting : AreCountsAt list i (length h.1) counts
  pub state : stands object h.0 (calls h taken)

module _ {S C R : Type 0} where
  -- what a list names is of the history
  pub record NamesOperations (h : HistoryValue S C R) (list : List ℕ) : Type 0 where
    pub each : (k : ℕ) (o : OpId) → StandsAt (named list) k o → IsOp h o

  -- the call of an operation
  abbrev pub IsCallOf : HistoryValue S C R → OpId → C → Type 0
  IsCallOf h o c = option_map (λ (e : C × Option R). e.0) (entry h o) ≡ Some c

  -- the calls of the operations that the vector of o counts, of those on which the answer to a call may depend
  abbrev pub considered : (C → C → Bool) → HistoryValue S C R → Counts → OpId → C → List OpId → List C
  considered depends h v o c ops = filter (depends c) (calls h (filter (counted v o) ops))

  -- the known return of an operation is the answer after some calls
  abbrev pub IsAnsweredBy : (S → List C → C → R) → HistoryValue S C R → List C → OpId → Type 0
  IsAnsweredBy answer h cs o = (c : C) (r : R) → entry h o ≡ Some (c, Some r) → r ≡ answer h.0 cs c

  -- the known return of an operation is the answer after the calls of others
  abbrev pub IsAnsweredAfter : (S → List C → C → R) → HistoryValue S C R → List OpId → OpId → Type 0
  IsAnsweredAfter answer h taken o = IsAnsweredBy answer h (calls h taken) o

  -- where what stands at the place i is kept, its known return is the answer after the calls before it
  abbrev pub IsAnsweredAt : (S → List C → C → R) → HistoryValue S C R → Ops → List ℕ → ℕ → Type 0
  IsAnsweredAt answer h kept list i =
      (o : OpId) → StandsAt (named list) i o → IsTrue (kept o) → IsAnsweredAfter answer h (take i (named list)) o

  -- this is so at each place before i
  pub record AreAnswered (answer : S → List C → C → R) (h : HistoryValue S C R) (kept : Ops) (list : List ℕ) (i : ℕ) : Type 0 where
    pub each : (j : ℕ) → j < i → IsAnsweredAt answer h kept list j
