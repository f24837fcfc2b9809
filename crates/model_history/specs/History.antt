-- Histories, as Bouajjani, Enea, Guerraoui and Hamza define them ("On Verifying Causal Consistency", POPL 2017, section 2).
use Rattle.std.specs.Prelude.{◌≡◌, ℕ, ◌+◌, ◌<◌, ◌≤◌, Bool, true, List, [], length, take, Option, Some, None, option_map, slice_get, slice_index_or}
use Rattle.std.specs.List.{filter_map, sum_by}
use Rattle.model_history.specs.declared.limits.TheConstants.{MAX_OPERATIONS, MAX_SESSIONS}
use Rattle.model_history.specs.declared.op_id.OpId.{OpId}

-- a history: its start, and for each session its calls, each with its known return or none
abbrev pub HistoryValue : Type 0 → Type 0 → Type 0 → Type 0
HistoryValue S C R = S × List (List (C × Option R))

module _ {S C R : Type 0} where
  -- the operations of a session
  abbrev pub session : HistoryValue S C R → ℕ → List (C × Option R)
  session h s = slice_index_or h.1 s []

  -- an operation of the history
  abbrev pub IsOp : HistoryValue S C R → OpId → Type 0
  IsOp h o = o.index < length (session h o.session)

  -- its call, and its known return or none
  abbrev pub entry : HistoryValue S C R → OpId → Option (C × Option R)
  entry h o = slice_get (session h o.session) o.index

  -- how many operations the first n sessions have
  abbrev pub many_before : HistoryValue S C R → ℕ → ℕ
  many_before h n = sum_by (λ (es : List (C × Option R)). length es) (take n h.1)

  -- the number of an operation: those of the sessions before its own come first, then those before it in its own
  abbrev pub number : HistoryValue S C R → OpId → ℕ
  number h o = many_before h o.session + o.index

  -- the calls of a list of operations, in its order
  abbrev pub calls : HistoryValue S C R → List OpId → List C
  calls h ops = filter_map (λ o. option_map (λ (e : C × Option R). e.0) (entry h o)) ops

-- program order: earlier in the same session
abbrev pub Precedes : OpId → OpId → Type 0
Precedes a b = (a.session ≡ b.session) × (a.index < b.index)

-- what a session may be: at most 256 operations, each known return fits its call, and the known returns come first
pub record IsSession {C R : Type 0} (fits : C → R → Bool) (es : List (C × Option R)) : Type 0 where
  pub short : length es ≤ MAX_OPERATIONS
  pub fitting : (i : ℕ) (c : C) (r : R) → slice_get es i ≡ Some (c, Some r) → fits c r ≡ true
  pub known_first : (i j : ℕ) (c d : C) (r : R) → i < j → slice_get es i ≡ Some (c, None) → slice_get es j ≡ Some (d, Some r) → ⊥

-- what a history may be: a start of its object, and at most 16 such sessions
pub record IsHistory {S C R : Type 0} (is_start : S → Type 0) (fits : C → R → Bool) (h : HistoryValue S C R) : Type 0 where
  pub start : is_start h.0
  pub few : length h.1 ≤ MAX_SESSIONS
  pub each : (s : ℕ) → IsSession fits (session h s)
