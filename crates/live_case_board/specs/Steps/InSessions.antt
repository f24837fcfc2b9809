-- What is found among the rows of one session, and in one case.
use Rattle.std.specs.Prelude.{◌≡◌, ℕ, ◌<◌, List, length, Some, slice_get}
use Rattle.model_history.specs.declared.op_id.OpId.{OpId}
use Rattle.order_causal.specs.Orders.{IsEarlier}
use Rattle.cert_check.specs.declared.checking.Outcome.TheVariants.{Explained}
use Rattle.live_case_board.specs.Boards.{CaseState, SessionRows}
use Rattle.live_case_board.specs.Events.{IsFreeIn, IsRow, IsExplained}

-- the first free row of a session
pub record IsFirstFree (t : SessionRows) (i : ℕ) : Type 0 where
  pub free : IsFreeIn t i
  pub first : (j : ℕ) → j < i → ¬ IsFreeIn t j

abbrev pub IsExplainedIn : SessionRows → ℕ → Type 0
IsExplainedIn t i = slice_get t.rows i ≡ Some (Some Explained)

-- the first row of a session that has no verdict which explains its operation
pub record IsFirstUnexplainedIn (t : SessionRows) (i : ℕ) : Type 0 where
  pub inside : i < length t.rows
  pub unexplained : ¬ IsExplainedIn t i
  pub earlier : (j : ℕ) → j < i → IsExplainedIn t j

-- the operation has a row in the case of this number
abbrev pub HasRowAt : {M : Type 0} → List (CaseState M) → ℕ → OpId → Type 0
HasRowAt {M} b number o = (s : CaseState M) → slice_get b number ≡ Some s → IsRow s o

-- the first operation whose row has no verdict which explains it
pub record IsFirstLeft {M : Type 0} (s : CaseState M) (o : OpId) : Type 0 where
  pub inside : IsRow s o
  pub unexplained : ¬ IsExplained s o
  pub earlier : (a : OpId) → IsRow s a → IsEarlier a o → IsExplained s a
