-- The sessions of a new recorder have nothing recorded, and room for the calls of the input.
use Rattle.std.proofs.Common.{◌≡◌, ℕ, ◌<◌, ◌≤◌, List, [], length, refl, sym, ◌∙◌, subst, arith, get_or}
use Rattle.std.specs.Prelude.{Some, slice_get}
use Rattle.std.proofs.lemmas.Option.{slice_get-get_or, slice_get_within}
use Rattle.model_history.specs.History.{HistoryValue, session}
use Rattle.live_recorder.specs.Lanes.{Cells}
use Rattle.live_recorder.specs.Recorders.{IsRecorder}
use Rattle.live_recorder.specs.Sessions.{LanesState, SessionState, fresh_session}
use Rattle.live_driver.specs.Clients.{AreFresh, IsFresh}
use Rattle.live_driver.proofs.Lists.{some_same}

module _ {S C R : Type 0} where
  pub fresh_sessions : (k cap : ℕ) (start : S) (lanes : LanesState S) (sessions : List (SessionState C R)) (input : HistoryValue S C R) → IsRecorder k cap start lanes sessions → k ≡ length input.1
      → ((s : ℕ) → s < length input.1 → length (session input s) ≤ cap) → AreFresh lanes input sessions
  fresh_sessions k cap start lanes sessions input is many most s own at =
      subst (λ (x : SessionState C R). (x.lane ≡ s) × IsFresh lanes input x) (sym same) (refl, record { cells = cells; lane = here; fresh = refl; places = enough; within = within })
    where
      none : Cells
      none = record { calls = []; returns = [] }

      cells : Cells
      cells = get_or lanes.cells s none

      inside : s < length lanes.cells
      inside = let a : s < length sessions = slice_get_within sessions s own at in let b : length sessions ≡ length lanes.cells = is.each.many in omega arith

      here : slice_get lanes.cells s ≡ Some cells
      here = slice_get-get_or lanes.cells s none inside

      same : own ≡ fresh_session s cells
      same = some_same own (fresh_session s cells) (sym at ∙ is.each.fresh s cells here)

      within : s < length input.1
      within = let a : length lanes.cells ≡ k = is.many in let i : s < length lanes.cells = inside in omega arith

      enough : length (session input s) ≤ length cells.calls
      enough = let a : length (session input s) ≤ cap = most s within in let b : length cells.calls ≡ cap = is.each.places s cells here in omega arith
