-- The vectors of program order alone.
use Rattle.std.specs.Prelude.{◌≡◌, ◌≢◌, ℕ, ◌+◌, List, length, slice_index_or}
use Rattle.model_history.specs.declared.op_id.OpId.{OpId}

-- one count for each of the sessions: o and what is before it in its session, and nothing of another session
pub record IsOwnVector (sessions : ℕ) (o : OpId) (counts : List ℕ) : Type 0 where
  pub size : length counts ≡ sessions
  pub own : slice_index_or counts o.session 0 ≡ o.index + 1
  pub others : (s : ℕ) → s ≢ o.session → slice_index_or counts s 0 ≡ 0
