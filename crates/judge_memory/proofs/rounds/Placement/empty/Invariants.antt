use Rattle.std.specs.Prelude.{◌≡◌, ℕ, ◌<◌, vec_len}
use Rattle.model_history.specs.History.{many_before}
use Rattle.judge_memory.specs.Placements.{next_of}
use Rattle.judge_memory.proofs.rounds.Placement.empty.Given as goal

-- the first sessions begin at their first operations
abbrev pub invariant-loop-session : goal.invariant-loop-session
invariant-loop-session l = record {
  count : vec_len l.next ≡ l.session;
  starts : (t : ℕ) → t < l.session → next_of l.next.items t ≡ many_before l.index.history t;
}
