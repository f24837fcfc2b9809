use Rattle.std.proofs.Common.{subst}
use Rattle.std.specs.Prelude.{ℕ, ◌<◌}
use Rattle.judge_memory.specs.Steps.{many}
use Rattle.judge_memory.proofs.Numbers.{number-all}
use Rattle.judge_columns.proofs.forks.find_words.Goals as goal

pub find_past_words-requires-clause-writes : goal.find_past_words-requires-clause-writes
find_past_words-requires-clause-writes c k n at =
    let h = c.args.index.now.history in
    let w = c.requires.only k n at in
    subst (λ (m : ℕ). m < many h) w.2 (number-all h w.0 w.1)

pub find_future_words-requires-clause-writes : goal.find_future_words-requires-clause-writes
find_future_words-requires-clause-writes c k n at =
    let h = c.args.index.now.history in
    let w = c.requires.only k n at in
    subst (λ (m : ℕ). m < many h) w.2 (number-all h w.0 w.1)
