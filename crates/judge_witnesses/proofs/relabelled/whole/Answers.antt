use Rattle.std.proofs.Common.{ℕ, List, subst, sym}
use Rattle.judge_memory.specs.LongHistories.{IsLongHistory}
use Rattle.judge_witnesses.specs.Relabelled.{back}
use Rattle.judge_witnesses.proofs.LongRenamed.{long-renamed}
use Rattle.judge_witnesses.proofs.relabelled.whole.Goals as goal

pub of-requires : goal.of-requires
of-requires c =
    subst (λ (start : List (ℕ × ℕ)). IsLongHistory (start, c.args.sessions)) (sym c.new.ensures)
    (long-renamed (back c.args.history.now c.args._written.now) c.args.history.now c.args.sessions c.requires c.value_is_history.ensures)
