use Rattle.std.specs.Prelude.{◌≤◌, ℕ, List, length}
use Rattle.std.proofs.Common.{arith}
use Rattle.judge_workers.proofs.NumberLists.{ranges-more}
use Rattle.judge_columns.proofs.GroupsSwept.{sessions-whole}
use Rattle.judge_columns.proofs.fours.sweep_sessions.Goals as goal

pub fours-preserved : goal.fours-preserved
fours-preserved c =
    let was = c.fours.invariant in
    let now = c.in_ok-sweep_four.ensures in
    let inside : c.min-to.result ≤ length c.args.sessions.now = grind arith in
    record {
      rows = now.rows;
      numbers = now.numbers;
      inside = inside;
      swept = now.swept;
      done = ranges-more c.fours.found.numbers.items c.sweep_four.new.found.numbers.items c.fours.from c.min-to.result now.kept now.added
          was.done;
    }

pub returns : goal.returns
returns c =
    let list : List ℕ = c.args.sessions.now in
    let found = c.fours.found in
    let end : length list ≤ c.fours.from = grind arith in
    sessions-whole c.args.index.now.history list found.numbers.items (λ k below. c.fours.invariant.done k (omega arith)) found.swept
    c.fours.invariant.swept
