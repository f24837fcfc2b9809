use Rattle.std.specs.Prelude.{ℕ, slice_index_or}
use Rattle.std.proofs.Common.{arith, ap, sym, ◌∙◌}
use Rattle.judge_memory.proofs.Numbers.{number-found}
use Rattle.judge_session_orders.proofs.WriteCounts.{counts-more, counts-same, unwritten}
use Rattle.judge_session_orders.proofs.lone_sources.count_write.Goals as goal

pub add_one-requires-clause-small : goal.add_one-requires-clause-small
add_one-requires-clause-small c =
    let most = c.requires.counts.most c.variable.result in
    let few = c.requires.few in
    let below = c.requires.operation in
    omega arith

pub returns-in-Write-clause-counts : goal.returns-in-Write-clause-counts
returns-in-Write-clause-counts c =
    let h = c.args.index.now.history in
    let variables = c.args.index.now.variables in
    let a = number-found h c.args.operation c.requires.operation in
    counts-more h variables c.args.operation c.args.counts.now.items c.add_one.new.numbers.items c.requires.counts a.0 a.1 a.2
    c.variable.result (ap (λ (i : ℕ). slice_index_or variables i 0) a.2 ∙ sym c.variable.ensures.variable) c.add_one.ensures.more
    c.add_one.ensures.others

pub returns-in_default : goal.returns-in_default
returns-in_default c =
    let h = c.args.index.now.history in
    record {
      size = c.requires.size;
      counts = counts-same h c.args.index.now.variables c.args.operation c.args.counts.now.items c.requires.counts
          (λ a is_a at. unwritten h a c.part.result (c.part.ensures.part a is_a at) (λ same. c.in_default.not-Write same));
    }
