use Rattle.std.specs.Prelude.{[]}
use Rattle.order_memory.specs.SourceOrder.{LacksSource}
use Rattle.order_memory.specs.OverwrittenReads.{HasOverwrittenRead, HasOverwrittenStart}
use Rattle.judge_memory.proofs.Orders.{order_by-straight}
use Rattle.judge_decision.proofs.Firsts.{first_read, first_start, first_thin_air}
use Rattle.judge_decision.proofs.deciding.decide_ordered.Goals as goal

pub excluded_by-requires-clause-first : goal.excluded_by-requires-clause-first
excluded_by-requires-clause-first g c =
    first_thin_air c.args.index.now.history (order_by-straight c.args.index.now.history [] c.args.order.now c.requires.order)

pub excluded_by-requires-then-swept-clause-first : goal.excluded_by-requires-then-swept-clause-first
excluded_by-requires-then-swept-clause-first g c =
    let h = c.args.index.now.history in
    let sourced : ¬ LacksSource h = λ lacks. let yes = c.lacks_source.ensures.1 lacks in let no = c.if-lacks_source.false in absurd cc in
    first_start h (order_by-straight h [] c.args.order.now c.requires.order) sourced

pub excluded_by-requires-then-swept-2-clause-first : goal.excluded_by-requires-then-swept-2-clause-first
excluded_by-requires-then-swept-2-clause-first g c =
    let h = c.args.index.now.history in
    let sourced : ¬ LacksSource h = λ lacks. let yes = c.lacks_source.ensures.1 lacks in let no = c.if-lacks_source.false in absurd cc in
    let start : ¬ HasOverwrittenStart h = λ has. let yes = c.in_ok-swept.ensures.start.1 has in let no = c.if-swept.false in absurd cc in
    first_read h (order_by-straight h [] c.args.order.now c.requires.order) sourced start

pub decide_consistent-requires-clause-consistent : goal.decide_consistent-requires-clause-consistent
decide_consistent-requires-clause-consistent g c =
    let h = c.args.index.now.history in
    let sourced : ¬ LacksSource h = λ lacks. let yes = c.lacks_source.ensures.1 lacks in let no = c.if-lacks_source.false in absurd cc in
    let start : ¬ HasOverwrittenStart h = λ has. let yes = c.in_ok-swept.ensures.start.1 has in let no = c.if-swept.false in absurd cc in
    let read : ¬ HasOverwrittenRead h = λ has. let yes = c.in_ok-swept.ensures.read.1 has in let no = c.if-swept-2.false in absurd cc in
    record {
      acyclic = order_by-straight h [] c.args.order.now c.requires.order;
      sourced = sourced;
      start = start;
      read = read;
    }
