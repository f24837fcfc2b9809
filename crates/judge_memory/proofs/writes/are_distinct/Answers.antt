use Rattle.std.proofs.Common.{sym, ◌∙◌}
use Rattle.order_memory.proofs.Distinct.{once-from_differentiated, All-from_differentiated, differentiated-from}
use Rattle.judge_memory.proofs.writes.are_distinct.Goals as goal

pub returns-then-are_once : goal.returns-then-are_once
returns-then-are_once c = (
  (λ yes.
      differentiated-from c.args.h.now c.args.writes.now c.requires.lists (c.are_once.ensures.0 c.if-are_once.true)
      (c.are_not_initial.ensures.0 yes)),
  λ distinct. c.are_not_initial.ensures.1 (All-from_differentiated c.args.h.now c.args.writes.now c.requires.lists distinct),
)

pub returns-else-are_once : goal.returns-else-are_once
returns-else-are_once c = (
  (λ yes. let apart = sym c.if-are_once.false ∙ yes in absurd cc),
  λ distinct. c.are_once.ensures.1 (once-from_differentiated c.args.h.now c.args.writes.now c.requires.lists distinct),
)
