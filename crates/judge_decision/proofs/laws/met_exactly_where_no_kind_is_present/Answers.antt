use Rattle.order_memory.proofs.ReadAnswers.{history-fits}
use Rattle.judge_decision.proofs.Completeness.{free-meets}
use Rattle.judge_decision.proofs.laws.met_exactly_where_no_kind_is_present.Goals as goal

pub returns : goal.returns
returns c = (
  λ met kind against present. c.present_kinds_exclude_criteria.ensures c.args.h.now c.args.criterion kind against present met,
  λ free. free-meets c.args.h.now (history-fits c.args.h.now _ c.value_is_history.ensures) c.requires.distinct c.args.criterion free,
)
