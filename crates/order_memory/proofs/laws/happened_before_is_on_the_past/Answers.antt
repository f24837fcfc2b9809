use Rattle.order_memory.proofs.HappenedBeforeLaws.{HB-on_past, HB-exact}
use Rattle.order_memory.proofs.laws.happened_before_is_on_the_past.Goals as goal

pub returns-clause-past : goal.returns-clause-past
returns-clause-past c = λ h v o a b distinct counts. HB-on_past h v counts distinct o a b

pub returns-clause-same : goal.returns-clause-same
returns-clause-same c = λ h v o a b distinct counts. HB-exact h v counts distinct o a b
