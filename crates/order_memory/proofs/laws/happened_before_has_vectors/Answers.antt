use Rattle.order_memory.proofs.HappenedBeforeExists.{HB-vectors}
use Rattle.order_memory.proofs.laws.happened_before_has_vectors.Goals as goal

pub returns : goal.returns
returns c h v o distinct counts is_op = HB-vectors h v counts distinct o is_op
