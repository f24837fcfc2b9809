use Rattle.std.proofs.Common.{ap, arith, length}
use Rattle.std.proofs.lemmas.Grind.{common_steps}
use Rattle.order_causal.proofs.Flat.{cut-length}
use Rattle.order_causal.proofs.rows.Rows.len.Goals as goal

pub returns : goal.returns
returns g c =
    let cut = cut-length c.self.inside.items.items 0 c.self.inside.ends.items in
    let view = ap length c.self.view_is in
    let len = c.len.ensures in
    grind (arith, common_steps)
