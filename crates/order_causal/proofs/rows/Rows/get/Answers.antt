use Rattle.std.proofs.Common.{sym, ap, length, ◌∙◌, subst, ◌<◌, ℕ}
use Rattle.order_causal.proofs.Flat.{cut-length}
use Rattle.order_causal.proofs.rows.Rows.get.Goals as goal

pub part-requires-clause-exists : goal.part-requires-clause-exists
part-requires-clause-exists g c =
    let cut = cut-length c.self.inside.items.items 0 c.self.inside.ends.items in
    let view = ap length c.self.view_is in
    let ends = ap length c.deref-2.ensures.value in
    subst (λ (n : ℕ). c.args.i < n) (sym view ∙ cut ∙ sym ends) c.requires
