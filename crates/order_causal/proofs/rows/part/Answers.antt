use Rattle.std.proofs.Common.{◌∙◌, ◌-◌, sym, drop, take}
use Rattle.order_causal.proofs.Flat.{cut-get}
use Rattle.order_causal.proofs.rows.part.Goals as goal

pub returns : goal.returns
returns g c =
    let whole = cut-get c.args.items.now 0 c.args.ends.now c.args.i 0 c.requires.exists in
    (λ j. take (c.range_of-range.ensures.end j - c.range_of-range.ensures.start j) (drop (c.range_of-range.ensures.start j) c.args.items.now)) ∙ sym whole
