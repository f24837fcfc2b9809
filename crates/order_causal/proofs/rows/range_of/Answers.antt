use Rattle.std.proofs.Common.{◌∙◌, sym, ap, arith}
use Rattle.order_causal.specs.Steps.FlatRows.{start_of}
use Rattle.order_causal.proofs.Flat.{start-later, rises-start, rises-end}
use Rattle.order_causal.proofs.rows.range_of.Goals as goal
use Rattle.order_causal.proofs.rows.range_of.Goals.{then-i-eq0, else-i-eq0}

pub returns-clause-start : goal.returns-clause-start
returns-clause-start c = elim c.if-i-eq0.branch [
  | then-i-eq0 w ↦ w.start-is ∙ ap (λ i. start_of 0 c.args.ends.now i) (sym w.if-i-eq0.true)
  | else-i-eq0 w ↦ w.start-is ∙ sym (start-later c.args.ends.now c.args.i _ w.if-i-eq0.false c.requires.exists)
]

pub returns-clause-ordered : goal.returns-clause-ordered
returns-clause-ordered c = elim c.if-i-eq0.branch [
  | then-i-eq0 w ↦ rw w.start-is (omega arith)
  | else-i-eq0 w ↦
      let start = w.start-is ∙ sym (start-later c.args.ends.now c.args.i _ w.if-i-eq0.false c.requires.exists) in
      let rises = rises-start 0 c.args.ends.now c.args.len c.requires.rises c.args.i 0 c.requires.exists in
      omega arith
]

pub returns-clause-inside : goal.returns-clause-inside
returns-clause-inside c = rises-end 0 c.args.ends.now c.args.len c.requires.rises c.args.i 0 c.requires.exists
