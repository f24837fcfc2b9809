use Rattle.std.proofs.Common.{sym, ◌∙◌, Some}
use Rattle.model_objects.specs.Laws.Equal.{same_options}
use Rattle.pattern_search.proofs.ConflictLinks.{apart-tested, last-conflict, same_operations}
use Rattle.pattern_search.proofs.search.conflicts.are_in_conflict.Goals as goal
use Rattle.pattern_search.proofs.search.conflicts.are_in_conflict.Goals.{then-ne, else-ne}

pub returns-then-eq : goal.returns-then-eq
returns-then-eq c = elim c.if-ne.branch [
  | then-ne w ↦
      let apart = apart-tested c.args.write c.args.rival c.ne.result (c.ne.ensures) w.if-ne.true in
      let source = (same_options same_operations c.args.read.now.source (Some c.args.rival)).0 (sym w.eq.ensures ∙ sym w.value-is ∙ c.if-eq.true) in
      let exact = last-conflict c.args.order.now c.args.write c.args.rival c.args.read.now source apart c.last_write.result (rw c.session_place.ensures at c.last_write.ensures) in
      let test = same_options same_operations c.last_write.result (Some c.args.write) in
      ((λ yes. exact.0 (test.0 (sym c.eq-then-eq.ensures ∙ yes))), λ conflict. c.eq-then-eq.ensures ∙ test.1 (exact.1 conflict))
  | else-ne w ↦ let no = w.if-ne.false in let is = w.value-is in let yes = c.if-eq.true in absurd cc
]
