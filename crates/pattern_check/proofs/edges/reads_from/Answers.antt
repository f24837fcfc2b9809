use Rattle.std.proofs.Common.{◌≡◌, Option, None, Some, sym, ◌∙◌}
use Rattle.model_history.specs.declared.op_id.OpId.{OpId}
use Rattle.pattern_check.proofs.Distinct.{only-Some}
use Rattle.pattern_check.proofs.edges.reads_from.Goals as goal

pub returns-in-Some : goal.returns-in-Some
returns-in-Some g c =
    let is = c.in-Some.ensures c.args.write in
    let same = only-Some c.in-Some.source c.args.write in
    ((λ yes. is.1 (same.0 (sym c.eq.ensures ∙ yes))), λ reads. c.eq.ensures ∙ same.1 (is.0 reads))

pub returns-in-None : goal.returns-in-None
returns-in-None g c =
    ((λ no. absurd cc), λ reads. let no : ◌≡◌ {A = Option OpId} None (Some c.args.write) = (c.in-None.ensures c.args.write).0 reads in absurd cc)
