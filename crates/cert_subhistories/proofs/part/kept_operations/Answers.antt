use Rattle.std.proofs.Common.{◌≡◌, ◌∙◌, ap, arith}
use Rattle.std.proofs.lemmas.Grind.{common_steps}
use Rattle.model_history.specs.declared.op_id.OpId.{OpId}
use Rattle.order_causal.specs.Orders.{op}
use Rattle.cert_subhistories.proofs.KeptParts.{kept_of_front-all, kept_of_front-kept, kept_of_front-left_out}
use Rattle.cert_subhistories.proofs.part.kept_operations.Goals as goal
use Rattle.cert_subhistories.proofs.part.kept_operations.Goals.{then-keeps+in_ok-push, else-keeps}

pub loop-index-preserved : goal.loop-index-preserved
loop-index-preserved g c =
    let test : c.keeps.result ≡ g.K.Keeps.kept c.args.kept.now (op c.args.session c.loop-index.index) c.index-operations-index.result.0 =
    c.keeps.ensures ∙ ap (λ (o : OpId). g.K.Keeps.kept c.args.kept.now o c.index-operations-index.result.0) c.at.ensures in
    elim c.if-keeps.branch [
      | then-keeps+in_ok-push w ↦ grind (arith, common_steps, test, kept_of_front-kept (g.K.Keeps.kept c.args.kept.now) c.args.session c.args.operations.now c.loop-index.index c.index-operations-index.result c.loop-index-test.true c.index-operations-index.is)
      | else-keeps w ↦ grind (arith, common_steps, test, kept_of_front-left_out (g.K.Keeps.kept c.args.kept.now) c.args.session c.args.operations.now c.loop-index.index c.index-operations-index.result c.loop-index-test.true c.index-operations-index.is)
    ]

pub returns : goal.returns
returns g c = c.loop-index.invariant ∙ kept_of_front-all (g.K.Keeps.kept c.args.kept.now) c.args.session c.args.operations.now c.loop-index.index (omega arith)
