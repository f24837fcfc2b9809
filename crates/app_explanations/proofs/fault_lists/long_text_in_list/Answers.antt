use Rattle.std.specs.Prelude.{string_bytes}
use Rattle.std.proofs.lemmas.Result.{IfOk-weaker}
use Rattle.json_histories.specs.declared.any_history.AnyHistory.TheVariants as histories
use Rattle.app_orders.specs.declared.length.Length.TheVariants.{Any}
use Rattle.app_explanations.proofs.fault_lists.long_text_in_list.Goals as goal

pub returns : goal.returns
returns g c =
    let history = histories.Memory c.args.history.now in
    IfOk-weaker c.format.result _ _
    (λ text same. (
      string_bytes c.in_ok-cc.cc,
      string_bytes c.in_ok-cm.cm,
      string_bytes c.in_ok-ccv.ccv,
      c.in_ok-cc.ensures Any history c.in_ok-lines.ensures,
      c.in_ok-cm.ensures Any history c.in_ok-lines-2.ensures,
      c.in_ok-ccv.ensures Any history c.in_ok-lines-3.ensures,
      same,
    )) c.format.ensures.ok
