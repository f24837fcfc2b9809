use Rattle.std.proofs.Common.{◌∙◌, ap, List, rules}
use Rattle.std.specs.Prelude.{filter_map}
use Rattle.std.proofs.lemmas.List.Sorted.{answers_always}
use Rattle.log_events.specs.Events.{Call}
use Rattle.log_choices.specs.ForcedSteps.{deleted_spot}
use Rattle.log_choices.specs.declared.forced_kept.Delete.{Delete}
use Rattle.log_choices.proofs.ForcedDeletes.{deletes-are}
use Rattle.log_choices.proofs.forced_kept.kept_deletes.Goals as goal

pub returns : goal.returns
returns c =
    let is = c.in_ok-deletes.ensures ∙ ap (λ (l : List Call). filter_map deleted_spot l) c.calls.ensures.exact in
    deletes-are c.args.log.now c.in_ok-deletes.deletes.items is c.sort_by_key.new.self.items c.sort_by_key.ensures.permutation
    (c.in_ok-sort_by_key.ensures.sorted (λ (d : Delete). d.key) (answers_always _ _ _ (λ f a r q k. search rules)))
