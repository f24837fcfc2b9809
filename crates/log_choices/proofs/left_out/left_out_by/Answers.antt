use Rattle.std.proofs.Common.{◌≡◌, ℕ, List, subst, ap, ◌∙◌}
use Rattle.std.specs.Prelude.{◌↔◌, Contains}
use Rattle.std.proofs.lemmas.Result.{IfOk-weaker}
use Rattle.log_events.specs.declared.event.Event.{Event}
use Rattle.log_events.specs.Events.{run_calls}
use Rattle.log_events.specs.Steps.Tallies.{IsTally}
use Rattle.log_choices.specs.declared.seen.Seen.{Seen}
use Rattle.log_choices.specs.ChoiceTables.{choice_in}
use Rattle.log_choices.specs.Steps.ChosenCalls.{left_out_keys}
use Rattle.log_choices.proofs.LeftOutKeys.{left_out-tally}
use Rattle.log_choices.proofs.left_out.left_out_by.Goals as goal

pub returns : goal.returns
returns c =
    let es = c.args.log.now in
    let f = choice_in c.args.choice.now in
    let keys = c.in_ok-keys.keys.items in
    let left_out = c.in_ok-left_out.left_out.items in
    let same : left_out ≡ left_out_keys es f (run_calls es) =
    c.in_ok-left_out.ensures.exact
    ∙ ap (λ (v : List Event × List (ℕ × Seen)). left_out_keys v.0 (choice_in v.1) (run_calls v.0)) c.in_ok-reads.ensures in
    let each = subst (λ (l : List ℕ). (x : ℕ) → Contains keys x ↔ Contains l x) c.deref.ensures.value c.in_ok-keys.ensures.exact in
    IfOk-weaker c.tally_of.result _ _
    (λ tally is_tally. left_out-tally es f left_out keys tally.items same each
    (subst (λ (l : List ℕ). IsTally l keys tally.items) c.deref-2.ensures.value
    (subst (λ (l : List ℕ). IsTally c.deref-2.result.now l tally.items) c.deref-3.ensures.value is_tally)))
    c.tally_of.ensures
