use Rattle.std.proofs.Common.{◌≤◌, ◌+◌, ℕ, take, sym, subst}
use Rattle.log_choices.proofs.CheckedChoices.{AreRisingBelow, rising-more}
use Rattle.log_choices.proofs.checked_choice.is_rising.Goals as goal

pub loop-entry-preserved : goal.loop-entry-preserved
loop-entry-preserved c =
    let entries = c.args.entries.now in
    let i = c.loop-entry.entry-index in
    subst (λ (n : ℕ). AreRisingBelow (n + 1) (take (i + 1) entries)) (sym c.from-place.ensures)
    (rising-more entries i _ c.loop-entry.least c.loop-entry-test.true
    (subst (λ (n : ℕ). c.loop-entry.least ≤ n) c.from-place.ensures c.if-place-least.false) c.loop-entry.invariant)
