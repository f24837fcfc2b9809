use Rattle.std.proofs.Common.{◌-◌, ℕ, ◌∙◌, List, length, ap}
use Rattle.std.specs.Prelude.{slice_get}
use Rattle.log_events.proofs.StartKeys.{IsAbove-last}
use Rattle.log_events.proofs.event_log.is_above.Goals as goal

pub returns-in-Some : goal.returns-in-Some
returns-in-Some c = IsAbove-last c.args.starts.now c.in-Some.last.now c.args.key c.requires
    (c.in-Some.ensures.value ∙ ap (λ (l : List (ℕ × ℕ)). slice_get l (length l - 1)) c.entries.ensures)
