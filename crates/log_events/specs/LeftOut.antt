-- The reads that the history of a log leaves out, since they got nothing of a key that some delete names.
use Rattle.std.specs.Prelude.{◌≡◌, ℕ, ◌<◌, ◌==◌, All, Bool, false, if◌then◌else◌, List, length, filter, Option, Some, unwrap_or}
use Rattle.model_objects.specs.Table.{IsRising, value_at}
use Rattle.log_events.specs.declared.event.ClientCall.{ClientCall}
use Rattle.log_events.specs.declared.event.ClientCall.TheVariants.{ReadOf}
use Rattle.log_events.specs.declared.event.Ending.{Ending}
use Rattle.log_events.specs.declared.event.Ending.TheVariants.{GotNothing}
use Rattle.log_events.specs.declared.event.Event.{Event}
use Rattle.log_events.specs.Events.{Call, run_calls}
use Rattle.log_events.specs.Histories.{is_deleted}

-- a read of x got nothing
abbrev pub finds_nothing : ℕ → ClientCall → Option Ending → Bool
finds_nothing x (ReadOf y) (Some GotNothing) = y == x
finds_nothing x call ending = false

module _ (es : List Event) where
  -- how many reads of x are left out
  abbrev pub many_left_out : ℕ → ℕ
  many_left_out x = if is_deleted es x then length (filter (λ (a : Call). finds_nothing x a.call a.ending) (run_calls es)) else 0

  -- the keys of which reads are left out, each once, in order, with how many
  pub record AreLeftOut (counts : List (ℕ × ℕ)) : Type 0 where
    pub rising : IsRising counts
    pub positive : All (λ entry. 0 < entry.1) counts
    pub exact : (x : ℕ) → unwrap_or (value_at counts x) 0 ≡ many_left_out x
