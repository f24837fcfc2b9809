-- The null reads that the history of a log by a choice leaves out.
use Rattle.std.specs.Prelude.{◌≡◌, ℕ, ◌<◌, ◌&&◌, All, List, length, filter, unwrap_or}
use Rattle.std.specs.Option.{is_none}
use Rattle.model_objects.specs.Table.{IsRising, value_at}
use Rattle.log_events.specs.declared.event.Event.{Event}
use Rattle.log_events.specs.Events.{Call, run_calls}
use Rattle.log_events.specs.LeftOut.{finds_nothing}
use Rattle.log_choices.specs.Choices.{Choice}
use Rattle.log_choices.specs.ChosenHistories.{saw}

module _ (es : List Event) (f : Choice) where
  -- how many reads of x got nothing and are left out
  abbrev pub many_left_out_by : ℕ → ℕ
  many_left_out_by x = length (filter (λ (a : Call). finds_nothing x a.call a.ending && is_none (saw es f a.place x)) (run_calls es))

  -- the keys of which reads are left out, each once, in order, with how many
  pub record AreLeftOutBy (counts : List (ℕ × ℕ)) : Type 0 where
    pub rising : IsRising counts
    pub positive : All (λ entry. 0 < entry.1) counts
    pub exact : (x : ℕ) → unwrap_or (value_at counts x) 0 ≡ many_left_out_by x
