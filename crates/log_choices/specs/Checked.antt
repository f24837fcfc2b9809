-- What is checked of a choice.
use Rattle.std.specs.Prelude.{◌≡◌, ℕ, Bool, List, Option, Some}
use Rattle.log_events.specs.declared.event.Event.{Event}
use Rattle.log_choices.specs.Choices.{Choice, IsCandidate, IsNullRead}

module _ (in_time : Bool) (es : List Event) (f : Choice) where
  -- a null read that begins at the place i saw a candidate
  abbrev pub IsExplained : ℕ → Type 0
  IsExplained i = (client x j : ℕ) → IsNullRead es client x i j → (c : Option ℕ) × (f i ≡ Some c) × IsCandidate in_time es x j c

  -- each null read did
  abbrev pub AreExplained : Type 0
  AreExplained = (i : ℕ) → IsExplained i
