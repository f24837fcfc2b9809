-- How many null reads have one possible source, several, or none.
use Rattle.std.specs.Prelude.{◌≡◌, ◌-◌, All, ℕ, Bool, List, length}
use Rattle.std.specs.List.{sum_by}
use Rattle.log_events.specs.declared.event.Event.{Event}
use Rattle.log_choices.specs.declared.seen.Seen.{Seen}
use Rattle.log_choices.specs.ChoiceTables.{choice_in}
use Rattle.log_choices.specs.ChosenLeftOut.{AreLeftOutBy}
use Rattle.log_choices.specs.Forced.{LacksCandidates}
use Rattle.app_logs.specs.declared.null_read_counts.NullReadCounts.{NullReadCounts}
use Rattle.app_logs.specs.Reports.{IsForcedIn}

-- by what is forced: those that are left out have several, these lack candidates, and the others have one
pub record AreNullReadCounts (in_time : Bool) (es : List Event) (counts : NullReadCounts) : Type 0 where
  pub saw : List (ℕ × Seen)
  pub lacking : List ℕ
  pub left_out : List (ℕ × ℕ)
  pub forced : IsForcedIn in_time es saw
  pub lack : All (LacksCandidates in_time es) lacking
  pub are_left_out : AreLeftOutBy es (choice_in saw) left_out
  pub one : counts.one ≡ length saw - length lacking
  pub several : counts.several ≡ sum_by (λ (entry : ℕ × ℕ). entry.1) left_out
  pub none : counts.none ≡ length lacking
