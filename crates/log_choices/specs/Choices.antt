-- What the reads of a log that found nothing may have seen.
use Rattle.std.specs.Prelude.{◌≡◌, ◌≢◌, ◌⊎◌, ℕ, ◌<◌, Bool, IsTrue, List, Option, Some, None}
use Rattle.log_events.specs.declared.event.ClientCall.TheVariants.{ReadOf, DeleteOf}
use Rattle.log_events.specs.declared.event.Ending.TheVariants.{GotNothing, Failed}
use Rattle.log_events.specs.declared.event.Event.{Event}
use Rattle.log_events.specs.declared.event.Event.TheVariants.{Starts, Begins}
use Rattle.log_events.specs.Events.{IsAt, IsEnded}
use Rattle.log_events.specs.Histories.{is_deleted}

-- the client began at the place i a read of x that got nothing at the place j, where some delete names the key: a null read
pub record IsNullRead (es : List Event) (client x i j : ℕ) : Type 0 where
  pub ended : IsEnded es client (ReadOf x) i j GotNothing
  pub named : IsTrue (is_deleted es x)

-- a delete of x that does not fail begins at the place p
abbrev pub BeginsKeptDelete : List Event → ℕ → ℕ → Type 0
BeginsKeptDelete es x p = (client : ℕ) × IsAt es p (Begins client (DeleteOf x)) × ((k : ℕ) → ¬ IsEnded es client (DeleteOf x) p k Failed)

-- what a null read of x that ended at the place j may have seen: the start, where the key has none; or a delete that does not fail, by the
-- place of its begin. In a log in the order of time the delete began before the read ended
abbrev pub IsCandidate : Bool → List Event → ℕ → ℕ → Option ℕ → Type 0
IsCandidate in_time es x j None = (k v : ℕ) → ¬ IsAt es k (Starts x v)
IsCandidate in_time es x j (Some p) = BeginsKeptDelete es x p × (IsTrue in_time → p < j)

-- a choice: what each null read saw, by the place of its begin; or none, and the read is left out
abbrev pub Choice : Type 0
Choice = ℕ → Option (Option ℕ)

-- each null read saw a candidate, or is left out
abbrev pub IsChoice : Bool → List Event → Choice → Type 0
IsChoice in_time es f =
    (client x i j : ℕ) (c : Option ℕ) → IsNullRead es client x i j → f i ≡ Some c → IsCandidate in_time es x j c

-- the same, but for null reads that have no candidate
abbrev pub IsChoiceWherePossible : Bool → List Event → Choice → Type 0
IsChoiceWherePossible in_time es f =
    (client x i j : ℕ) (c : Option ℕ) → IsNullRead es client x i j → f i ≡ Some c
    → IsCandidate in_time es x j c ⊎ ((d : Option ℕ) → ¬ IsCandidate in_time es x j d)

-- no null read is left out
abbrev pub IsWhole : List Event → Choice → Type 0
IsWhole es f = (client x i j : ℕ) → IsNullRead es client x i j → f i ≢ None

-- the choice that leaves all null reads out
abbrev pub leaves_out : Choice
leaves_out place = None

-- one choice leaves out more of the null reads than the other, and says the same of the rest
abbrev pub IsPartOf : List Event → Choice → Choice → Type 0
IsPartOf es g f = (client x i j : ℕ) (c : Option ℕ) → IsNullRead es client x i j → g i ≡ Some c → f i ≡ Some c
