-- Why null reads can't have seen what would be a candidate.
use Rattle.std.specs.Prelude.{◌≢◌, ℕ, ◌≤◌, All, Bool, IsTrue, List, Option, Some, None}
use Rattle.log_events.specs.declared.event.ClientCall.TheVariants.{ReadOf}
use Rattle.log_events.specs.declared.event.Ending.TheVariants.{GotNothing}
use Rattle.log_events.specs.declared.event.Event.{Event}
use Rattle.log_events.specs.Events.{IsEnded}
use Rattle.log_choices.specs.declared.exclusions.Exclusion.{Exclusion}
use Rattle.log_choices.specs.declared.exclusions.LackingRead.{LackingRead}
use Rattle.log_choices.specs.declared.exclusions.Reason.{Reason}
use Rattle.log_choices.specs.declared.exclusions.Reason.TheVariants.{Later, AfterRead, ReplacedBy}
use Rattle.log_choices.specs.ChoiceTables.{seen_of}
use Rattle.log_choices.specs.Forced.{BeginsWriteOf, Comes, LacksCandidates}

module _ (in_time : Bool) (es : List Event) (r : ℕ) where
  -- a read of x that begins at the place r, ends at the place j and got nothing can't have seen the start, or the delete that begins at a
  -- place, for this reason
  abbrev pub IsReason : ℕ → ℕ → Option ℕ → Reason → Type 0
  IsReason x j (Some p) Later = IsTrue in_time × (j ≤ p)
  IsReason x j (Some p) AfterRead = Comes in_time es r p
  IsReason x j (Some p) (ReplacedBy b) = BeginsWriteOf es x b × (b ≢ p) × Comes in_time es p b × Comes in_time es b r
  IsReason x j None Later = ⊥
  IsReason x j None AfterRead = ⊥
  IsReason x j None (ReplacedBy b) = BeginsWriteOf es x b × Comes in_time es b r

  -- the read that begins at the place r can't have seen this for this reason
  pub record IsExclusion (exclusion : Exclusion) : Type 0 where
    pub client : ℕ
    pub key : ℕ
    pub ends : ℕ
    pub ended : IsEnded es client (ReadOf key) r ends GotNothing
    pub reason : IsReason key ends (seen_of exclusion.seen) exclusion.reason

-- a null read is left with no candidate, and each exclusion is one of it
pub record IsLackingRead (in_time : Bool) (es : List Event) (read : LackingRead) : Type 0 where
  pub lacks : LacksCandidates in_time es read.place
  pub exclusions : All (IsExclusion in_time es read.place) read.exclusions.items
