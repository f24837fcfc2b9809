-- What the pass over a log that finds what is forced keeps.
use Rattle.std.specs.Prelude.{◌≡◌, ◌≢◌, ◌⊎◌, ⊤, ◌<◌, ◌≤◌, ℕ, suc, Bool, true, false, List, All, IsTrue, Option, Some, None, option_map}
use Rattle.std.specs.Prelude.{slice_get, slice_index, IfSome, IsSortedByKey, Contains}
use Rattle.std.specs.Ordering.{nat_cmp}
use Rattle.std.specs.declared.vec.Vec.{Vec}
use Rattle.model_objects.specs.Table.{IsRising}
use Rattle.log_events.specs.declared.event.ClientCall.{ClientCall}
use Rattle.log_events.specs.declared.event.ClientCall.TheVariants.{WriteTo, ReadOf, DeleteOf}
use Rattle.log_events.specs.declared.event.Ending.{Ending}
use Rattle.log_events.specs.declared.event.Ending.TheVariants.{GotNothing, Failed, Lost}
use Rattle.log_events.specs.declared.event.Event.{Event}
use Rattle.log_events.specs.declared.event.Event.TheVariants.{Begins}
use Rattle.log_events.specs.declared.limits.TheConstants.{MAX_EVENTS, MAX_NAME}
use Rattle.log_events.specs.Events.{Call, IsAt, IsEnded}
use Rattle.log_events.specs.Steps.CallKinds.{deleted_key}
use Rattle.log_choices.specs.Choices.{BeginsKeptDelete, IsCandidate, IsNullRead}
use Rattle.log_choices.specs.ChoiceTables.{seen_of}
use Rattle.log_choices.specs.Exclusions.{IsLackingRead}
use Rattle.log_choices.specs.Forced.{Comes, IsOut, LacksCandidates}
use Rattle.log_choices.specs.declared.forced_kept.Kept.{Kept}
use Rattle.log_choices.specs.declared.forced_kept.Delete.{Delete}
use Rattle.log_choices.specs.declared.forced_looks.NullRead.{NullRead}
use Rattle.log_choices.specs.declared.forced_lacking.Lacking.{Lacking}
use Rattle.log_choices.specs.declared.forced_looks.Left.{Left}
use Rattle.log_choices.specs.declared.forced_looks.Left.TheVariants.{NoneLeft, OneLeft, MoreLeft}
use Rattle.log_choices.specs.declared.forced_looks.Look.{Look}
use Rattle.log_choices.specs.declared.forced_looks.Look.TheVariants.{Open, Saw, Lacks}
use Rattle.log_choices.specs.declared.forced_plan.Plan.{Plan}
use Rattle.log_choices.specs.declared.seen.Seen.{Seen}
use Rattle.log_choices.specs.declared.seen.Seen.TheVariants.{Start, Delete as SeenDelete}

-- the key of a write or a delete that did not fail, and the value that it writes
abbrev pub written_by : ClientCall → Option Ending → Option (ℕ × Option ℕ)
written_by call (Some Failed) = None
written_by (ReadOf x) ending = None
written_by (WriteTo x v) ending = Some (x, Some v)
written_by (DeleteOf x) ending = Some (x, None)

-- the key and the place of a delete that did not fail
abbrev pub deleted_spot : Call → Option (ℕ × ℕ)
deleted_spot a = option_map (λ x. (x, a.place)) (deleted_key a.call a.ending)

abbrev pub spot_of : Delete → ℕ × ℕ
spot_of d = (d.key, d.place)

-- the call that writes a value to a key, or deletes it
abbrev pub writing : ℕ → Option ℕ → ClientCall
writing x (Some v) = WriteTo x v
writing x None = DeleteOf x

-- the first of the deletes of a key that begins before the read had ended, where that counts
abbrev pub IsFirst : Bool → ℕ → List Delete → Option Delete → Type 0
IsFirst in_time j deletes None = All (λ d. IsTrue in_time × (j ≤ d.place)) deletes
IsFirst in_time j deletes (Some d) = Contains deletes d × (IsTrue in_time → d.place < j)

-- what a null read must have seen, by which deletes are left, whether the start is, and that first delete
abbrev pub look_by : Left → Bool → Option Delete → Look
look_by NoneLeft true first = Saw Start
look_by NoneLeft false None = Lacks Start
look_by NoneLeft false (Some d) = Lacks (SeenDelete d.place)
look_by (OneLeft d) false first = Saw (SeenDelete d.place)
look_by (OneLeft d) true first = Open
look_by MoreLeft b first = Open

-- some of these deletes, of one key
abbrev pub AreOfKey : List Delete → ℕ → List Delete → Type 0
AreOfKey deletes x part = (d : Delete) → Contains part d → Contains deletes d × (d.key ≡ x)

-- a call ended, and neither failed nor was lost
abbrev pub IsAnswered : Option Ending → Type 0
IsAnswered ending = (ending ≢ None) × (ending ≢ Some Failed) × (ending ≢ Some Lost)

module _ (es : List Event) where
  -- the deletes that did not fail, by key
  pub record AreDeletes (deletes : List Delete) : Type 0 where
    pub listed : All (λ d. BeginsKeptDelete es d.key d.place) deletes
    pub lists : (x p : ℕ) → BeginsKeptDelete es x p → (d : Delete) × Contains deletes d × (d.key ≡ x) × (d.place ≡ p)
    pub sorted : IsSortedByKey (λ d. d.key) nat_cmp deletes

  -- a read got nothing
  pub record GetsNothing (read : NullRead) : Type 0 where
    pub small : read.key ≤ MAX_NAME
    pub ended : IsEnded es read.client (ReadOf read.key) read.place read.end GotNothing

module _ (in_time : Bool) (es : List Event) where
  -- each count is one more than the place of a call of that client that comes before the call at the place q
  abbrev pub IsPast : List ℕ → ℕ → Type 0
  IsPast counts q = (c p : ℕ) → slice_index counts c ≡ suc p → ((call : ClientCall) × IsAt es p (Begins c call)) × Comes in_time es p q

  -- of each call that the client begins at the place b or after it
  abbrev pub IsPastFrom : ℕ → ℕ → List ℕ → Type 0
  IsPastFrom client b counts = (q : ℕ) (call : ClientCall) → b ≤ q → IsAt es q (Begins client call) → IsPast counts q

  -- for each client what comes before its calls from the place b on
  abbrev pub ArePasts : {Z : Type 0} → ℕ → List (Vec ℕ Z) → Type 0
  ArePasts {Z} b pasts = (client : ℕ) (past : Vec ℕ Z) → slice_get pasts client ≡ Some past → IsPastFrom client b past.items

  -- a write or a delete that did not fail, and what comes before it
  pub record IsKeptWrite (w : Kept) : Type 0 where
    pub begun : IsAt es w.place (Begins w.client (writing w.key w.value))
    pub not_failed : (k : ℕ) → ¬ IsEnded es w.client (writing w.key w.value) w.place k Failed
    pub not_lost : w.is_lost ≡ false → (k : ℕ) → ¬ IsEnded es w.client (writing w.key w.value) w.place k Lost
    pub small : w.place < MAX_EVENTS
    pub past : IsPast w.past.items w.place

  -- what the pass looks up
  pub record IsPlan (plan : Plan) : Type 0 where
    pub writes : All IsKeptWrite plan.writes.items
    pub deletes : AreDeletes es plan.deletes.items

  -- the write of that number is of the key, and comes before the call at the place r
  abbrev pub IsReplacing : List Kept → ℕ → ℕ → ℕ → Type 0
  IsReplacing writes x r number = (w : Kept) × (slice_get writes number ≡ Some w) × (w.key ≡ x) × Comes in_time es w.place r

  -- the null read that begins at the place r and ends at the place j can't have seen the delete that begins at the place p: it is out, or
  -- it begins after the read had ended, in the order of time
  abbrev pub IsExcluded : ℕ → ℕ → ℕ → Type 0
  IsExcluded r j p = IsOut in_time es r (Some p) ⊎ (IsTrue in_time × (j ≤ p))

  -- of some deletes none, one or more may be what the read saw
  abbrev pub IsLeft : ℕ → ℕ → List Delete → Left → Type 0
  IsLeft r j deletes NoneLeft = All (λ d. IsExcluded r j d.place) deletes
  IsLeft r j deletes (OneLeft e) =
      Contains deletes e × (IsTrue in_time → e.place < j) × All (λ d. d.place ≢ e.place → IsExcluded r j d.place) deletes
  IsLeft r j deletes MoreLeft = ⊤

  -- this is a candidate of the null read that begins at the place r, or it has none; and each other candidate is out
  pub record IsLeftWith (r : ℕ) (c : Option ℕ) : Type 0 where
    pub client : ℕ
    pub key : ℕ
    pub ends : ℕ
    pub null : IsNullRead es client key r ends
    pub candidate : IsCandidate in_time es key ends c ⊎ ((d : Option ℕ) → ¬ IsCandidate in_time es key ends d)
    pub others : (d : Option ℕ) → IsCandidate in_time es key ends d → d ≢ c → IsOut in_time es r d

  -- what is found of the read that begins at the place r, if anything is
  abbrev pub IsLook : ℕ → Look → Type 0
  IsLook r Open = ⊤
  IsLook r (Saw seen) = IsLeftWith r (seen_of seen)
  IsLook r (Lacks seen) = IsLeftWith r (seen_of seen) × LacksCandidates in_time es r

  -- null reads that are left with no candidate, and why one of them is
  pub record AreLacking (lacking : Lacking) : Type 0 where
    pub places : All (LacksCandidates in_time es) lacking.places.items
    pub first : IfSome lacking.first (IsLackingRead in_time es)

  -- what is found of some null reads, by the places of their begins
  pub record AreForcedReads (table : List (ℕ × Seen)) : Type 0 where
    pub seen : All (λ entry. IsLeftWith entry.0 (seen_of entry.1)) table
    pub rising : IsRising table

  -- of null reads that begin before the place b
  pub record AreFoundBelow (b : ℕ) (table : List (ℕ × Seen)) : Type 0 where
    pub forced : AreForcedReads table
    pub below : All (λ entry. entry.0 < b) table
